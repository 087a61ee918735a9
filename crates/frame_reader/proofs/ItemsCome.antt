-- What a further item of a file brings to what was written of it.
use Rattle.std.proofs.Common.{◌≡◌, ℕ, List, [], ◌∷◌, ◌++◌, Some, None, All, Bool, true, false, inl, inr}
use Rattle.std.proofs.Common.{length, map, refl, sym, ap, ◌∙◌, subst, arith, length-append, IsSomeAnd}
use Rattle.std.proofs.Math.Seq.{get_or-append_seam}
use Rattle.std.proofs.lemmas.Bool.{false≢true}
use Rattle.std.proofs.lemmas.List.{append-nil, map-append}
use Rattle.std.proofs.lemmas.List.Elements.{All-from_recursion, recursion_from_All, All-weaker}
use Rattle.std.proofs.lemmas.Option.{none-some, same_Some, option_and_then_some}
use Rattle.std.specs.Prelude.{◌==◌}
use Rattle.std.specs.Option.{option_to_list}
use Rattle.scalar_types.specs.declared.Order.{Order}
use Rattle.type_text.proofs.FoundLemmas.{find-some}
use Rattle.dictionary.specs.declared.entries.Entry.{Entry}
use Rattle.dictionary.specs.Dictionary.{entry_of}
use Rattle.layout_plan.specs.Layout.{layout_of}
use Rattle.layout_plan.specs.Plans.{plan_of}
use Rattle.layout_plan.proofs.LayoutLemmas.{layout_of-sound}
use Rattle.rooted_graph.specs.BreadthOrder.{IsBreadthOrder}
use Rattle.link_graph.specs.declared.nodes.Root.TheVariants.{Head}
use Rattle.link_graph.specs.Collected.{Collected}
use Rattle.link_graph.specs.Graph.{Layouts, ReadsBy, first_loose, graph_of, roots_from}
use Rattle.file_grammar.specs.declared.kind.Kind.{Kind}
use Rattle.file_grammar.specs.declared.kind.Kind.TheVariants.{FrSH, FrSE, FrameH, FrEndOfFrame, FrTOC, FrEndOfFile}
use Rattle.file_grammar.specs.declared.kind.Kind.TheVariants.{Other}
use Rattle.file_grammar.specs.Structure.{Structure}
use Rattle.file_grammar.specs.Kind.{kind_of}
use Rattle.file_grammar.specs.Item.{Item, EntryItem, OtherItem, Before, after, after_kind, dictionary_after}
use Rattle.file_grammar.specs.MayStand.{MayStand, KindMayStand, Begins}
use Rattle.file_grammar.specs.Record.{Reading, layout_in, reading_by, reading_of, weight_of, AreLinked}
use Rattle.file_grammar.specs.Fault.{Here, structure, entries_before, kind}
use Rattle.file_grammar.proofs.Bodies.{reading-found}
use Rattle.frame_content.specs.Frames.{Frame, frame_by, frame_of}
use Rattle.file_content.specs.Stored.{StoredFrame, structures_brought, frame_ended, frame_of_kind, frames_in}
use Rattle.file_content.specs.Contents.{content_frame}
use Rattle.file_content.proofs.Brought.{frames-push}
use Rattle.file_content.proofs.GivenKinds.{structure-here, ends-frame}
use Rattle.contents_table.specs.Channels.{header_of}
use Rattle.canonical_file.specs.Ranges.{AreBytes}
use Rattle.canonical_file.specs.Ordered.{IsInOrder, ordered}
use Rattle.canonical_file.specs.Renumbered.{HasOneHeader}
use Rattle.canonical_laws.specs.Writable.{IsWritableElement, IsWritableEntry}
use Rattle.canonical_laws.specs.Sources.{printed_entries, IsWritableInOrder}
use Rattle.canonical_laws.proofs.DictionarySteps.{Stepped, after-gives, StaysIn}
use Rattle.canonical_laws.proofs.SourceItems.{item-stays}
use Rattle.canonical_laws.proofs.Sources.{source_entries, source_frames}
use Rattle.canonical_writer.specs.Parts.{IsShortElement, IsShortEntry}
use Rattle.canonical_writer.proofs.SegmentOrders.{frame-breadth}
use Rattle.item_reader.specs.declared.item.Item.{Item as Given}
use Rattle.item_reader.specs.declared.item.Item.TheVariants as given
use Rattle.item_reader.specs.State.{bodied_of}
use Rattle.item_reader.specs.Given.{Tells, TellsKind}
use Rattle.item_reader.specs.Reader.{Reader, Goes, here_of}
use Rattle.item_reader.proofs.ReadOn.{begins-more}
use Rattle.frame_reader.specs.Gives.{frames_among}
use Rattle.frame_reader.specs.Given.{Lends}
use Rattle.frame_reader.proofs.EndedFrames.{one-head, none-loose}

-- ---- parts of a frame that can be written

-- what holds of all holds of the last one
all-last : {X : Type 0} (P : X → Type 0) (xs : List X) (x : X) → All P (xs ++ x ∷ []) → P x
all-last P xs x all =
    subst P (get_or-append_seam xs x [] x)
    (all (length xs) x (omega (arith, length-append xs (x ∷ []))))

-- an entry that can be written has short texts
short-entry : (e : Entry) → IsWritableEntry e → IsShortEntry e
short-entry e w = record {
  name = w.name;
  comment = w.comment;
  elements = All-weaker IsWritableElement IsShortElement
      (λ x v. record { name = v.name; text = v.text; comment = v.comment }) e.elements
      (All-from_recursion IsWritableElement e.elements w.elements);
}

-- and so has each that is held, where all can be written
short-held : (es : List Entry) → All IsWritableEntry es → (class : ℕ) (e : Entry) → entry_of es class ≡ Some e
    → IsShortEntry e
short-held es all class e found =
    short-entry e
    (find-some (λ (x : Entry). class == x.class) IsWritableEntry es e (recursion_from_All IsWritableEntry es all) found)

-- a structure that reads by the dictionary reads by the plans
structure-reads : (plans : Layouts) (order : Order) (es : List Entry) (s : Structure) (r : Reading)
    → ((class : ℕ) → plan_of plans class ≡ layout_in es class) → reading_of order es s ≡ Some r
    → ReadsBy plans order (bodied_of es s)
structure-reads plans order es s r are is =
    option_and_then_some (reading_by order s.body) (layout_in es s.class) r is (λ fs there read.
    option_and_then_some (λ (e : Entry). layout_of e.elements) (entry_of es s.class) fs there (λ e found layout.
    record {
      fields = fs;
      plan = are s.class ∙ there;
      reads = (r.values, r.tail, reading-found order s.body fs r (layout_of-sound e.elements fs layout) read);
    }))

-- ---- the end of a frame

-- an item that ends a frame: the frame comes after those before it, and can be written
pub record BringsFrame (file : List ℕ) (before new : Reader) (items : List Item) (numbers : List ℕ) : Type 0 where
  pub taken : Item
  pub begins : Begins file new.order (items ++ taken ∷ []) new.before
  pub frame : Frame
  pub frames_are : frames_among new.order (items ++ taken ∷ []) ≡ frames_among new.order items ++ frame ∷ []
  pub lends : (plans : Layouts) → ((class : ℕ) → plan_of plans class ≡ layout_in new.before.dictionary class)
      → All (ReadsBy plans new.segment.order) new.segment.nodes → Lends frame plans numbers new
  pub order_is : new.segment.order ≡ new.order
  pub is : frame ≡ frame_of new.before.dictionary new.segment
  pub heads : roots_from Head 0 new.segment.nodes ≡ option_to_list (header_of frame)
  pub linked : (plans : Layouts) → ((class : ℕ) → plan_of plans class ≡ layout_in new.before.dictionary class)
      → first_loose plans new.segment ≡ None
  pub same : new.before.dictionary ≡ before.before.dictionary

-- the frame that a structure ends
abbrev stored_frame : Before → Structure → StoredFrame
stored_frame b s = record {
  held = b.dictionary;
  nodes = map (bodied_of b.dictionary) b.frame;
  end = bodied_of b.dictionary s;
}

-- the frame of a segment that has the records of a stored one
same-frame : (order : Order) (segment : Collected) (f : StoredFrame) → segment.order ≡ order → segment.nodes ≡ f.nodes
    → segment.end_record ≡ Some f.end → content_frame order f ≡ frame_of f.held segment
same-frame order segment f order_is nodes end =
    sym (λ i. frame_by (order_is i) f.held (nodes i) (end i))

-- the file begins with the items up to the new place
begins-new : (file : List ℕ) (before new : Reader) (items : List Item) (taken : Item)
    → Begins file before.order items before.before → MayStand before.order file before.before taken
    → before.order ≡ new.order → new.before ≡ after before.order before.before taken
    → Begins file new.order (items ++ taken ∷ []) new.before
begins-new file before new items taken begins may same was =
    subst (λ o. Begins file o (items ++ taken ∷ []) new.before) same
    (subst (Begins file before.order (items ++ taken ∷ [])) (sym was)
    (begins-more file before.order items before.before taken begins may))

-- an item that is given as the end of a frame brings it
frame-ends : (file : List ℕ) (before new : Reader) (at class : ℕ) (items : List Item) (numbers : List ℕ)
    → AreBytes file → Begins file before.order items before.before → Goes file before (given.FrameEnd at class) new
    → before.order ≡ new.order → new.numbering ≡ Some numbers → BringsFrame file before new items numbers
frame-ends file before new at class items numbers bytes begins goes same numbering =
    by goes.taken goes.stands goes.tells goes.before
  where
    b : Before
    b = before.before

    h : Here
    h = here_of file before

    breadth : (plans : Layouts) → ((class : ℕ) → plan_of plans class ≡ layout_in new.before.dictionary class)
        → new.before.dictionary ≡ b.dictionary → IsBreadthOrder (graph_of plans new.segment) numbers
    breadth plans are kept =
        subst (IsBreadthOrder (graph_of plans new.segment))
        (same_Some goes.frame.numbers numbers (sym goes.frame.numbering_is ∙ numbering))
        (goes.frame.breadth plans (λ class. are class ∙ ap (λ es. layout_in es class) kept))

    of : (s : Structure) → MayStand before.order file b (OtherItem s) → kind_of b.dictionary s.class ≡ FrEndOfFrame
        → s ≡ structure h → new.before ≡ after before.order b (OtherItem s)
        → BringsFrame file before new items numbers
    of s may is here was =
        let kept : new.before.dictionary ≡ b.dictionary =
        ap (λ (b : Before). b.dictionary) was
        ∙ ap (λ k. (after_kind k b s (weight_of before.order b.dictionary s)).dictionary) is in
        let more : List Item = items ++ OtherItem s ∷ [] in
        let begun : Begins file new.order more new.before =
        begins-new file before new items (OtherItem s) begins may same was in
        let frame : Frame = content_frame before.order (stored_frame b s) in
        let frames : frames_among before.order more ≡ frames_among before.order items ++ frame ∷ [] =
        ap (map (content_frame before.order)) (frames-push file before.order items b (OtherItem s) begins
        ∙ ap (λ k. frames_in before.order items ++ frame_of_kind k b s) is)
        ∙ map-append (content_frame before.order) (frames_in before.order items) (stored_frame b s ∷ []) in
        let frames_are : frames_among new.order more ≡ frames_among new.order items ++ frame ∷ [] =
        subst (λ o. frames_among o more ≡ frames_among o items ++ frame ∷ []) same frames in
        let end : new.segment.end_record ≡ Some (bodied_of b.dictionary s) =
        goes.frame.end_record ∙ ap (λ s. Some (bodied_of b.dictionary s)) (sym here) in
        let frame_is : frame ≡ frame_of new.before.dictionary new.segment =
        same-frame before.order new.segment (stored_frame b s) goes.frame.order_is goes.frame.nodes end
        ∙ ap (λ es. frame_of es new.segment) (sym kept) in
        let standing = subst (λ k. KindMayStand k before.order b s) is may.1.kind in
        let record_may = standing.0 in
        let dictionary : List Entry = printed_entries new.before.dictionary in
        let all : All (IsWritableInOrder dictionary) (frames_among new.order more) =
        source_frames file new.order more new.before bytes begun in
        let one : HasOneHeader frame =
        (all-last (IsWritableInOrder dictionary) (frames_among new.order items) frame
        (subst (All (IsWritableInOrder dictionary)) frames_are all)).header in
        let nodes : new.segment.nodes ≡ map (bodied_of new.before.dictionary) b.frame =
        goes.frame.nodes ∙ ap (λ es. map (bodied_of es) b.frame) (sym kept) in
        record {
          taken = OtherItem s;
          begins = begun;
          frame = frame;
          frames_are = frames_are;
          lends = λ plans are reads. record {
            in_order = subst
                (λ f. IsInOrder f (ordered (frame_of new.before.dictionary new.segment) numbers)) (sym frame_is)
                (record {
                  order = numbers;
                  breadth = frame-breadth new.before.dictionary plans new.segment numbers are (breadth plans are kept);
                  is = refl;
                });
            can = record {
              bodies = reads;
              end = subst (λ o. IsSomeAnd o (ReadsBy plans new.segment.order)) (sym end)
                  (subst (λ o. ReadsBy plans o (bodied_of b.dictionary s)) (sym goes.frame.order_is)
                  (structure-reads plans before.order b.dictionary s record_may.reading
                  (λ class. are class ∙ ap (λ es. layout_in es class) kept) record_may.reads));
              breadth = breadth plans are kept;
              texts = short-held new.before.dictionary (source_entries file new.order more new.before bytes begun).own;
              header = subst HasOneHeader frame_is one;
            };
          };
          order_is = goes.frame.order_is ∙ same;
          is = frame_is;
          heads = one-head new.before.dictionary new.segment b.frame frame nodes frame_is one;
          linked = none-loose new.before.dictionary new.segment b.frame nodes
              (subst (λ o. AreLinked o new.before.dictionary b.frame b.frame) (sym goes.frame.order_is)
              (subst (λ es. AreLinked before.order es b.frame b.frame) (sym kept) standing.2));
          same = kept;
        }

    by : (taken : Item) → MayStand before.order file b taken → Tells h taken (given.FrameEnd at class)
        → new.before ≡ after before.order b taken → BringsFrame file before new items numbers
    by (EntryItem head run entry) may tells was = absurd tells
    by (OtherItem s) may tells was =
        let here = structure-here before.order file b s may in
        let ends = ends-frame (kind h) h s at class tells in
        of s may (ap (λ (s : Structure). kind_of b.dictionary s.class) here ∙ ends) here was

-- an item after which an order is lent brings the frame
pub frame-comes : (file : List ℕ) (before new : Reader) (item : Given) (items : List Item) (numbers : List ℕ)
    → AreBytes file → Begins file before.order items before.before → Goes file before item new
    → before.order ≡ new.order → new.numbering ≡ Some numbers → BringsFrame file before new items numbers
frame-comes file before new (given.FrameEnd at class) items numbers bytes begins goes one told =
    frame-ends file before new at class items numbers bytes begins goes one told
frame-comes file before new (given.Entry at class changed) items numbers bytes begins goes one told =
    absurd (none-some numbers (sym goes.frame.1 ∙ told))
frame-comes file before new (given.Plain at class n k) items numbers bytes begins goes one told =
    absurd (none-some numbers (sym goes.frame.1 ∙ told))
frame-comes file before new (given.Table at class size) items numbers bytes begins goes one told =
    absurd (none-some numbers (sym goes.frame.1 ∙ told))
frame-comes file before new (given.FileEnd at class n seek) items numbers bytes begins goes one told =
    absurd (none-some numbers (sym goes.frame.1 ∙ told))

-- ---- any other item

-- any other item: no frame comes, and what is held stays held
pub record BringsNone (file : List ℕ) (before new : Reader) (items : List Item) : Type 0 where
  pub taken : Item
  pub begins : Begins file new.order (items ++ taken ∷ []) new.before
  pub frames_are : frames_among new.order (items ++ taken ∷ []) ≡ frames_among new.order items
  pub stays : StaysIn before.before.dictionary new.before.dictionary

-- it is no end of a frame
no-end : (file : List ℕ) (before new : Reader) (item : Given) → Goes file before item new → new.numbering ≡ None
    → (at class : ℕ) → item ≡ given.FrameEnd at class → ⊥
no-end file before new (given.FrameEnd a c) goes none at class is =
    none-some goes.frame.numbers (sym none ∙ goes.frame.numbering_is)
no-end file before new (given.Entry a c changed) goes none at class is = cc
no-end file before new (given.Plain a c instance node) goes none at class is = cc
no-end file before new (given.Table a c size) goes none at class is = cc
no-end file before new (given.FileEnd a c size seek) goes none at class is = cc

-- so the structure ends none
told-none : (k : Kind) (h : Here) (b : Before) (s : Structure) (item : Given) → TellsKind k h s item
    → ((at class : ℕ) → item ≡ given.FrameEnd at class → ⊥) → frame_of_kind k b s ≡ []
told-none FrEndOfFrame h b s (given.FrameEnd at class) tells other = absurd (other at class refl)
told-none FrEndOfFrame h b s (given.Entry at class changed) tells other = absurd tells
told-none FrEndOfFrame h b s (given.Plain at class instance node) tells other = absurd tells
told-none FrEndOfFrame h b s (given.Table at class size) tells other = absurd tells
told-none FrEndOfFrame h b s (given.FileEnd at class size seek) tells other = absurd tells
told-none FrameH h b s item tells other = refl
told-none Other h b s item tells other = refl
told-none FrTOC h b s item tells other = refl
told-none FrEndOfFile h b s item tells other = refl
told-none FrSH h b s item tells other = refl
told-none FrSE h b s item tells other = refl

-- and no frame is brought
none-ends : (file : List ℕ) (before : Reader) (item : Given) (taken : Item)
    → MayStand before.order file before.before taken → Tells (here_of file before) taken item
    → ((at class : ℕ) → item ≡ given.FrameEnd at class → ⊥) → structures_brought frame_ended before.before taken ≡ []
none-ends file before item (EntryItem head run entry) may tells other = refl
none-ends file before item (OtherItem s) may tells other =
    let h : Here = here_of file before in
    ap (λ (t : Structure). frame_of_kind (kind_of before.before.dictionary t.class) before.before s)
    (structure-here before.order file before.before s may)
    ∙ told-none (kind h) h before.before s item tells other

pub none-comes : (file : List ℕ) (before new : Reader) (item : Given) (items : List Item)
    → Begins file before.order items before.before → Goes file before item new → before.order ≡ new.order
    → new.numbering ≡ None → BringsNone file before new items
none-comes file before new item items begins goes same numbering =
    let b : Before = before.before in
    let more : List Item = items ++ goes.taken ∷ [] in
    let frames : frames_in before.order more ≡ frames_in before.order items =
    frames-push file before.order items b goes.taken begins
    ∙ ap (λ fs. frames_in before.order items ++ fs)
    (none-ends file before item goes.taken goes.stands goes.tells (no-end file before new item goes numbering))
    ∙ append-nil (frames_in before.order items) in
    record {
      taken = goes.taken;
      begins = begins-new file before new items goes.taken begins goes.stands same goes.before;
      frames_are = subst (λ o. frames_among o more ≡ frames_among o items) same
          (ap (map (content_frame before.order)) frames);
      stays = subst (λ (x : Before). StaysIn b.dictionary x.dictionary) (sym goes.before)
          (item-stays before.order b goes.taken);
    }

-- an entry comes without a frame
pub entry-alone : (file : List ℕ) (before new : Reader) (at class : ℕ) (changed : Bool)
    → Goes file before (given.Entry at class changed) new → new.numbering ≡ None
entry-alone file before new at class changed goes = goes.frame.1

-- ---- where the dictionary stays the same

-- a structure leaves the dictionary as it is
kind-keeps : (kind : Kind) (b : Before) (s : Structure) (weight : ℕ)
    → (after_kind kind b s weight).dictionary ≡ b.dictionary
kind-keeps FrSH b s weight = refl
kind-keeps FrSE b s weight = refl
kind-keeps FrameH b s weight = refl
kind-keeps FrEndOfFrame b s weight = refl
kind-keeps FrTOC b s weight = refl
kind-keeps FrEndOfFile b s weight = refl
kind-keeps Other b s weight = refl

-- an entry of which it is told that it changed nothing
unchanged-same : (es : List Entry) (e : Entry) → ((dictionary_after es e ≡ es → ⊥) → ⊥) → dictionary_after es e ≡ es
unchanged-same es e kept = by (after-gives es e)
  where
    longer : dictionary_after es e ≡ es ++ e ∷ [] → dictionary_after es e ≡ es → ⊥
    longer grown same =
        let one : length es ≡ length (es ++ e ∷ []) = ap length (sym same ∙ grown) in
        omega (arith, one, length-append es (e ∷ []))

    by : Stepped es e (dictionary_after es e) → dictionary_after es e ≡ es
    by (inl same) = same
    by (inr both) = absurd (kept (longer both.1))

-- so it is of an entry that is given as one that changed nothing
entry-same : (h : Here) (head : Structure) (run : List Structure) (entry : Entry) (item : Given)
    → Tells h (EntryItem head run entry) item → ((at class : ℕ) → item ≡ given.Entry at class true → ⊥)
    → dictionary_after (entries_before h) entry ≡ entries_before h
entry-same h head run entry (given.Entry at class true) tells unchanged = absurd (unchanged at class refl)
entry-same h head run entry (given.Entry at class false) tells unchanged =
    unchanged-same (entries_before h) entry (λ grown. false≢true (tells.2.1 grown))
entry-same h head run entry (given.Plain at class instance node) tells unchanged = absurd tells
entry-same h head run entry (given.FrameEnd at class) tells unchanged = absurd tells
entry-same h head run entry (given.Table at class size) tells unchanged = absurd tells
entry-same h head run entry (given.FileEnd at class size seek) tells unchanged = absurd tells

-- where no entry changed the dictionary it is the same
pub same-dictionary : (file : List ℕ) (before new : Reader) (item : Given) → Goes file before item new
    → ((at class : ℕ) → item ≡ given.Entry at class true → ⊥) → new.before.dictionary ≡ before.before.dictionary
same-dictionary file before new item goes unchanged =
    ap (λ (b : Before). b.dictionary) goes.before ∙ by goes.taken goes.tells
  where
    by : (taken : Item) → Tells (here_of file before) taken item
        → (after before.order before.before taken).dictionary ≡ before.before.dictionary
    by (EntryItem head run entry) tells = entry-same (here_of file before) head run entry item tells unchanged
    by (OtherItem s) tells =
        kind-keeps (kind_of before.before.dictionary s.class) before.before s
        (weight_of before.order before.before.dictionary s)
