-- What is kept of the items of a file, after one more of them.
use Rattle.std.proofs.Common.{◌≡◌, ◌≢◌, ℕ, ◌⊎◌, inl, inr, Bool, true, false, ◌&&◌, if◌then◌else◌, is_none, List, []}
use Rattle.std.proofs.Common.{◌∷◌, ◌++◌}
use Rattle.std.proofs.Common.{cond, codes, IsTrue, Result, Ok, Err, ◌+◌, is_some, append-nil, length-append}
use Rattle.std.proofs.Common.{length, map, Option, Some, None, refl, ap, sym, subst, ◌∙◌, arith, option_and_then}
use Rattle.std.proofs.lemmas.Bool.{false≢true}
use Rattle.std.specs.List.{last_or}
use Rattle.scalar_types.specs.declared.Order.{Order}
use Rattle.dictionary.specs.declared.entries.Entry.{Entry}
use Rattle.dictionary.specs.declared.held.AddFault.{AddFault}
use Rattle.dictionary.specs.declared.held.AddFault.TheVariants.{ClassRange, Redefined, NameTwice, ElementLimit}
use Rattle.dictionary.specs.Same.{same_entries}
use Rattle.dictionary.specs.Dictionary.{entry_of, class_named, is_built_in, is_out_of_range, is_too_long, step, step_by}
use Rattle.dictionary.specs.Dictionary.{IsDictionary}
use Rattle.layout_plan.specs.declared.fields.Field.{Field}
use Rattle.layout_plan.specs.Plans.{plan_of}
use Rattle.link_graph.specs.Collected.{Collected}
use Rattle.link_graph.specs.Graph.{Layouts}
use Rattle.file_grammar.specs.declared.kind.Kind.{Kind}
use Rattle.file_grammar.specs.declared.kind.Kind.TheVariants.{FrameH, FrEndOfFrame, FrTOC, FrEndOfFile, Other}
use Rattle.file_grammar.specs.Structure.{Structure}
use Rattle.file_grammar.specs.Kind.{kind_of, is_table_kind}
use Rattle.file_grammar.specs.Record.{layout_in, reading_by, values_of, weight_of}
use Rattle.file_grammar.specs.Item.{Item, EntryItem, OtherItem, Before, after, after_kind}
use Rattle.file_grammar.specs.Item.{dictionary_by, dictionary_after}
use Rattle.file_grammar.specs.MayStand.{MayStand, KindMayStand}
use Rattle.file_grammar.specs.Closing.{number_named}
use Rattle.file_grammar.specs.Fault.{Here, structure, kind}
use Rattle.item_reader.specs.declared.item.Item.{Item as Given}
use Rattle.item_reader.specs.declared.item.Item.TheVariants as given
use Rattle.item_reader.specs.State.{bodied_of}
use Rattle.item_reader.specs.Given.{Tells, body_after}
use Rattle.item_reader.specs.Reader.{Reader, Goes, here_of}
use Rattle.item_reader.proofs.ReadOn.{begins-more}
use Rattle.frame_content.specs.Frames.{frame_by, frame_of}
use Rattle.contents_table.specs.Built.{Built, with_frame_of}
use Rattle.contents_table.specs.Layouts.{AreOf, layouts_of}
use Rattle.file_content.specs.declared.scan.FoundTable.{FoundTable}
use Rattle.file_content.specs.declared.scan.Scan.{Scan}
use Rattle.file_content.specs.declared.state.TableState.{TableState}
use Rattle.file_content.specs.Stored.{StoredFrame, StoredTable, structures_brought, frame_ended, frame_of_kind}
use Rattle.file_content.specs.Stored.{table_here}
use Rattle.file_content.specs.Stored.{table_of_kind, seek_told, seek_of_kind, elements_of, frames_in, table_in, seek_in}
use Rattle.file_content.specs.Contents.{built_of, with_stored, is_listed, listed_in, listed_by, if_frames, IsJudged}
use Rattle.file_content.specs.Scanned.{IsFound, HasItems, HasScanned}
use Rattle.file_content.proofs.Brought.{frames-push, table-push, seek-push, built-push}
use Rattle.file_content.proofs.GivenKinds.{structure-here, no-entry, ends-frame, is-table, is-record, ends-file}

-- ---- one more item of any kind

-- what is kept after an item, by what it brings
record Adds (order : Order) (items : List Item) (after : Before) (frames : List StoredFrame) (tables : List StoredTable)
    (seeks : List ℕ) (now : Given) (next : Scan) : Type 0 where
  sound : IsDictionary after.dictionary
  layouts : next.layouts ≡ layouts_of after.dictionary
  channels : next.channels ≡ built_of order (frames_in order items ++ frames)
  table : IsFound order after.frames next.channels (last_or (table_in order items) tables) next.table
  none : after.table ≡ false → last_or (table_in order items) tables ≡ None
  seek : (at class length seek : ℕ) → now ≡ given.FileEnd at class length seek
      → last_or (seek_in order items) seeks ≡ Some seek

same-given : (x y : Given) → Some x ≡ Some y → x ≡ y
same-given x y is = cc

more : (file : List ℕ) (order : Order) (b : Before) (last : Option Given) (scan : Scan)
    (old : HasItems file order b last scan) (item : Item) (now : Given) (next : Scan) → MayStand order file b item
    → Adds order old.items (after order b item) (structures_brought frame_ended b item)
    (structures_brought table_here b item)
    (structures_brought (seek_told order) b item) now next
    → HasItems file order (after order b item) (Some now) next
more file order b last scan old item now next may adds = record {
  items = old.items ++ item ∷ [];
  begins = begins-more file order old.items b item old.begins may;
  sound = adds.sound;
  layouts_are = adds.layouts;
  channels_are = adds.channels ∙ ap (built_of order) (sym (frames-push file order old.items b item old.begins));
  table_is = subst (λ t. IsFound order (after order b item).frames next.channels t next.table)
      (sym (table-push file order old.items b item old.begins)) adds.table;
  no_table = λ none. table-push file order old.items b item old.begins ∙ adds.none none;
  seek_is = λ at class length seek is. seek-push file order old.items b item old.begins
      ∙ adds.seek at class length seek (same-given now (given.FileEnd at class length seek) is);
}

-- a structure of a kind
by-kind : (file : List ℕ) (order : Order) (b : Before) (last : Option Given) (scan : Scan)
    (old : HasItems file order b last scan) (s : Structure) (k : Kind) (now : Given) (next : Scan)
    → MayStand order file b (OtherItem s) → kind_of b.dictionary s.class ≡ k
    → Adds order old.items (after_kind k b s (weight_of order b.dictionary s)) (frame_of_kind k b s)
    (table_of_kind k b s) (seek_of_kind order k b s) now next
    → HasItems file order (after order b (OtherItem s)) (Some now) next
by-kind file order b last scan old s k now next may is adds =
    more file order b last scan old (OtherItem s) now next may
    (subst (λ k. Adds order old.items (after_kind k b s (weight_of order b.dictionary s)) (frame_of_kind k b s)
    (table_of_kind k b s) (seek_of_kind order k b s) now next) (sym is) adds)

-- what a reader has then
settled : (file : List ℕ) (before new : Reader) (taken : Item) (now : Given) (next : Scan)
    → new.order ≡ before.order → new.before ≡ after before.order before.before taken → new.last ≡ Some now
    → HasItems file before.order (after before.order before.before taken) (Some now) next → HasScanned file new next
settled file before new taken now next same was last has =
    subst (λ o. HasItems file o new.before new.last next) (sym same)
    (subst (λ b. HasItems file before.order b new.last next) (sym was)
    (subst (λ l. HasItems file before.order (after before.order before.before taken) l next) (sym last) has))

-- ---- entries

-- the dictionary after an entry is the same, or has it beside the others
abbrev Stays : List Entry → Entry → Result (List Entry) AddFault → Type 0
Stays held e r = (dictionary_by held r ≡ held) ⊎ (dictionary_by held r ≡ held ++ e ∷ [])

either : (held : List Entry) (e : Entry) (b : Bool) (x y : Result (List Entry) AddFault) → Stays held e x
    → Stays held e y → Stays held e (cond b x y)
either held e true x y left right = left
either held e false x y left right = right

step-stays : (held : List Entry) (e : Entry) → Stays held e (step held e)
unfolding step
step-stays held e =
    either held e (is_built_in e.class) (cond (is_too_long e) (Err ElementLimit) (Ok held))
    (cond (is_out_of_range e.class) (Err ClassRange) (step_by (entry_of held e.class) held e))
    (either held e (is_too_long e) (Err ElementLimit) (Ok held) (inl refl) (inl refl))
    (either held e (is_out_of_range e.class) (Err ClassRange) (step_by (entry_of held e.class) held e) (inl refl)
    (by (entry_of held e.class)))
  where
    by : (o : Option Entry) → Stays held e (step_by o held e)
    by (Some old) = either held e (same_entries old e) (Ok held) (Err Redefined) (inl refl) (inl refl)
    by None =
        either held e (is_some (class_named held e.name)) (Err NameTwice)
        (cond (is_too_long e) (Err ElementLimit) (Ok (held ++ e ∷ []))) (inl refl)
        (either held e (is_too_long e) (Err ElementLimit) (Ok (held ++ e ∷ [])) (inl refl) (inr refl))

not-longer : (held : List Entry) (e : Entry) → held ++ e ∷ [] ≡ held → ⊥
not-longer held e same = absurd (omega (arith, length-append held (e ∷ []), ap length same))

unchanged : (held after : List Entry) (e : Entry) → (after ≡ held) ⊎ (after ≡ held ++ e ∷ [])
    → (after ≢ held → IsTrue false) → after ≡ held
unchanged held after e (inl same) not = same
unchanged held after e (inr grown) not =
    absurd (false≢true (not (λ same. not-longer held e (sym grown ∙ same))))

-- the dictionary is the same after an entry that changed nothing
pub same-dictionary : (file : List ℕ) (before new : Reader) (at class : ℕ)
    → Goes file before (given.Entry at class false) new → new.before.dictionary ≡ before.before.dictionary
same-dictionary file before new at class goes = by goes.taken goes.tells goes.before
  where
    by : (taken : Item) → Tells (here_of file before) taken (given.Entry at class false)
        → new.before ≡ after before.order before.before taken
        → new.before.dictionary ≡ before.before.dictionary
    by (EntryItem head run entry) tells was =
        ap (λ (b : Before). b.dictionary) was
        ∙ unchanged before.before.dictionary (dictionary_after before.before.dictionary entry) entry
        (step-stays before.before.dictionary entry) tells.2.1
    by (OtherItem s) tells was =
        absurd (no-entry (kind (here_of file before)) (here_of file before) s at class false tells)

pub entry-brings : (file : List ℕ) (before new : Reader) (at class : ℕ) (changed : Bool) (scan next : Scan)
    → HasScanned file before scan → Goes file before (given.Entry at class changed) new → new.order ≡ before.order
    → new.last ≡ Some (given.Entry at class changed) → IsDictionary new.before.dictionary
    → next.layouts ≡ layouts_of new.before.dictionary → next.channels ≡ scan.channels → next.table ≡ scan.table
    → HasScanned file new next
entry-brings file before new at class changed scan next old goes same last sound layouts channels table =
    by goes.taken goes.stands goes.tells goes.before
  where
    by : (taken : Item) → MayStand before.order file before.before taken
        → Tells (here_of file before) taken (given.Entry at class changed)
        → new.before ≡ after before.order before.before taken → HasScanned file new next
    by (OtherItem s) may tells was =
        absurd (no-entry (kind (here_of file before)) (here_of file before) s at class changed tells)
    by (EntryItem head run entry) may tells was =
        settled file before new (EntryItem head run entry) (given.Entry at class changed) next same was last
        (more file before.order before.before before.last scan old (EntryItem head run entry)
        (given.Entry at class changed) next may (record {
          sound = subst (λ (b : Before). IsDictionary b.dictionary) was sound;
          layouts = layouts ∙ ap (λ (b : Before). layouts_of b.dictionary) was;
          channels = channels ∙ old.channels_are
              ∙ ap (built_of before.order) (sym (append-nil (frames_in before.order old.items)));
          table = subst (λ t. IsFound before.order before.before.frames next.channels
              (table_in before.order old.items) t)
              (sym table)
              (subst (λ c. IsFound before.order before.before.frames c (table_in before.order old.items) scan.table)
              (sym channels) old.table_is);
          none = old.no_table;
          seek = λ at class length seek is. cc;
        }))

-- ---- records

-- what a structure adds of which nothing is kept
nothing-added : (file : List ℕ) (order : Order) (b after : Before) (last : Option Given) (now : Given)
    (scan next : Scan)
    (old : HasItems file order b last scan) → after.dictionary ≡ b.dictionary → after.frames ≡ b.frames
    → after.table ≡ b.table → next.layouts ≡ scan.layouts → next.channels ≡ scan.channels → next.table ≡ scan.table
    → (seeks : List ℕ) → ((at class length seek : ℕ) → now ≡ given.FileEnd at class length seek
    → last_or (seek_in order old.items) seeks ≡ Some seek)
    → Adds order old.items after [] [] seeks now next
nothing-added file order b after last now scan next old dictionary frames flag layouts channels table seeks seek =
    record {
      sound = subst IsDictionary (sym dictionary) old.sound;
      layouts = layouts ∙ old.layouts_are ∙ ap layouts_of (sym dictionary);
      channels = channels ∙ old.channels_are ∙ ap (built_of order) (sym (append-nil (frames_in order old.items)));
      table = subst (λ n. IsFound order n next.channels (table_in order old.items) next.table) (sym frames)
          (subst (λ t. IsFound order b.frames next.channels (table_in order old.items) t) (sym table)
          (subst (λ c. IsFound order b.frames c (table_in order old.items) scan.table) (sym channels) old.table_is));
      none = λ none. old.no_table (sym flag ∙ none);
      seek = seek;
    }

pub record-brings : (file : List ℕ) (before new : Reader) (at class instance node : ℕ) (scan next : Scan)
    → HasScanned file before scan → Goes file before (given.Plain at class instance node) new
    → new.order ≡ before.order → new.last ≡ Some (given.Plain at class instance node)
    → next.layouts ≡ scan.layouts → next.channels ≡ scan.channels → next.table ≡ scan.table → HasScanned file new next
record-brings file before new at class instance node scan next old goes same last layouts channels table =
    by goes.taken goes.stands goes.tells goes.before
  where
    now : Given
    now = given.Plain at class instance node

    b : Before
    b = before.before

    of : (s : Structure) (k : Kind) → MayStand before.order file b (OtherItem s) → kind_of b.dictionary s.class ≡ k
        → (k ≡ FrameH) ⊎ (k ≡ Other) → HasItems file before.order (after before.order b (OtherItem s)) (Some now) next
    of s k may is (inl head) =
        by-kind file before.order b before.last scan old s FrameH now next may (is ∙ head)
        (nothing-added file before.order b (after_kind FrameH b s (weight_of before.order b.dictionary s)) before.last
        now scan next old refl refl refl layouts channels table [] (λ at class length seek is. cc))
    of s k may is (inr other) =
        by-kind file before.order b before.last scan old s Other now next may (is ∙ other)
        (nothing-added file before.order b (after_kind Other b s (weight_of before.order b.dictionary s)) before.last
        now scan next old refl refl refl layouts channels table [] (λ at class length seek is. cc))

    by : (taken : Item) → MayStand before.order file b taken → Tells (here_of file before) taken now
        → new.before ≡ after before.order b taken → HasScanned file new next
    by (EntryItem head run entry) may tells was = absurd tells
    by (OtherItem s) may tells was =
        settled file before new (OtherItem s) now next same was last
        (of s (kind (here_of file before)) may
        (ap (λ (s : Structure). kind_of b.dictionary s.class) (structure-here before.order file b s may))
        (is-record (kind (here_of file before)) (here_of file before) s at class instance node tells))

-- ---- the end of a frame

-- a table that is not there is not found, whatever the frames and channels
found-none : (order : Order) (n m : ℕ) (built more : Built) (t : Option StoredTable) (found : Option FoundTable)
    → t ≡ None → IsFound order n built t found → IsFound order m more t found
found-none order n m built more None None is kept = tt
found-none order n m built more None (Some found) is kept = absurd kept
found-none order n m built more (Some t) found is kept = cc

-- a frame of a segment is the one that stands there
same-frame : (order : Order) (held : List Entry) (segment : Collected) (f : StoredFrame) (built : Built)
    → segment.order ≡ order → segment.nodes ≡ f.nodes → segment.end_record ≡ Some f.end
    → with_frame_of segment.nodes (frame_of held segment) built
    ≡ with_frame_of f.nodes (frame_by order held f.nodes (Some f.end)) built
same-frame order held segment f built order_is nodes end =
    ap (λ o. with_frame_of segment.nodes (frame_by o held segment.nodes segment.end_record) built) order_is
    ∙ ap (λ nodes. with_frame_of nodes (frame_by order held nodes segment.end_record) built) nodes
    ∙ ap (λ e. with_frame_of f.nodes (frame_by order held f.nodes e) built) end

pub frame-brings : (file : List ℕ) (before new : Reader) (at class : ℕ) (scan next : Scan) (plans : Layouts)
    → HasScanned file before scan → Goes file before (given.FrameEnd at class) new → new.order ≡ before.order
    → new.last ≡ Some (given.FrameEnd at class)
    → ((class : ℕ) → plan_of plans class ≡ layout_in new.before.dictionary class)
    → next.layouts ≡ scan.layouts → next.table ≡ scan.table
    → ((held : List Entry) → AreOf held plans scan.layouts
    → next.channels ≡ with_frame_of new.segment.nodes (frame_of held new.segment) scan.channels)
    → HasScanned file new next
frame-brings file before new at class scan next plans old goes same last are layouts table channels =
    by goes.taken goes.stands goes.tells goes.before
  where
    now : Given
    now = given.FrameEnd at class

    b : Before
    b = before.before

    h : Here
    h = here_of file before

    ended : (s : Structure) → StoredFrame
    ended s = record {
      held = b.dictionary;
      nodes = map (bodied_of b.dictionary) b.frame;
      end = bodied_of b.dictionary s;
    }

    more-channels : (s : Structure) → s ≡ structure h → new.before.dictionary ≡ b.dictionary
        → next.channels ≡ built_of before.order (frames_in before.order old.items ++ ended s ∷ [])
    more-channels s here held =
        channels b.dictionary (record {
          sound = old.sound;
          plans_are = λ class. are class ∙ ap (λ held. layout_in held class) held;
          layouts_are = old.layouts_are;
        })
        ∙ same-frame before.order b.dictionary new.segment (ended s) scan.channels goes.frame.order_is goes.frame.nodes
        (goes.frame.end_record ∙ ap (λ s. Some (bodied_of b.dictionary s)) (sym here))
        ∙ ap (λ built. with_stored before.order built (ended s)) old.channels_are
        ∙ sym (built-push before.order (frames_in before.order old.items) (ended s))

    of : (s : Structure) (may : MayStand before.order file b (OtherItem s))
        → kind_of b.dictionary s.class ≡ FrEndOfFrame
        → s ≡ structure h → new.before ≡ after before.order b (OtherItem s)
        → HasItems file before.order (after before.order b (OtherItem s)) (Some now) next
    of s may is here was =
        let record_may = subst (λ k. KindMayStand k before.order b s) is may.1.kind in
        let none : table_in before.order old.items ≡ None = old.no_table record_may.0.table in
        let held : new.before.dictionary ≡ b.dictionary =
        ap (λ (b : Before). b.dictionary) was
        ∙ ap (λ k. (after_kind k b s (weight_of before.order b.dictionary s)).dictionary) is in
        by-kind file before.order b before.last scan old s FrEndOfFrame now next may is (record {
          sound = old.sound;
          layouts = layouts ∙ old.layouts_are;
          channels = more-channels s here held;
          table = subst
              (λ t. IsFound before.order (b.frames + 1) next.channels (table_in before.order old.items) t) (sym table)
              (found-none before.order b.frames (b.frames + 1) scan.channels next.channels
              (table_in before.order old.items) scan.table none old.table_is);
          none = λ flag. none;
          seek = λ at class length seek is. cc;
        })

    by : (taken : Item) → MayStand before.order file b taken → Tells h taken now
        → new.before ≡ after before.order b taken → HasScanned file new next
    by (EntryItem head run entry) may tells was = absurd tells
    by (OtherItem s) may tells was =
        let here = structure-here before.order file b s may in
        settled file before new (OtherItem s) now next same was last
        (of s may (ap (λ (s : Structure). kind_of b.dictionary s.class) here
        ∙ ends-frame (kind h) h s at class tells) here was)

-- ---- the contents table

-- the body that is lent lists what that of the table does
listed-lent : (order : Order) (frames : ℕ) (held : List Entry) (class : ℕ) (body : List ℕ) (k : Kind)
    → listed_in order frames held class (if is_table_kind k && is_none (layout_in held class) then [] else body)
    ≡ listed_in order frames held class body
listed-lent order frames held class body k =
    ap (λ reading. option_and_then (if_frames frames) (option_and_then (listed_by reading) (entry_of held class)))
    (by (is_table_kind k) (layout_in held class))
  where
    by : (b : Bool) (o : Option (List Field))
        → option_and_then (reading_by order (if b && is_none o then [] else body)) o
        ≡ option_and_then (reading_by order body) o
    by true None = refl
    by false None = refl
    by true (Some fields) = refl
    by false (Some fields) = refl

pub table-brings : (file : List ℕ) (before new : Reader) (at class size : ℕ) (scan next : Scan) (state : TableState)
    → HasScanned file before scan → Goes file before (given.Table at class size) new → new.order ≡ before.order
    → new.last ≡ Some (given.Table at class size)
    → IsJudged (listed_in new.order new.before.frames new.before.dictionary class new.body) scan.channels state
    → next.layouts ≡ scan.layouts → next.channels ≡ scan.channels
    → next.table ≡ Some (record { at = at; state = state }) → HasScanned file new next
table-brings file before new at class size scan next state old goes same last judged layouts channels table =
    by goes.taken goes.stands goes.tells goes.before goes.body
  where
    now : Given
    now = given.Table at class size

    b : Before
    b = before.before

    h : Here
    h = here_of file before

    stored : Structure → StoredTable
    stored s = record { held = b.dictionary; structure = s }

    judged-here : (s : Structure) → class ≡ s.class
        → new.before ≡ after_kind FrTOC b s (weight_of before.order b.dictionary s)
        → new.body ≡ body_after h (OtherItem s)
        → IsJudged (is_listed before.order b.frames (stored s)) scan.channels state
    judged-here s class_is was body =
        subst (λ t. IsJudged t scan.channels state)
        (ap (λ o. listed_in o new.before.frames new.before.dictionary class new.body) same
        ∙ ap (λ (b : Before). listed_in before.order b.frames b.dictionary class new.body) was
        ∙ ap (λ c. listed_in before.order b.frames b.dictionary c new.body) class_is
        ∙ ap (λ body. listed_in before.order b.frames b.dictionary s.class body) body
        ∙ listed-lent before.order b.frames b.dictionary s.class s.body (kind h)) judged

    of : (s : Structure) (may : MayStand before.order file b (OtherItem s)) → kind_of b.dictionary s.class ≡ FrTOC
        → at ≡ s.at → class ≡ s.class → new.before ≡ after before.order b (OtherItem s)
        → new.body ≡ body_after h (OtherItem s)
        → HasItems file before.order (after before.order b (OtherItem s)) (Some now) next
    of s may is at_is class_is was body =
        let ended : new.before ≡ after_kind FrTOC b s (weight_of before.order b.dictionary s) =
        was ∙ ap (λ k. after_kind k b s (weight_of before.order b.dictionary s)) is in
        by-kind file before.order b before.last scan old s FrTOC now next may is (record {
          sound = old.sound;
          layouts = layouts ∙ old.layouts_are;
          channels = channels ∙ old.channels_are
              ∙ ap (built_of before.order) (sym (append-nil (frames_in before.order old.items)));
          table = subst (λ t. IsFound before.order b.frames next.channels (Some (stored s)) t) (sym table)
              (subst (λ c. IsFound before.order b.frames c (Some (stored s)) (Some (record { at = at; state = state })))
              (sym channels) (at_is, judged-here s class_is ended body));
          none = λ none. cc;
          seek = λ at class length seek is. cc;
        })

    by : (taken : Item) → MayStand before.order file b taken → Tells h taken now
        → new.before ≡ after before.order b taken → new.body ≡ body_after h taken → HasScanned file new next
    by (EntryItem head run entry) may tells was body = absurd tells
    by (OtherItem s) may tells was body =
        let kind_is = is-table (kind h) h s at class size tells in
        settled file before new (OtherItem s) now next same was last
        (of s may
        (ap (λ (s : Structure). kind_of b.dictionary s.class) (structure-here before.order file b s may) ∙ kind_is.0)
        kind_is.1 kind_is.2 was body)

-- ---- the end of the file

pub end-brings : (file : List ℕ) (before new : Reader) (at class length seek : ℕ) (scan next : Scan)
    → HasScanned file before scan → Goes file before (given.FileEnd at class length seek) new
    → new.order ≡ before.order → new.last ≡ Some (given.FileEnd at class length seek)
    → next.layouts ≡ scan.layouts → next.channels ≡ scan.channels → next.table ≡ scan.table → HasScanned file new next
end-brings file before new at class length seek scan next old goes same last layouts channels table =
    by goes.taken goes.stands goes.tells goes.before
  where
    now : Given
    now = given.FileEnd at class length seek

    b : Before
    b = before.before

    h : Here
    h = here_of file before

    told : Structure → ℕ
    told s = number_named (elements_of b.dictionary s.class) (values_of before.order b.dictionary s) (codes "seekTOC")

    same-seek : (x : ℕ) (at class length n : ℕ) → seek ≡ x → now ≡ given.FileEnd at class length n → Some x ≡ Some n
    same-seek x at class length n is same = cc

    of : (s : Structure) (may : MayStand before.order file b (OtherItem s)) → kind_of b.dictionary s.class ≡ FrEndOfFile
        → seek ≡ told s → HasItems file before.order (after before.order b (OtherItem s)) (Some now) next
    of s may is seek_is =
        by-kind file before.order b before.last scan old s FrEndOfFile now next may is
        (nothing-added file before.order b (after_kind FrEndOfFile b s (weight_of before.order b.dictionary s))
        before.last now scan next old refl refl refl layouts channels table (told s ∷ [])
        (λ at class length n same. same-seek (told s) at class length n seek_is same))

    by : (taken : Item) → MayStand before.order file b taken → Tells h taken now
        → new.before ≡ after before.order b taken → HasScanned file new next
    by (EntryItem head run entry) may tells was = absurd tells
    by (OtherItem s) may tells was =
        let here = structure-here before.order file b s may in
        let ends = ends-file (kind h) h s at class length seek tells in
        settled file before new (OtherItem s) now next same was last
        (of s may (ap (λ (s : Structure). kind_of b.dictionary s.class) here ∙ ends.0)
        (ends.1 ∙ ap told (sym here)))

-- ---- any other item

pub other-brings : (file : List ℕ) (before new : Reader) (item : Given) (scan : Scan)
    → ((at class : ℕ) (changed : Bool) → item ≡ given.Entry at class changed → ⊥)
    → ((at class : ℕ) → item ≡ given.FrameEnd at class → ⊥)
    → ((at class size : ℕ) → item ≡ given.Table at class size → ⊥) → HasScanned file before scan
    → Goes file before item new → new.order ≡ before.order → new.last ≡ Some item → HasScanned file new scan
other-brings file before new (given.Entry at class changed) scan entry end table old goes same last =
    absurd (entry at class changed refl)
other-brings file before new (given.FrameEnd at class) scan entry end table old goes same last =
    absurd (end at class refl)
other-brings file before new (given.Table at class size) scan entry end table old goes same last =
    absurd (table at class size refl)
other-brings file before new (given.Plain at class instance node) scan entry end table old goes same last =
    record-brings file before new at class instance node scan scan old goes same last refl refl refl
other-brings file before new (given.FileEnd at class length seek) scan entry end table old goes same last =
    end-brings file before new at class length seek scan scan old goes same last refl refl refl
