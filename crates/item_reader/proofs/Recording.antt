-- What is given of a record that joins a frame, and of one that ends it.
use Rattle.std.proofs.Common.{◌≡◌, ℕ, true, false, List, [], ◌∷◌, ◌++◌, length, Result, Ok, Err, Some}
use Rattle.std.proofs.Common.{None, inl, refl, sym, ap, ◌∙◌, subst}
use Rattle.std.specs.Prelude.{map, slice_get, OnOk}
use Rattle.std.specs.Option.{option_map_or}
use Rattle.std.proofs.lemmas.Bool.{false≢true}
use Rattle.layout_plan.specs.Plans.{plan_of}
use Rattle.rooted_graph.specs.BreadthOrder.{IsBreadthOrder}
use Rattle.link_graph.specs.Collected.{Bodied, Collected, target_of}
use Rattle.link_graph.specs.Graph.{Layouts, links_by, targets_of, graph_of}
use Rattle.file_grammar.specs.declared.kind.Kind.{Kind}
use Rattle.file_grammar.specs.declared.kind.Kind.TheVariants.{FrSH, FrSE, FrameH, FrEndOfFrame, FrTOC, FrEndOfFile}
use Rattle.file_grammar.specs.declared.kind.Kind.TheVariants.{Other}
use Rattle.file_grammar.specs.Structure.{Structure}
use Rattle.file_grammar.specs.Kind.{is_target_kind, is_table_kind}
use Rattle.file_grammar.specs.Record.{layout_in}
use Rattle.file_grammar.specs.Item.{OtherItem, Before, after_kind, after}
use Rattle.file_grammar.specs.Fault.{Here, place, weight, kind, structure}
use Rattle.file_grammar.specs.Steps.{item_by}
use Rattle.item_reader.specs.declared.cursor.Cursor.{Cursor}
use Rattle.item_reader.specs.declared.item.Item.{Item as Given}
use Rattle.item_reader.specs.declared.item.ReadError.{ReadError}
use Rattle.item_reader.specs.declared.item.ReadError.TheVariants as error
use Rattle.item_reader.specs.declared.state.State.{State}
use Rattle.item_reader.specs.declared.structure.Placed.{Placed}
use Rattle.item_reader.specs.Placed.{StandsIn, structure_by}
use Rattle.item_reader.specs.Looked.{IsLooked}
use Rattle.item_reader.specs.State.{IsSound, structure_of, bodied_of, open_records, before_of}
use Rattle.item_reader.specs.Judged.{Takes, Answers, IsKept, ClosesBy, EndsFrame}
use Rattle.item_reader.specs.Reader.{IsFrameOf, Collects}
use Rattle.item_reader.specs.Cursor.{Gives, GivesNext, body_in}
use Rattle.item_reader.proofs.BodyHere.{structure-stands}
use Rattle.item_reader.proofs.Collecting.{open-nodes}
use Rattle.item_reader.specs.Given.{entry_in}
use Rattle.item_reader.proofs.Giving.{tells-other, record-item, frame_end-item, other-taken, body-taken, gives-open}
use Rattle.item_reader.proofs.Giving.{other-entry, other-instance}

-- what the state answers is what is given, where the item is
pub gives-answers : (h : Here) (result : Result Given ReadError) (new : Cursor) → Answers h result new.state
    → ((item : Given) → result ≡ Ok item → Takes h item new.state → Gives h item new) → GivesNext h result new
gives-answers h (Ok item) new a f = f item refl a
gives-answers h (Err (error.Fault fault)) new a f = inl a
gives-answers h (Err error.Device) new a f = tt
gives-answers h (Err error.NoMemory) new a f = tt

pub on-ok : {T E : Type 0} (r : Result T E) (x : T) (P : Type 0) → r ≡ Ok x → OnOk r P → P
on-ok {T} {E} r x P is said = subst (λ (r : Result T E). OnOk r P) is said

-- ---- a record that joins the frame

-- the record of the number of those before it is the last
pub node-last : (nodes : List Bodied) (frame : List Structure) (s : Structure)
    → map structure_of nodes ≡ frame ++ s ∷ []
    → option_map_or (λ (r : Bodied). r.body) (slice_get nodes (length frame)) [] ≡ s.body
node-last [] [] s e = absurd (apart e)
  where
    apart : ◌≡◌ {A = List Structure} [] (s ∷ []) → ⊥
    apart e = cc
node-last [] (f ∷ fs) s e = absurd (apart e)
  where
    apart : ◌≡◌ {A = List Structure} [] (f ∷ (fs ++ s ∷ [])) → ⊥
    apart e = cc
node-last (r ∷ rs) [] s e = ap (λ (s : Structure). s.body) (first e)
  where
    first : ◌≡◌ {A = List Structure} (structure_of r ∷ map structure_of rs) (s ∷ []) → structure_of r ≡ s
    first e = cc
node-last (r ∷ rs) (f ∷ fs) s e = node-last rs fs s (rest e)
  where
    rest : ◌≡◌ {A = List Structure} (structure_of r ∷ map structure_of rs) (f ∷ (fs ++ s ∷ []))
        → map structure_of rs ≡ fs ++ s ∷ []
    rest e = cc

frame-after : (k : Kind) (b : Before) (s : Structure) (weight : ℕ) → is_target_kind k ≡ true
    → (after_kind k b s weight).frame ≡ b.frame ++ s ∷ []
frame-after FrameH b s weight e = refl
frame-after Other b s weight e = refl
frame-after FrSH b s weight e = absurd (false≢true e)
frame-after FrSE b s weight e = absurd (false≢true e)
frame-after FrTOC b s weight e = absurd (false≢true e)
frame-after FrEndOfFile b s weight e = absurd (false≢true e)
frame-after FrEndOfFrame b s weight e = absurd (false≢true e)

target-other : (k : Kind) (h : Here) → is_target_kind k ≡ true → item_by k h ≡ Some (OtherItem (structure h))
target-other FrameH h e = refl
target-other Other h e = refl
target-other FrSH h e = absurd (false≢true e)
target-other FrSE h e = absurd (false≢true e)
target-other FrTOC h e = absurd (false≢true e)
target-other FrEndOfFile h e = absurd (false≢true e)
target-other FrEndOfFrame h e = absurd (false≢true e)

target-apart : (k : Kind) → is_target_kind k ≡ true → is_table_kind k ≡ false
target-apart FrTOC e = absurd (false≢true e)
target-apart FrameH e = refl
target-apart Other e = refl
target-apart FrSH e = refl
target-apart FrSE e = refl
target-apart FrEndOfFile e = refl
target-apart FrEndOfFrame e = refl

pub gives-record : (h : Here) (item : Given) (new : Cursor) (takes : Takes h item new.state) (p : Placed)
    (body : List ℕ) → is_target_kind (kind h) ≡ true → StandsIn h.order (place h) p body h.file
    → new.state.segment.order ≡ h.order → IsSound new.state → new.state.segment.pending ≡ []
    → new.state.numbering ≡ None → IsLooked h.order h.file new.state.at new.source.at new.looked
    → ClosesBy item new.state.closed → new.instance ≡ p.instance → Gives h item new
gives-record h item new takes p body target stands order sound none frame looked closes instance =
    let other : takes.taken ≡ OtherItem (structure h) =
    other-taken h item new.state takes (kind h) refl (target-other (kind h) h target) in
    let plain = record-item h (structure h) item (kind h) target
    (tells-other h takes.taken item (kind h) takes.tells other refl) in
    let joined : map structure_of new.state.segment.nodes ≡ h.before.frame ++ structure h ∷ [] =
    sym (ap (λ n. open_records n new.state.segment) frame)
    ∙ ap (λ (b : Before). b.frame) (takes.after ∙ ap (after h.order h.before) other)
    ∙ frame-after (kind h) h.before (structure h) (weight h) target in
    gives-open h item new takes
    (ap (λ i. body_in (Some i) new.own.items new.state.segment) plain.3
    ∙ node-last new.state.segment.nodes h.before.frame (structure h) joined
    ∙ ap (λ (s : Structure). s.body) (structure-stands h p body stands)
    ∙ body-taken h takes.taken p body other (target-apart (kind h) target) stands)
    (ap (λ i. entry_in (Some i) new.kept new.state.dictionary) plain.3
    ∙ other-entry takes.taken (structure h) other)
    (other-instance h takes.taken p new.instance other stands.placed instance)
    (subst (λ i. IsFrameOf h.order (before_of new.state) new.state.segment × (new.state.numbering ≡ None)
    → Collects h i (before_of new.state) new.state.numbering new.state.segment) (sym plain.3) (λ f. f))
    order sound none frame looked (subst (λ i. ClosesBy i new.state.closed) plain.3 closes)

-- ---- a record that ends the frame

map-same : {X Y : Type 0} (f g : X → Y) → ((x : X) → f x ≡ g x) → (xs : List X) → map f xs ≡ map g xs
map-same f g same [] = refl
map-same f g same (x ∷ xs) = λ i. same x i ∷ map-same f g same xs i

-- the graph of a frame is by the plans of its classes alone
graph-same : (plans others : Layouts) (s t : Collected) → ((class : ℕ) → plan_of plans class ≡ plan_of others class)
    → s.order ≡ t.order → s.nodes ≡ t.nodes → graph_of plans s ≡ graph_of others t
graph-same plans others s t same order nodes =
    (λ i. record (graph_of plans s) {
      links = map-same (targets_of plans s.order s.nodes) (targets_of others s.order s.nodes)
          (λ r. λ j. map (target_of s.nodes)
          (option_map_or (λ fields. links_by s.order fields r.body) (same r.node.class j) [])) s.nodes i;
    })
    ∙ (λ i. graph_of others (record s { order = order i; nodes = nodes i }))

pub gives-frame_end : (h : Here) (item : Given) (new : Cursor) (takes : Takes h item new.state) (p : Placed)
    (s : State) → kind h ≡ FrEndOfFrame → h.before ≡ before_of s → h.order ≡ s.segment.order
    → StandsIn h.order (place h) p s.segment.pending h.file → IsSound s → s.numbering ≡ None
    → EndsFrame s p new.state → IsKept s new.state
    → IsLooked h.order h.file new.state.at new.source.at new.looked → ClosesBy item new.state.closed
    → new.instance ≡ p.instance → Gives h item new
gives-frame_end h item new takes p s is before order stands sound frame ends kept looked closes instance =
    let other : takes.taken ≡ OtherItem (structure h) = other-taken h item new.state takes FrEndOfFrame is refl in
    let end = frame_end-item h (structure h) item
    (tells-other h takes.taken item FrEndOfFrame takes.tells other is) in
    let same : structure h ≡ structure_by p s.segment.pending = structure-stands h p s.segment.pending stands in
    let nodes : s.segment.nodes ≡ map (bodied_of h.before.dictionary) h.before.frame = nodes_of in
    record {
      takes = takes;
      body_is = ap (λ i. body_in (Some i) new.own.items new.state.segment) end.2
          ∙ ap (λ o. option_map_or (λ (r : Bodied). r.body) o []) ends.end_record
          ∙ body-taken h takes.taken p s.segment.pending other (ap is_table_kind is) stands;
      entry_is = ap (λ i. entry_in (Some i) new.kept new.state.dictionary) end.2
          ∙ other-entry takes.taken (structure h) other;
      instance_is = other-instance h takes.taken p new.instance other stands.placed instance;
      frame = subst (λ i. Collects h i (before_of new.state) new.state.numbering new.state.segment) (sym end.2)
          (record {
            order_is = kept.order ∙ sym order;
            nodes = ends.nodes ∙ nodes;
            end_record = ends.end_record
                ∙ (λ i. Some (bodied_of (sym before i).dictionary (sym same i)));
            pending = kept.pending;
            numbers = ends.numbers;
            numbering_is = ends.numbering;
            breadth = λ plans read.
                subst (λ g. IsBreadthOrder g ends.numbers)
                (graph-same s.plans plans s.segment new.state.segment
                (λ class. sound.plans class
                ∙ ap (λ (b : Before). layout_in b.dictionary class) (sym before) ∙ sym (read class))
                (sym kept.order) (sym ends.nodes)) ends.breadth;
          });
      looked = looked;
      end = λ closed. absurd (false≢true (sym (subst (λ i. ClosesBy i new.state.closed) end.2 closes) ∙ closed));
    }
  where
    nodes_of : s.segment.nodes ≡ map (bodied_of h.before.dictionary) h.before.frame
    nodes_of = open-nodes s sound frame ∙ (λ i. map (bodied_of (sym before i).dictionary) (sym before i).frame)
