-- What an item was, once it was taken: what is told of it, and what stands before the next place.
use Rattle.std.proofs.Common.{Option, ◌≡◌, ◌≢◌, ◌↔◌, ℕ, ◌+◌, ◌≤◌, Bool, true, false, List, [], ◌∷◌, ◌++◌}
use Rattle.std.proofs.Common.{map}
use Rattle.std.proofs.Common.{length, Some, None, Result, Ok, Err, refl, sym, ap, ◌∙◌, subst}
use Rattle.std.proofs.Common.{sum_by}
use Rattle.std.specs.Prelude.{IsTrue, codes, IsErrAnd, IsErrOf}
use Rattle.std.specs.Option.{option_map}
use Rattle.std.proofs.lemmas.List.{map-append, length-map}
use Rattle.std.proofs.lemmas.List.Sums.{sum_by-cons}
use Rattle.std.proofs.lemmas.Bool.{false≢true}
use Rattle.dictionary.specs.declared.entries.Element.{Element}
use Rattle.dictionary.specs.declared.entries.Entry.{Entry}
use Rattle.link_graph.specs.declared.segment.SegmentFault.{SegmentFault}
use Rattle.link_graph.specs.declared.segment.SegmentFault.TheVariants as segment
use Rattle.link_graph.specs.Collected.{Collected, Becomes, with_node, is_held}
use Rattle.file_grammar.specs.declared.reason.Reason.TheVariants.{InstanceTwice}
use Rattle.file_grammar.specs.declared.fault.Fault.{Fault}
use Rattle.file_grammar.specs.declared.kind.Kind.{Kind}
use Rattle.file_grammar.specs.declared.kind.Kind.TheVariants.{FrSH, FrSE, FrameH, FrEndOfFrame, FrTOC}
use Rattle.file_grammar.specs.declared.kind.Kind.TheVariants.{FrEndOfFile}
use Rattle.file_grammar.specs.declared.kind.Kind.TheVariants.{Other}
use Rattle.file_grammar.specs.Structure.{Structure, size_of, end_of}
use Rattle.file_grammar.specs.Kind.{kind_of, is_target_kind}
use Rattle.file_grammar.specs.Described.{longest_run}
use Rattle.file_grammar.specs.Item.{EntryItem, OtherItem, Before, dictionary_by, dictionary_after}
use Rattle.file_grammar.specs.Item.{after_kind}
use Rattle.file_grammar.specs.Fault.{Here, class, kind, structure, weight, number, here, fault_at}
use Rattle.file_grammar.specs.Fault.{has_twin}
use Rattle.file_grammar.specs.Fault.{first_of, fault_here}
use Rattle.file_grammar.specs.Steps.{item_by}
use Rattle.file_grammar.proofs.Firsts.{first_of-passes}
use Rattle.file_grammar.proofs.Tests.{test-InstanceTwice}
use Rattle.item_reader.specs.declared.item.Item.{Item as Given}
use Rattle.item_reader.specs.declared.item.Item.TheVariants as given
use Rattle.item_reader.specs.declared.item.ReadError.{ReadError}
use Rattle.item_reader.specs.declared.item.ReadError.TheVariants as errors
use Rattle.item_reader.specs.declared.state.State.{State}
use Rattle.item_reader.specs.declared.structure.Placed.{Placed}
use Rattle.item_reader.specs.Placed.{StandsIn, structure_by}
use Rattle.item_reader.specs.Given.{TellsKind}
use Rattle.item_reader.specs.State.{structure_of, open_records, frame_of, before_of, here_in}
use Rattle.item_reader.specs.Judged.{body_reasons, weighing_reasons, record_reasons, later_record_reasons}
use Rattle.item_reader.specs.Judged.{frame_end_reasons, reading_reasons, closing_reasons, table_reasons}
use Rattle.item_reader.specs.Judged.{entry_reasons}
use Rattle.item_reader.specs.Judged.{IsWeighed, DescribesEntry, Holds, Takes, Answers, AnswersHolding}
use Rattle.item_reader.specs.Judged.{node_by}
use Rattle.item_reader.proofs.CutEntry.{cut-whole}
use Rattle.item_reader.proofs.Holding.{kind-here}
use Rattle.item_reader.proofs.Located.{end-here, size-here, class-here, instance-here, fits-here, fault-kind}
use Rattle.item_reader.proofs.Parts.{first_of-front, first_of-back, record-parts, frame_end-parts}
use Rattle.item_reader.proofs.Parts.{file_end-parts}
use Rattle.item_reader.proofs.Parts.{table-parts, entry-parts, record-twice}
use Rattle.item_reader.proofs.Twins.{held-twin}

-- a fault answers the place
pub answers-fault : (h : Here) (f : Fault) (error : ReadError) (new : State) → error ≡ errors.Fault f
    → fault_here h ≡ Some f → Answers h (Err error) new
answers-fault h f error new is said = subst (λ e. Answers h (Err e) new) (sym is) said

-- an error that is passed on answers as it did
pub answers-passed : (h : Here) (new : State) (result : Result Given ReadError) (error : ReadError)
    → IsErrAnd result (λ e. e ≡ error) → Answers h (Err error) new → Answers h result new
answers-passed h new (Ok item) error is said = absurd is
answers-passed h new (Err e) error is said = subst (λ e. Answers h (Err e) new) (sym is) said

-- ---- the contents table

pub takes-table : (s : State) (p : Placed) (file body : List ℕ) → s.closed ≡ false
    → StandsIn s.segment.order s.at p body file → kind_of s.dictionary p.class ≡ FrTOC
    → first_of table_reasons (here_in s file) ≡ None
    → Takes (here_in s file) (given.Table p.at p.class p.length)
    (record s { at = s.at + p.length; table = true })
takes-table s p file body unclosed stands kind_is none =
    let h : Here = here_in s file in
    let is : kind h ≡ FrTOC = kind-here h p stands.placed ∙ kind_is in
    record {
      judged = fault-kind h p unclosed stands.placed ∙ table-parts h is ∙ none;
      taken = OtherItem (structure h);
      is = ap (λ k. item_by k h) is;
      tells = subst (λ k. TellsKind k h (structure h) (given.Table p.at p.class p.length)) (sym is) (
        stands.placed.place,
        sym (class-here h p stands.placed),
        sym (size-here h p stands.placed),
      );
      after = (λ i. record (before_of s) { place = sym (end-here h p stands.placed) i; table = true })
          ∙ sym (ap (λ k. after_kind k (before_of s) (structure h) (weight h)) is);
    }

-- ---- the end of the file

pub file_end-judged : (s : State) (p : Placed) (file body : List ℕ) → s.closed ≡ false
    → StandsIn s.segment.order s.at p body file → kind_of s.dictionary p.class ≡ FrEndOfFile
    → fault_here (here_in s file) ≡ first_of (reading_reasons ++ closing_reasons) (here_in s file)
file_end-judged s p file body unclosed stands kind_is =
    let h : Here = here_in s file in
    fault-kind h p unclosed stands.placed
    ∙ file_end-parts h (fits-here h p stands.placed) (kind-here h p stands.placed ∙ kind_is)

pub takes-file_end : (s : State) (p : Placed) (seek : ℕ) (file body : List ℕ) → s.closed ≡ false
    → StandsIn s.segment.order s.at p body file → kind_of s.dictionary p.class ≡ FrEndOfFile
    → first_of reading_reasons (here_in s file) ≡ None → first_of closing_reasons (here_in s file) ≡ None
    → number (here_in s file) (codes "seekTOC") ≡ seek
    → Takes (here_in s file) (given.FileEnd p.at p.class p.length seek)
    (record s { at = s.at + p.length; closed = true })
takes-file_end s p seek file body unclosed stands kind_is read none told_seek =
    let h : Here = here_in s file in
    let is : kind h ≡ FrEndOfFile = kind-here h p stands.placed ∙ kind_is in
    record {
      judged = file_end-judged s p file body unclosed stands kind_is
          ∙ first_of-back reading_reasons closing_reasons h read ∙ none;
      taken = OtherItem (structure h);
      is = ap (λ k. item_by k h) is;
      tells = subst (λ k. TellsKind k h (structure h) (given.FileEnd p.at p.class p.length seek)) (sym is) (
        stands.placed.place,
        sym (class-here h p stands.placed),
        sym (size-here h p stands.placed),
        sym told_seek,
      );
      after = (λ i. record (before_of s) { place = sym (end-here h p stands.placed) i; closed = true })
          ∙ sym (ap (λ k. after_kind k (before_of s) (structure h) (weight h)) is);
    }

-- ---- the end of a frame

pub frame_end-judged : (s : State) (p : Placed) (file body : List ℕ) → s.closed ≡ false
    → StandsIn s.segment.order s.at p body file → kind_of s.dictionary p.class ≡ FrEndOfFrame
    → fault_here (here_in s file) ≡ first_of (weighing_reasons ++ frame_end_reasons) (here_in s file)
frame_end-judged s p file body unclosed stands kind_is =
    let h : Here = here_in s file in
    fault-kind h p unclosed stands.placed
    ∙ frame_end-parts h (fits-here h p stands.placed) (kind-here h p stands.placed ∙ kind_is)

-- a frame that may not end here
pub frame_end-refused : {N : Type 0} (s : State) (p : Placed) (told_weight : ℕ) (result : Result N ReadError)
    (error : ReadError) (new : State) (file body : List ℕ) → s.closed ≡ false
    → StandsIn s.segment.order s.at p body file → kind_of s.dictionary p.class ≡ FrEndOfFrame
    → IsWeighed (here_in s file) told_weight → result ≡ Err error
    → ((fault : Fault) → result ≡ Err (errors.Fault fault)
    → first_of frame_end_reasons (here_in s file) ≡ Some fault)
    → (result ≡ Err errors.Device → ⊥) → Answers (here_in s file) (Err error) new
frame_end-refused s p told_weight result (errors.Fault f) new file body unclosed stands is w failed told
    device =
    frame_end-judged s p file body unclosed stands is
    ∙ first_of-back weighing_reasons frame_end_reasons (here_in s file) w.none
    ∙ told f failed
frame_end-refused s p told_weight result errors.Device new file body unclosed stands is w failed told device =
    absurd (device failed)
frame_end-refused s p told_weight result errors.NoMemory new file body unclosed stands is w failed told device
    = tt

-- the state after the end of a frame
abbrev pub after_frame_end : State → Placed → Collected → Option (List ℕ) → State
after_frame_end s p segment kept = record s {
  at = s.at + p.length;
  segment = segment;
  numbering = kept;
  header = false;
  load = 0;
  frames = s.frames + 1;
  records = s.records + 1;
}

pub takes-frame_end : (s : State) (p : Placed) (told_weight : ℕ) (segment : Collected)
    (kept : Option (List ℕ)) (numbers file body : List ℕ) → kept ≡ Some numbers
    → s.closed ≡ false → StandsIn s.segment.order s.at p body file
    → kind_of s.dictionary p.class ≡ FrEndOfFrame
    → IsWeighed (here_in s file) told_weight → first_of frame_end_reasons (here_in s file) ≡ None
    → Takes (here_in s file) (given.FrameEnd p.at p.class) (after_frame_end s p segment kept)
takes-frame_end s p told_weight segment kept numbers file body ended unclosed stands kind_is w none =
    let h : Here = here_in s file in
    let is : kind h ≡ FrEndOfFrame = kind-here h p stands.placed ∙ kind_is in
    record {
      judged = frame_end-judged s p file body unclosed stands kind_is
          ∙ first_of-back weighing_reasons frame_end_reasons h w.none ∙ none;
      taken = OtherItem (structure h);
      is = ap (λ k. item_by k h) is;
      tells = subst (λ k. TellsKind k h (structure h) (given.FrameEnd p.at p.class)) (sym is) (
        stands.placed.place,
        sym (class-here h p stands.placed),
      );
      after =
          (λ i. record (before_of s) {
            place = sym (end-here h p stands.placed) i;
            frame = open_records (ended i) segment;
            load = 0;
            frames = s.frames + 1;
            records = s.records + 1;
          })
          ∙ sym (ap (λ k. after_kind k (before_of s) (structure h) (weight h)) is);
    }

-- ---- any other record

-- the kinds of records that are no end records are taken alike
target-item : (k : Kind) (h : Here) → is_target_kind k ≡ true → item_by k h ≡ Some (OtherItem (structure h))
target-item FrameH h e = refl
target-item Other h e = refl
target-item FrSH h e = absurd (false≢true e)
target-item FrSE h e = absurd (false≢true e)
target-item FrEndOfFrame h e = absurd (false≢true e)
target-item FrTOC h e = absurd (false≢true e)
target-item FrEndOfFile h e = absurd (false≢true e)

target-after : (k : Kind) (b : Before) (s : Structure) (w : ℕ) → is_target_kind k ≡ true
    → after_kind k b s w ≡ record b {
      place = end_of s;
      frame = b.frame ++ s ∷ [];
      load = b.load + w;
      records = b.records + 1;
    }
target-after FrameH b s w e = refl
target-after Other b s w e = refl
target-after FrSH b s w e = absurd (false≢true e)
target-after FrSE b s w e = absurd (false≢true e)
target-after FrEndOfFrame b s w e = absurd (false≢true e)
target-after FrTOC b s w e = absurd (false≢true e)
target-after FrEndOfFile b s w e = absurd (false≢true e)

target-tells : (k : Kind) (h : Here) (s : Structure) (at class instance node : ℕ) → is_target_kind k ≡ true
    → at ≡ s.at
    → class ≡ s.class → instance ≡ s.instance → node ≡ length h.before.frame
    → TellsKind k h s (given.Plain at class instance node)
target-tells FrameH h s at class instance node e a b c d = (a, b, c, d)
target-tells Other h s at class instance node e a b c d = (a, b, c, d)
target-tells FrSH h s at class instance node e a b c d = absurd (false≢true e)
target-tells FrSE h s at class instance node e a b c d = absurd (false≢true e)
target-tells FrEndOfFrame h s at class instance node e a b c d = absurd (false≢true e)
target-tells FrTOC h s at class instance node e a b c d = absurd (false≢true e)
target-tells FrEndOfFile h s at class instance node e a b c d = absurd (false≢true e)

-- where no numbering goes with the segment, its records are those of the open frame
pub frame-open : (s : State) → s.numbering ≡ None → frame_of s ≡ map structure_of s.segment.nodes
frame-open s none = ap (λ numbering. open_records numbering s.segment) none

pub record-judged : (s : State) (p : Placed) (file body : List ℕ) → s.closed ≡ false
    → StandsIn s.segment.order s.at p body file → is_target_kind (kind_of s.dictionary p.class) ≡ true
    → fault_here (here_in s file) ≡ first_of (weighing_reasons ++ record_reasons) (here_in s file)
record-judged s p file body unclosed stands target =
    let h : Here = here_in s file in
    fault-kind h p unclosed stands.placed
    ∙ record-parts h (fits-here h p stands.placed) (ap is_target_kind (kind-here h p stands.placed) ∙ target)

-- a record that may not stand by its body or its weight
pub record-refused : {N : Type 0} (s : State) (p : Placed) (result : Result N ReadError) (error : ReadError)
    (new : State) (file body : List ℕ) → s.closed ≡ false → StandsIn s.segment.order s.at p body file
    → is_target_kind (kind_of s.dictionary p.class) ≡ true → result ≡ Err error
    → ((fault : Fault) → result ≡ Err (errors.Fault fault)
    → first_of weighing_reasons (here_in s file) ≡ Some fault)
    → (result ≡ Err errors.Device → ⊥) → Answers (here_in s file) (Err error) new
record-refused s p result (errors.Fault f) new file body unclosed stands target failed told device =
    record-judged s p file body unclosed stands target
    ∙ first_of-front weighing_reasons record_reasons (here_in s file) f (told f failed)
record-refused s p result errors.Device new file body unclosed stands target failed told device =
    absurd (device failed)
record-refused s p result errors.NoMemory new file body unclosed stands target failed told device = tt

-- what is added is not held, and what is refused for it is
pub added-new : (result : Result ℕ SegmentFault) (k : ℕ) (held : Bool) → result ≡ Ok k
    → (IsTrue held → IsErrOf result segment.InstanceTwice) → held ≡ false
added-new result k true ok twice = absurd (unlike (sym ok ∙ twice refl))
  where
    unlike : ◌≡◌ {A = Result ℕ SegmentFault} (Ok k) (Err segment.InstanceTwice) → ⊥
    unlike e = cc
added-new result k false ok twice = refl

pub refused-held : (result : Result ℕ SegmentFault) (fault : SegmentFault) (held : Bool) → result ≡ Err fault
    → fault ≡ segment.InstanceTwice → (IsErrOf result segment.InstanceTwice → IsTrue held) → held ≡ true
refused-held result fault held failed is twice = twice (failed ∙ ap Err is)

-- the segment holds a record of its class and instance where the frame has its twin
pub twin-here : (s : State) (p : Placed) (file body : List ℕ) → s.numbering ≡ None
    → StandsIn s.segment.order s.at p body file
    → has_twin (frame_of s) (structure (here_in s file)) ≡ is_held s.segment.nodes (node_by s.dictionary p)
twin-here s p file body none stands =
    let h : Here = here_in s file in
    ap (λ frame. has_twin frame (structure h)) (frame-open s none)
    ∙ sym (held-twin s.segment.nodes (node_by s.dictionary p) (structure h) (class-here h p stands.placed)
    (instance-here h p stands.placed))

pub record-held : (s : State) (p : Placed) (told_weight : ℕ) (file body : List ℕ) → s.closed ≡ false
    → s.numbering ≡ None → StandsIn s.segment.order s.at p body file
    → is_target_kind (kind_of s.dictionary p.class) ≡ true → IsWeighed (here_in s file) told_weight
    → is_held s.segment.nodes (node_by s.dictionary p) ≡ true
    → fault_here (here_in s file) ≡ Some (fault_at InstanceTwice (s.at, 0))
record-held s p told_weight file body unclosed none stands target w twice =
    let h : Here = here_in s file in
    record-judged s p file body unclosed stands target
    ∙ first_of-back weighing_reasons record_reasons h w.none
    ∙ record-twice h (ap is_target_kind (kind-here h p stands.placed) ∙ target)
    (twin-here s p file body none stands ∙ twice)

-- and where it holds none the later reasons decide
pub record-new_here : (s : State) (p : Placed) (told_weight : ℕ) (file body : List ℕ) → s.closed ≡ false
    → s.numbering ≡ None → StandsIn s.segment.order s.at p body file
    → is_target_kind (kind_of s.dictionary p.class) ≡ true → IsWeighed (here_in s file) told_weight
    → is_held s.segment.nodes (node_by s.dictionary p) ≡ false
    → fault_here (here_in s file) ≡ first_of later_record_reasons (here_in s file)
record-new_here s p told_weight file body unclosed none stands target w new =
    let h : Here = here_in s file in
    record-judged s p file body unclosed stands target
    ∙ first_of-back weighing_reasons record_reasons h w.none
    ∙ first_of-passes InstanceTwice later_record_reasons h
    (test-InstanceTwice h (ap is_target_kind (kind-here h p stands.placed) ∙ target)
    ∙ ap (here h) (twin-here s p file body none stands ∙ new))

-- the state after any other record
abbrev pub after_record : State → Placed → ℕ → Bool → Collected → State
after_record s p told_weight header segment = record s {
  at = s.at + p.length;
  segment = segment;
  header = header;
  load = s.load + told_weight;
  records = s.records + 1;
}

pub takes-record : (s : State) (p : Placed) (told_weight number : ℕ) (header : Bool) (segment : Collected)
    (file : List ℕ) → s.closed ≡ false → s.numbering ≡ None
    → StandsIn s.segment.order s.at p s.segment.pending file
    → is_target_kind (kind_of s.dictionary p.class) ≡ true → IsWeighed (here_in s file) told_weight
    → is_held s.segment.nodes (node_by s.dictionary p) ≡ false
    → first_of later_record_reasons (here_in s file) ≡ None → number ≡ length s.segment.nodes
    → Becomes segment (with_node (node_by s.dictionary p) s.segment)
    → Takes (here_in s file) (given.Plain p.at p.class p.instance number)
    (after_record s p told_weight header segment)
takes-record s p told_weight number header segment file unclosed none stands target w new later number_is
    becomes =
    record {
      judged = record-new_here s p told_weight file s.segment.pending unclosed none stands target w new
          ∙ later;
      taken = OtherItem (structure h);
      is = target-item (kind h) h is;
      tells = target-tells (kind h) h (structure h) p.at p.class p.instance number is stands.placed.place
          (sym (class-here h p stands.placed)) (sym (instance-here h p stands.placed))
          (number_is ∙ sym (length-map s.segment.nodes structure_of)
          ∙ ap (λ (frame : List Structure). length frame) (sym (frame-open s none)));
      after =
          (λ i. record (before_of s) {
            place = sym (end-here h p stands.placed) i;
            frame = more i;
            load = s.load + w.weight_is i;
            records = s.records + 1;
          })
          ∙ sym (target-after (kind h) (before_of s) (structure h) (weight h) is);
    }
  where
    h : Here
    h = here_in s file

    is : is_target_kind (kind h) ≡ true
    is = ap is_target_kind (kind-here h p stands.placed) ∙ target

    joined : structure_by p s.segment.pending ≡ structure h
    joined = ap (structure_by p) stands.body_is ∙ sym stands.placed.is

    more : open_records s.numbering segment ≡ frame_of s ++ structure h ∷ []
    more =
        ap (λ numbering. open_records numbering segment) none
        ∙ ap (map structure_of) becomes.nodes
        ∙ map-append structure_of s.segment.nodes
        (record { node = node_by s.dictionary p; body = s.segment.pending } ∷ [])
        ∙ ap (λ last. map structure_of s.segment.nodes ++ last ∷ []) joined
        ∙ ap (λ frame. frame ++ structure h ∷ []) (sym (frame-open s none))

-- ---- an entry

sum-map : {A : Type 0} (f : A → Structure) (xs : List A)
    → sum_by size_of (map f xs) ≡ sum_by (λ x. size_of (f x)) xs
sum-map f [] = refl
sum-map f (x ∷ xs) =
    sum_by-cons size_of (f x) (map f xs) ∙ ap (λ n. size_of (f x) + n) (sum-map f xs)
    ∙ sym (sum_by-cons (λ x. size_of (f x)) x xs)

pub entry-judged : (s : State) (p : Placed) (file body : List ℕ) → s.closed ≡ false
    → StandsIn s.segment.order s.at p body file → kind_of s.dictionary p.class ≡ FrSH
    → first_of body_reasons (here_in s file) ≡ None
    → fault_here (here_in s file) ≡ first_of entry_reasons (here_in s file)
entry-judged s p file body unclosed stands kind_is good =
    let h : Here = here_in s file in
    fault-kind h p unclosed stands.placed
    ∙ entry-parts h (kind-here h p stands.placed ∙ kind_is)
    ∙ first_of-back body_reasons entry_reasons h good

pub takes-entry : (s : State) (p : Placed) (entry : Entry) (end : ℕ) (changed : Bool) (new : State)
    (file body : List ℕ) → s.closed ≡ false → StandsIn s.segment.order s.at p body file
    → kind_of s.dictionary p.class ≡ FrSH → first_of body_reasons (here_in s file) ≡ None
    → first_of entry_reasons (here_in s file) ≡ None → DescribesEntry s.segment.order file s.at entry end
    → Holds s entry changed new
    → Takes (here_in s file) (given.Entry p.at entry.class changed) (record new { at = end })
takes-entry s p entry end changed new file body unclosed stands kind_is good none d holds =
    subst (λ (n : State). Takes h (given.Entry p.at entry.class changed) (record n { at = end }))
    (sym holds.rest)
    taken
  where
    h : Here
    h = here_in s file

    is : kind h ≡ FrSH
    is = kind-here h p stands.placed ∙ kind_is

    grown : State
    grown = record s { at = end; dictionary = new.dictionary; plans = new.plans }

    run : List Structure
    run = map (λ e. e.0) (longest_run s.segment.order file (end_of (structure h)))

    whole : d.full ≡ entry
    whole = sym (cut-whole d.full (subst (λ (e : Entry). length e.elements ≤ 4096) d.entry_is holds.short))
        ∙ sym d.entry_is

    end_is : end ≡ end_of (structure h) + sum_by size_of run
    end_is = d.end_is ∙ ap (λ n. end_of (structure h) + n)
        (sym (sum-map (λ (e : Structure × Element). e.0)
        (longest_run s.segment.order file (end_of (structure h)))))

    after_is : dictionary_after s.dictionary d.full ≡ new.dictionary
    after_is = ap (dictionary_after s.dictionary) whole ∙ ap (dictionary_by s.dictionary) holds.step_is

    taken : Takes h (given.Entry p.at entry.class changed) grown
    taken = record {
      judged = entry-judged s p file body unclosed stands kind_is good ∙ none;
      taken = EntryItem (structure h) run d.full;
      is = ap (λ k. item_by k h) is
          ∙ ap (option_map (λ (entry : Entry). EntryItem (structure h) run entry)) d.full_is;
      tells = (
        stands.placed.place,
        ap (λ (e : Entry). e.class) (sym whole),
        subst (λ d. IsTrue changed ↔ (d ≢ s.dictionary)) (sym after_is) holds.changed_is,
      );
      after = λ i. record (before_of s) { place = end_is i; dictionary = sym after_is i };
    }

-- an entry that is not held leaves the fault of holding it
pub entry-answers : (s : State) (p : Placed) (error : ReadError) (new : State) (file body : List ℕ)
    → s.closed ≡ false → StandsIn s.segment.order s.at p body file → kind_of s.dictionary p.class ≡ FrSH
    → first_of body_reasons (here_in s file) ≡ None → AnswersHolding (here_in s file) (Err error)
    → Answers (here_in s file) (Err error) new
entry-answers s p (errors.Fault fault) new file body unclosed stands is good e =
    entry-judged s p file body unclosed stands is good ∙ e
entry-answers s p errors.Device new file body unclosed stands is good e = absurd e
entry-answers s p errors.NoMemory new file body unclosed stands is good e = tt
