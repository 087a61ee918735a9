-- Of what may stand at a place no reason holds, by its kind.
use Rattle.std.proofs.Common.{◌≡◌, ℕ, ◌+◌, ◌≤◌, ◌⊎◌, inl, inr, true, false, not, ◌||◌, is_none, List, [], ◌∷◌, drop}
use Rattle.std.proofs.Common.{Some, None, Result, Ok, Err, IsOk, refl, sym, ap, ◌∙◌, subst, arith}
use Rattle.std.specs.Prelude.{◌==◌, nat_le, codes}
use Rattle.std.specs.Option.{option_map, option_map_or}
use Rattle.std.proofs.lemmas.Bool.{le-ltb, lt-leb, eq-eqb, and_left, and_right, or_left, or_right, cond-true}
use Rattle.std.proofs.lemmas.Bool.{false_from_ne_true}
use Rattle.std.proofs.lemmas.Option.{option_and_then_some}
use Rattle.dictionary.specs.declared.entries.Entry.{Entry}
use Rattle.dictionary.specs.declared.held.AddFault.{AddFault}
use Rattle.dictionary.specs.Dictionary.{entry_of, step}
use Rattle.layout_plan.specs.BuiltIn.{structure_fields}
use Rattle.file_grammar.specs.declared.reason.Reason.{Reason}
use Rattle.file_grammar.specs.declared.reason.Reason.TheVariants.{RecordLimit, FrameLimit, NoLayout, UnreadLayout}
use Rattle.file_grammar.specs.declared.reason.Reason.TheVariants.{InstanceTwice, FrameHTwice, NoFrameH, LooseLink}
use Rattle.file_grammar.specs.declared.reason.Reason.TheVariants.{OpenFrame, BadClosing, AfterTable, FrameCount}
use Rattle.file_grammar.specs.declared.reason.Reason.TheVariants.{ByteCount, FileLimit, FramesLimit}
use Rattle.file_grammar.specs.declared.kind.Kind.{Kind}
use Rattle.file_grammar.specs.declared.kind.Kind.TheVariants.{FrSH, FrSE, FrameH, FrEndOfFrame, FrTOC, FrEndOfFile}
use Rattle.file_grammar.specs.declared.kind.Kind.TheVariants.{Other}
use Rattle.file_grammar.specs.Structure.{Structure, size_of, end_of, file_limit, StandsWhole}
use Rattle.file_grammar.specs.Kind.{kind_of, is_frame_kind, is_table_kind, is_target_kind, is_header_kind, is_end_kind}
use Rattle.file_grammar.specs.Kind.{is_closing_kind, is_file_end_kind}
use Rattle.file_grammar.specs.Record.{Reading, layout_in, reading_by, reading_of}
use Rattle.file_grammar.specs.Described.{IsEntry}
use Rattle.file_grammar.specs.Item.{Item, EntryItem, OtherItem}
use Rattle.file_grammar.specs.Closing.{closes, number_named, field_named}
use Rattle.file_grammar.specs.MayStand.{frames_limit, RecordMayStand, IsNewIn, FileEndMayStand, KindMayStand}
use Rattle.file_grammar.specs.MayStand.{StructureMayStand}
use Rattle.file_grammar.specs.Fault.{Here, place, length_there, entries_before, class, kind, structure, elements}
use Rattle.file_grammar.specs.Fault.{number, load, weight}
use Rattle.file_grammar.specs.Fault.{fields, body_fault, err_of, refusal, here, here_at, has_twin, has_header, is_empty}
use Rattle.file_grammar.specs.Fault.{fault_spot, first_of, reasons}
use Rattle.file_grammar.specs.Steps.{reasons_of, weight_reason, item_by, item_here}
use Rattle.file_grammar.proofs.Firsts.{first_of-passes}
use Rattle.file_grammar.proofs.Lengths.{fits-length}
use Rattle.file_grammar.proofs.Structures.{size-structure_at, stands-fits, stands-within}
use Rattle.file_grammar.proofs.Judging.{first_of-kind, first_of-good_body, first_of-taken, first_of-light}
use Rattle.file_grammar.proofs.Judging.{weight_reason-none}
use Rattle.file_grammar.proofs.Applying.{applies}
use Rattle.file_grammar.proofs.Bodies.{no_fault-reading}
use Rattle.file_grammar.proofs.Readings.{fields-FrSH, fields-layout, body_fault-of, refusal-of}
use Rattle.file_grammar.proofs.Entries.{entry-again, no_fault-entry}
use Rattle.file_grammar.proofs.Weights.{size-weight}
use Rattle.file_grammar.proofs.Linked.{no_loose-linked}
use Rattle.file_grammar.proofs.Frames.{no_twin-new, header-found, header-again}
use Rattle.file_grammar.proofs.Allowed.{number-here}

-- what is to be shown of a place: no reason holds there, and this item stands there
pub record IsClear (h : Here) (item : Item) : Type 0 where
  pub none : first_of reasons h ≡ None
  pub here : item_here h ≡ Some item

file-clear : (h : Here) → StandsWhole h.order h.file (structure h) → fault_spot FileLimit h ≡ None
file-clear h stands =
    ap (here h) (le-ltb file_limit (place h + length_there h) (stands-within h.order h.file (structure h) stands))

-- no reason holds where none of its kind does
clear-kind : (h : Here) (k : Kind) → StandsWhole h.order h.file (structure h) → kind h ≡ k
    → first_of (reasons_of k) h ≡ None → first_of reasons h ≡ None
clear-kind h k stands is none =
    let fits = stands-fits h.order h.file (structure h) stands in
    first_of-kind h (omega (arith, fits.head)) (fits-length h.order h.file (place h) fits)
    ∙ ap (λ k. first_of (reasons_of k) h) is ∙ none

-- ---- FrSH

-- a taken entry is not refused
not-refused : (r : Result (List Entry) AddFault) → IsOk r → err_of r ≡ None
not-refused (Ok next) taken = refl
not-refused (Err f) taken = cc

pub entry-clear : (h : Here) (run : List Structure) (entry : Entry) → IsEntry h.order h.file (structure h) run entry
    → IsOk (step (entries_before h) entry) → IsClear h (EntryItem (structure h) run entry)
entry-clear h run entry described taken =
    let found = entry-again h.order h.file (structure h) run entry described in
    let good : body_fault h ≡ None = body_fault-of h structure_fields (fields-FrSH h is)
    ∙ no_fault-entry h.order h.file (structure h) run entry described in
    let free : refusal h ≡ None = refusal-of h entry is found.0 ∙ not-refused (step (entries_before h) entry) taken in
    record {
      none = clear-kind h FrSH described.stands is (first_of-good_body h (drop 3 (reasons_of FrSH)) good
          ∙ first_of-taken h (FileLimit ∷ []) free ∙ first_of-passes FileLimit [] h (file-clear h described.stands));
      here = ap (λ k. item_by k h) is
          ∙ (λ i. option_map (λ (entry : Entry). EntryItem (structure h) (found.1 i) entry) (found.0 i));
    }
  where
    is : kind h ≡ FrSH
    is = ap (kind_of (entries_before h)) described.class

-- ---- what may stand tells that the reasons do not hold

table-clear : (h : Here) → h.before.table ≡ false → fault_spot AfterTable h ≡ None
table-clear h none =
    ap (here h) (and_left h.before.table (is_frame_kind (kind h) || is_table_kind (kind h)) none)

frame-clear : (h : Here) → h.before.frame ≡ [] → fault_spot OpenFrame h ≡ None
frame-clear h none =
    ap (here h) (and_right (is_closing_kind (kind h)) (not (is_empty h.before.frame))
    (ap (λ frame. not (is_empty frame)) none))

-- a body that reads has no fault
pub record Reads (h : Here) : Type 0 where
  pub layout : fault_spot UnreadLayout h ≡ None
  pub body : body_fault h ≡ None

reads-clear : (h : Here) (r : Reading) → fields h ≡ layout_in (entries_before h) (class h)
    → reading_of h.order (entries_before h) (structure h) ≡ Some r → Reads h
reads-clear h r same read =
    option_and_then_some (reading_by h.order (structure h).body) (layout_in (entries_before h) (class h)) r read
    (λ fs layout by.
    let is : fields h ≡ Some fs = same ∙ layout in
    record {
      layout = ap (here h) (and_right (not (is_table_kind (kind h))) (is_none (fields h)) (ap is_none is));
      body = body_fault-of h fs is ∙ no_fault-reading h.order (structure h).body fs r by;
    })

-- a class that is held has a layout
layout-clear : (h : Here) (entry : Entry) → entry_of (entries_before h) (class h) ≡ Some entry
    → fault_spot NoLayout h ≡ None
layout-clear h entry found =
    ap (here h) (and_right (not (class h == 1 || class h == 2)) (is_none (entry_of (entries_before h) (class h)))
    (ap is_none found))

-- its weight is within the limits
weight-clear : (h : Here) → StandsWhole h.order h.file (structure h) → RecordMayStand h.order h.before (structure h)
    → weight_reason (load h) (length_there h) (weight h) ≡ None
weight-clear h stands may =
    let size : size_of (structure h) ≡ length_there h =
    size-structure_at h.order h.file (place h) (stands-fits h.order h.file (structure h) stands) in
    let more : length_there h ≤ weight h =
    subst (λ n. n ≤ weight h) size (size-weight h.order (entries_before h) (structure h) may.reading may.reads) in
    weight_reason-none (load h) (length_there h) (weight h) (omega (arith, more, may.load)) may.weight may.load

-- the reasons at the front of a record's
record-clear : (h : Here) (k : Kind) (rs : List Reason) → StandsWhole h.order h.file (structure h) → kind h ≡ k
    → is_frame_kind k ≡ true → RecordMayStand h.order h.before (structure h)
    → first_of (RecordLimit ∷ FrameLimit ∷ rs) h ≡ first_of rs h
record-clear h k rs stands is frame may =
    first_of-light h rs (ap is_frame_kind is ∙ frame) (stands-fits h.order h.file (structure h) stands).small
    (weight-clear h stands may)

twin-clear : (h : Here) → IsNewIn h.before.frame (structure h) → fault_spot InstanceTwice h ≡ None
twin-clear h new =
    ap (here h) (and_right (is_target_kind (kind h)) (has_twin h.before.frame (structure h))
    (no_twin-new h.before.frame (structure h) new))

-- ---- the kinds

other-clear : (h : Here) → StandsWhole h.order h.file (structure h) → (entry : Entry)
    → entry_of (entries_before h) (class h) ≡ Some entry → kind h ≡ Other
    → KindMayStand Other h.order h.before (structure h)
    → first_of (reasons_of Other) h ≡ None
other-clear h stands entry found is (may, new) =
    let reads = reads-clear h may.reading (fields-layout h (ap (applies UnreadLayout) is)) may.reads in
    record-clear h Other (drop 2 (reasons_of Other)) stands is refl may
    ∙ first_of-passes NoLayout (drop 3 (reasons_of Other)) h (layout-clear h entry found)
    ∙ first_of-passes UnreadLayout (drop 4 (reasons_of Other)) h reads.layout
    ∙ first_of-good_body h (drop 7 (reasons_of Other)) reads.body
    ∙ first_of-passes InstanceTwice (AfterTable ∷ FileLimit ∷ []) h (twin-clear h new)
    ∙ first_of-passes AfterTable (FileLimit ∷ []) h (table-clear h may.table)
    ∙ first_of-passes FileLimit [] h (file-clear h stands)

header-clear : (h : Here) → StandsWhole h.order h.file (structure h) → kind h ≡ FrameH
    → KindMayStand FrameH h.order h.before (structure h) → first_of (reasons_of FrameH) h ≡ None
header-clear h stands is (may, new, first) =
    let reads = reads-clear h may.reading (fields-layout h (ap (applies UnreadLayout) is)) may.reads in
    record-clear h FrameH (drop 2 (reasons_of FrameH)) stands is refl may
    ∙ first_of-passes UnreadLayout (drop 3 (reasons_of FrameH)) h reads.layout
    ∙ first_of-good_body h (drop 6 (reasons_of FrameH)) reads.body
    ∙ first_of-passes InstanceTwice (FrameHTwice ∷ AfterTable ∷ FileLimit ∷ []) h (twin-clear h new)
    ∙ first_of-passes FrameHTwice (AfterTable ∷ FileLimit ∷ []) h
    (ap (here h) (and_right (is_header_kind (kind h)) (has_header (entries_before h) h.before.frame)
    (false_from_ne_true (has_header (entries_before h) h.before.frame)
    (λ some. first (header-found (entries_before h) h.before.frame some)))))
    ∙ first_of-passes AfterTable (FileLimit ∷ []) h (table-clear h may.table)
    ∙ first_of-passes FileLimit [] h (file-clear h stands)

frame_end-clear : (h : Here) → StandsWhole h.order h.file (structure h) → kind h ≡ FrEndOfFrame
    → KindMayStand FrEndOfFrame h.order h.before (structure h) → first_of (reasons_of FrEndOfFrame) h ≡ None
frame_end-clear h stands is (may, header, linked, more) =
    let reads = reads-clear h may.reading (fields-layout h (ap (applies UnreadLayout) is)) may.reads in
    record-clear h FrEndOfFrame (drop 2 (reasons_of FrEndOfFrame)) stands is refl may
    ∙ first_of-passes UnreadLayout (drop 3 (reasons_of FrEndOfFrame)) h reads.layout
    ∙ first_of-good_body h (drop 6 (reasons_of FrEndOfFrame)) reads.body
    ∙ first_of-passes NoFrameH (drop 7 (reasons_of FrEndOfFrame)) h
    (ap (here h) (and_right (is_end_kind (kind h)) (not (has_header (entries_before h) h.before.frame))
    (ap not (header-again (entries_before h) h.before.frame header))))
    ∙ first_of-passes LooseLink (drop 8 (reasons_of FrEndOfFrame)) h
    (cond-true (is_end_kind (kind h)) _ _ (ap is_end_kind is)
    ∙ no_loose-linked h.order (entries_before h) h.before.frame h.before.frame linked)
    ∙ first_of-passes AfterTable (FileLimit ∷ FramesLimit ∷ []) h (table-clear h may.table)
    ∙ first_of-passes FileLimit (FramesLimit ∷ []) h (file-clear h stands)
    ∙ first_of-passes FramesLimit [] h
    (ap (here h) (and_right (is_end_kind (kind h)) (nat_le frames_limit h.before.frames)
    (lt-leb frames_limit h.before.frames more)))

table-kind-clear : (h : Here) → StandsWhole h.order h.file (structure h)
    → KindMayStand FrTOC h.order h.before (structure h) → first_of (reasons_of FrTOC) h ≡ None
table-kind-clear h stands (frame, table) =
    first_of-passes OpenFrame (AfterTable ∷ FileLimit ∷ []) h (frame-clear h frame)
    ∙ first_of-passes AfterTable (FileLimit ∷ []) h (table-clear h table)
    ∙ first_of-passes FileLimit [] h (file-clear h stands)

-- what FrEndOfFile tells
frames-clear : (h : Here) → number h (codes "nFrames") ≡ h.before.frames → fault_spot FrameCount h ≡ None
frames-clear h is =
    ap (here_at h (field_named (elements h) (codes "nFrames")))
    (and_right (is_file_end_kind (kind h)) (not (number h (codes "nFrames") == h.before.frames))
    (ap not (eq-eqb (number h (codes "nFrames")) h.before.frames is)))

bytes-clear : (h : Here) → (number h (codes "nBytes") ≡ 0) ⊎ (number h (codes "nBytes") ≡ end_of (structure h))
    → fault_spot ByteCount h ≡ None
bytes-clear h is =
    ap (here_at h (field_named (elements h) (codes "nBytes")))
    (and_right (is_file_end_kind (kind h))
    (not (number h (codes "nBytes") == 0 || number h (codes "nBytes") == end_of (structure h))) (ap not (either is)))
  where
    either : (number h (codes "nBytes") ≡ 0) ⊎ (number h (codes "nBytes") ≡ end_of (structure h))
        → (number h (codes "nBytes") == 0 || number h (codes "nBytes") == end_of (structure h)) ≡ true
    either (inl e) = or_left _ _ (eq-eqb (number h (codes "nBytes")) 0 e)
    either (inr e) =
        or_right (number h (codes "nBytes") == 0) _ (eq-eqb (number h (codes "nBytes")) (end_of (structure h)) e)

end-clear : (h : Here) → StandsWhole h.order h.file (structure h) → kind h ≡ FrEndOfFile
    → FileEndMayStand h.order h.before (structure h) → first_of (reasons_of FrEndOfFile) h ≡ None
end-clear h stands is may =
    let reads = reads-clear h may.reading (fields-layout h (ap (applies UnreadLayout) is)) may.reads in
    let length_there : (name : List ℕ)
    → number h name ≡ number_named may.entry.elements may.reading.values name =
    λ name. number-here h may.entry may.reading name may.held may.reads in
    let layout : closes (elements h) ≡ true = ap (λ o. closes (option_map_or (λ (e : Entry). e.elements) o [])) may.held
    ∙ may.layout in
    first_of-passes UnreadLayout (drop 1 (reasons_of FrEndOfFile)) h reads.layout
    ∙ first_of-good_body h (drop 4 (reasons_of FrEndOfFile)) reads.body
    ∙ first_of-passes OpenFrame (drop 5 (reasons_of FrEndOfFile)) h (frame-clear h may.frame)
    ∙ first_of-passes BadClosing (drop 6 (reasons_of FrEndOfFile)) h
    (ap (here h) (and_right (is_file_end_kind (kind h)) (not (closes (elements h))) (ap not layout)))
    ∙ first_of-passes FrameCount (ByteCount ∷ FileLimit ∷ []) h
    (frames-clear h (length_there (codes "nFrames") ∙ may.frames))
    ∙ first_of-passes ByteCount (FileLimit ∷ []) h
    (bytes-clear h (subst (λ n. (n ≡ 0) ⊎ (n ≡ end_of (structure h))) (sym (length_there (codes "nBytes"))) may.bytes))
    ∙ first_of-passes FileLimit [] h (file-clear h stands)

-- ---- all kinds but FrSH

pub structure-clear : (h : Here) → StructureMayStand h.order h.file h.before (structure h)
    → IsClear h (OtherItem (structure h))
structure-clear h may = by (kind h) refl may.kind
  where
    clear : (k : Kind) → kind h ≡ k → item_by k h ≡ Some (OtherItem (structure h)) → first_of (reasons_of k) h ≡ None
        → IsClear h (OtherItem (structure h))
    clear k is item none = record { none = clear-kind h k may.stands is none; here = ap (λ k. item_by k h) is ∙ item }

    by : (k : Kind) → kind h ≡ k → KindMayStand k h.order h.before (structure h) → IsClear h (OtherItem (structure h))
    by FrSH is m = absurd m
    by FrSE is m = absurd m
    by FrameH is m = clear FrameH is refl (header-clear h may.stands is m)
    by FrEndOfFrame is m = clear FrEndOfFrame is refl (frame_end-clear h may.stands is m)
    by FrTOC is m = clear FrTOC is refl (table-kind-clear h may.stands m)
    by FrEndOfFile is m = clear FrEndOfFile is refl (end-clear h may.stands is m)
    by Other is m = clear Other is refl (other-clear h may.stands may.entry may.held is m)
