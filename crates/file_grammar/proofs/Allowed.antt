-- What stands at a place of which no reason holds, by its kind, may stand there.
use Rattle.std.proofs.Common.{◌≡◌, ℕ, ◌+◌, ◌<◌, ◌≤◌, ◌⊎◌, inl, inr, Bool, true, false, not, ◌&&◌, ◌||◌, is_none, List}
use Rattle.std.proofs.Common.{[], ◌∷◌, drop, Option, Some, None, IsTrue, refl, sym, ap, ◌∙◌, subst, true≢false}
use Rattle.std.specs.Prelude.{◌==◌, nat_lt, nat_le, codes, option_and_then}
use Rattle.std.specs.Option.{option_map, option_map_or}
use Rattle.std.proofs.lemmas.Bool.{or_left, ltb-false, leb-false, or_cases, not-false, eqb-true, eq-eqb, both_ways}
use Rattle.dictionary.specs.declared.entries.Entry.{Entry}
use Rattle.dictionary.specs.Dictionary.{entry_of}
use Rattle.layout_plan.specs.declared.fields.Field.{Field}
use Rattle.layout_plan.specs.BuiltIn.{structure_fields}
use Rattle.file_grammar.specs.declared.reason.Reason.TheVariants.{NoLayout, UnreadLayout, StrayElement, InstanceTwice}
use Rattle.file_grammar.specs.declared.reason.Reason.TheVariants.{FrameHTwice, NoFrameH, LooseLink, OpenFrame}
use Rattle.file_grammar.specs.declared.reason.Reason.TheVariants.{BadClosing, AfterTable, FrameCount, ByteCount}
use Rattle.file_grammar.specs.declared.reason.Reason.TheVariants.{FileLimit, FramesLimit}
use Rattle.file_grammar.specs.declared.kind.Kind.{Kind}
use Rattle.file_grammar.specs.declared.kind.Kind.TheVariants.{FrSH, FrSE, FrameH, FrEndOfFrame, FrTOC, FrEndOfFile}
use Rattle.file_grammar.specs.declared.kind.Kind.TheVariants.{Other}
use Rattle.file_grammar.specs.Structure.{Structure, end_of, record_limit, file_limit, StandsWhole}
use Rattle.file_grammar.specs.Kind.{is_dictionary_kind, is_frame_kind, is_table_kind, is_target_kind, is_header_kind}
use Rattle.file_grammar.specs.Kind.{is_end_kind, is_closing_kind, is_file_end_kind}
use Rattle.file_grammar.specs.Record.{Reading, layout_in, reading_of, first_loose}
use Rattle.file_grammar.specs.Described.{longest_run}
use Rattle.file_grammar.specs.Item.{Item, EntryItem, OtherItem}
use Rattle.file_grammar.specs.Closing.{closes, field_named, number_named}
use Rattle.file_grammar.specs.MayStand.{frames_limit, RecordMayStand, IsNewIn, KindMayStand, MayStand}
use Rattle.file_grammar.specs.Fault.{Here, place, bytes_there, length_there, entries_before, class, kind, structure}
use Rattle.file_grammar.specs.Fault.{elements, number, load}
use Rattle.file_grammar.specs.Fault.{weight, fields, body_fault, has_twin, has_header, is_empty, fault_spot, first_of}
use Rattle.file_grammar.specs.Steps.{reasons_of, refusal_reason, item_by, item_here}
use Rattle.file_grammar.proofs.Firsts.{first-none}
use Rattle.file_grammar.proofs.Lengths.{Fits}
use Rattle.file_grammar.proofs.Structures.{stands-whole}
use Rattle.file_grammar.proofs.Classes.{class-FrSH, class-FrSE, held-unless}
use Rattle.file_grammar.proofs.Applying.{applies, layout-unapplied}
use Rattle.file_grammar.proofs.Readings.{fields-FrSH, fields-layout, body_fault-of, refusal-of, reading-here}
use Rattle.file_grammar.proofs.Tests.{test-UnreadLayout, test-InstanceTwice, test-FrameHTwice, test-NoFrameH}
use Rattle.file_grammar.proofs.Tests.{test-LooseLink, test-OpenFrame, test-BadClosing, test-AfterTable, test-FrameCount}
use Rattle.file_grammar.proofs.Tests.{test-ByteCount, test-FramesLimit}
use Rattle.file_grammar.proofs.Entries.{entry-found, step-taken}
use Rattle.file_grammar.proofs.Runs.{structures_of}
use Rattle.file_grammar.proofs.Linked.{linked-unless_loose}
use Rattle.file_grammar.proofs.Frames.{new-unless_twin, header-found, header-again, empty-is}
use Rattle.file_grammar.proofs.Unfaulted.{here-none, here_at-none, body-none, entry-none, weight-none}

-- a structure that stands whole
stands-here : (h : Here) → Fits (bytes_there h) (length_there h) → fault_spot FileLimit h ≡ None
    → StandsWhole h.order h.file (structure h)
stands-here h fits none =
    stands-whole h.order h.file (place h) fits
    (ltb-false file_limit (place h + length_there h) (here-none h (nat_lt file_limit (place h + length_there h)) none))

-- ---- what the reasons tell that do not hold

-- the layout is readable, and the body reads
fields-read : (h : Here) → is_table_kind (kind h) ≡ false → fault_spot UnreadLayout h ≡ None → (fs : List Field)
    × (fields h ≡ Some fs)
fields-read h other none = by (fields h) (here-none h (is_none (fields h)) (sym (test-UnreadLayout h other) ∙ none))
  where
    by : (o : Option (List Field)) → is_none o ≡ false → (fs : List Field) × (o ≡ Some fs)
    by None e = absurd (true≢false e)
    by (Some fs) e = (fs, refl)

reads-here : (h : Here) → fields h ≡ layout_in (entries_before h) (class h) → is_table_kind (kind h) ≡ false
    → fault_spot UnreadLayout h ≡ None → body_fault h ≡ None → (r : Reading)
    × (reading_of h.order (entries_before h) (structure h) ≡ Some r)
reads-here h same other unread none =
    let fs = fields-read h other unread in
    reading-here h fs.0 (sym same ∙ fs.1) (sym (body_fault-of h fs.0 fs.1) ∙ none)

-- no contents table stands before a record
table-none : (h : Here) → (is_frame_kind (kind h) || is_table_kind (kind h)) ≡ true → fault_spot AfterTable h ≡ None
    → h.before.table ≡ false
table-none h is none = here-none h h.before.table (sym (test-AfterTable h is) ∙ none)

-- the frame is not open
frame-none : (h : Here) → is_closing_kind (kind h) ≡ true → fault_spot OpenFrame h ≡ None → h.before.frame ≡ []
frame-none h is none =
    empty-is h.before.frame (here-none h (not (is_empty h.before.frame)) (sym (test-OpenFrame h is) ∙ none))

-- ---- FrSH

-- the answer: the item that is there, which may stand
pub record Stands (h : Here) : Type 0 where
  pub item : Item
  pub here : item_here h ≡ Some item
  pub may : MayStand h.order h.file h.before item

entry-stands : (h : Here) → h.before.closed ≡ false → Fits (bytes_there h) (length_there h) → kind h ≡ FrSH
    → first_of (reasons_of FrSH) h ≡ None → Stands h
entry-stands h unclosed fits is none =
    let body = body-none h (drop 3 (reasons_of FrSH)) none in
    let entry = entry-none h (FileLimit ∷ []) body.1 in
    let file = first-none FileLimit [] h entry.1 in
    let stands = stands-here h fits file.0 in
    let found = entry-found h.order h.file (structure h) stands (class-FrSH (entries_before h) (class h) is)
    (sym (body_fault-of h structure_fields (fields-FrSH h is)) ∙ body.0) in
    let run : List Structure = structures_of (longest_run h.order h.file (end_of (structure h))) in
    record {
      item = EntryItem (structure h) run found.0;
      here = ap (λ k. item_by k h) is
          ∙ ap (λ o. option_map (λ (entry : Entry). EntryItem (structure h) run entry) o) found.1;
      may = (
        unclosed,
        record {
          here = refl;
          described = found.2;
          taken = step-taken (entries_before h) found.0
              (sym (ap (option_and_then refusal_reason) (refusal-of h found.0 is found.1)) ∙ entry.0);
        },
      );
    }

-- ---- the other structures

-- a structure of its kind
structure-stands : (h : Here) (k : Kind) → kind h ≡ k → item_by k h ≡ Some (OtherItem (structure h))
    → h.before.closed ≡ false → StandsWhole h.order h.file (structure h) → (entry : Entry)
    → entry_of (entries_before h) (class h) ≡ Some entry → KindMayStand k h.order h.before (structure h) → Stands h
structure-stands h k is item unclosed stands entry found may = record {
  item = OtherItem (structure h);
  here = ap (λ k. item_by k h) is ∙ item;
  may = (
    unclosed,
    record {
      here = refl;
      stands = stands;
      entry = entry;
      held = found;
      kind = subst (λ k. KindMayStand k h.order h.before (structure h)) (sym is) may;
    },
  );
}

-- a class of a kind of its own is held
held-here : (h : Here) (k : Kind) → kind h ≡ k → is_dictionary_kind k ≡ false → applies NoLayout k ≡ false → (e : Entry)
    × (entry_of (entries_before h) (class h) ≡ Some e)
held-here h k is other applied =
    held-unless (entries_before h) (class h) (ap is_dictionary_kind is ∙ other)
    (layout-unapplied (class h == 1) (class h == 2) (entry_of (entries_before h) (class h))
    (ap (applies NoLayout) is ∙ applied))

table-stands : (h : Here) → h.before.closed ≡ false → Fits (bytes_there h) (length_there h) → kind h ≡ FrTOC
    → first_of (reasons_of FrTOC) h ≡ None → Stands h
table-stands h unclosed fits is none =
    let a = first-none OpenFrame (AfterTable ∷ FileLimit ∷ []) h none in
    let b = first-none AfterTable (FileLimit ∷ []) h a.1 in
    let c = first-none FileLimit [] h b.1 in
    let found = held-here h FrTOC is refl refl in
    structure-stands h FrTOC is refl unclosed (stands-here h fits c.0) found.0 found.1
    (frame-none h (ap is_closing_kind is) a.0, table-none h (ap (λ k. is_frame_kind k || is_table_kind k) is) b.0)

-- the number of frames and the place of the end that FrEndOfFile tells
pub number-here : (h : Here) (entry : Entry) (r : Reading) (name : List ℕ)
    → entry_of (entries_before h) (class h) ≡ Some entry
    → reading_of h.order (entries_before h) (structure h) ≡ Some r
    → number h name ≡ number_named entry.elements r.values name
number-here h entry r name found read =
    λ i. number_named (option_map_or (λ (e : Entry). e.elements) (found i) [])
    (option_map_or (λ (r : Reading). r.values) (read i) []) name

frames-told : (h : Here) → is_file_end_kind (kind h) ≡ true → fault_spot FrameCount h ≡ None
    → number h (codes "nFrames") ≡ h.before.frames
frames-told h is none =
    let field : ℕ = field_named (elements h) (codes "nFrames") in
    let test : Bool = number h (codes "nFrames") == h.before.frames in
    eqb-true (number h (codes "nFrames")) h.before.frames
    (not-false test (here_at-none h field (not test) (sym (test-FrameCount h is) ∙ none)))

bytes-told : (h : Here) → is_file_end_kind (kind h) ≡ true → fault_spot ByteCount h ≡ None
    → (number h (codes "nBytes") ≡ 0)
    ⊎ (number h (codes "nBytes") ≡ end_of (structure h))
bytes-told h is none =
    let field : ℕ = field_named (elements h) (codes "nBytes") in
    let test : Bool = number h (codes "nBytes") == 0 || number h (codes "nBytes") == end_of (structure h) in
    let either : test ≡ true = not-false test (here_at-none h field (not test) (sym (test-ByteCount h is) ∙ none)) in
    elim (or_cases (number h (codes "nBytes") == 0) (number h (codes "nBytes") == end_of (structure h)) either) [
      | inl e ↦ inl (eqb-true (number h (codes "nBytes")) 0 e)
      | inr e ↦ inr (eqb-true (number h (codes "nBytes")) (end_of (structure h)) e)
    ]

layout-told : (h : Here) (entry : Entry) → is_file_end_kind (kind h) ≡ true
    → entry_of (entries_before h) (class h) ≡ Some entry
    → fault_spot BadClosing h ≡ None → IsTrue (closes entry.elements)
layout-told h entry is found none =
    sym (ap (λ o. closes (option_map_or (λ (e : Entry). e.elements) o [])) found)
    ∙ not-false (closes (elements h)) (here-none h (not (closes (elements h))) (sym (test-BadClosing h is) ∙ none))

end-stands : (h : Here) → h.before.closed ≡ false → Fits (bytes_there h) (length_there h) → kind h ≡ FrEndOfFile
    → first_of (reasons_of FrEndOfFile) h ≡ None → Stands h
end-stands h unclosed fits is none =
    let a = first-none UnreadLayout (drop 1 (reasons_of FrEndOfFile)) h none in
    let b = body-none h (drop 4 (reasons_of FrEndOfFile)) a.1 in
    let c = first-none OpenFrame (drop 5 (reasons_of FrEndOfFile)) h b.1 in
    let d = first-none BadClosing (drop 6 (reasons_of FrEndOfFile)) h c.1 in
    let e = first-none FrameCount (ByteCount ∷ FileLimit ∷ []) h d.1 in
    let f = first-none ByteCount (FileLimit ∷ []) h e.1 in
    let g = first-none FileLimit [] h f.1 in
    let found = held-here h FrEndOfFile is refl refl in
    let read = reads-here h (fields-layout h (ap (applies UnreadLayout) is)) (ap is_table_kind is) a.0 b.0 in
    let length_there : (name : List ℕ)
    → number h name ≡ number_named found.0.elements read.0.values name =
    λ name. number-here h found.0 read.0 name found.1 read.1 in
    structure-stands h FrEndOfFile is refl unclosed (stands-here h fits g.0) found.0 found.1 (record {
      reading = read.0;
      reads = read.1;
      entry = found.0;
      held = found.1;
      layout = layout-told h found.0 (ap is_file_end_kind is) found.1 d.0;
      frame = frame-none h (ap is_closing_kind is) c.0;
      frames = sym (length_there (codes "nFrames")) ∙ frames-told h (ap is_file_end_kind is) e.0;
      bytes = subst (λ n. (n ≡ 0)
          ⊎ (n ≡ end_of (structure h))) (length_there (codes "nBytes")) (bytes-told h (ap is_file_end_kind is) f.0);
    })

-- ---- the records of frames

-- a record whose body reads, of a weight within the limits, before any contents table
record-may : (h : Here) → is_frame_kind (kind h) ≡ true → is_table_kind (kind h) ≡ false
    → applies UnreadLayout (kind h) ≡ true → weight h ≤ record_limit → load h + weight h ≤ record_limit
    → fault_spot UnreadLayout h ≡ None → body_fault h ≡ None → fault_spot AfterTable h ≡ None
    → RecordMayStand h.order h.before (structure h)
record-may h frame other applied small within unread good after =
    let read = reads-here h (fields-layout h applied) other unread good in
    record {
      reading = read.0;
      reads = read.1;
      weight = small;
      load = within;
      table = table-none h (or_left (is_frame_kind (kind h)) (is_table_kind (kind h)) frame) after;
    }

-- no record of the frame is its twin
new-here : (h : Here) → is_target_kind (kind h) ≡ true → fault_spot InstanceTwice h ≡ None
    → IsNewIn h.before.frame (structure h)
new-here h is none =
    new-unless_twin h.before.frame (structure h)
    (here-none h (has_twin h.before.frame (structure h)) (sym (test-InstanceTwice h is) ∙ none))

other-stands : (h : Here) → h.before.closed ≡ false → Fits (bytes_there h) (length_there h) → kind h ≡ Other
    → first_of (reasons_of Other) h ≡ None → Stands h
other-stands h unclosed fits is none =
    let a = weight-none h (drop 2 (reasons_of Other)) (ap is_frame_kind is) fits.small none in
    let b = first-none NoLayout (drop 3 (reasons_of Other)) h a.2 in
    let c = first-none UnreadLayout (drop 4 (reasons_of Other)) h b.1 in
    let d = body-none h (drop 7 (reasons_of Other)) c.1 in
    let e = first-none InstanceTwice (AfterTable ∷ FileLimit ∷ []) h d.1 in
    let f = first-none AfterTable (FileLimit ∷ []) h e.1 in
    let g = first-none FileLimit [] h f.1 in
    let found = held-unless (entries_before h) (class h) (ap is_dictionary_kind is)
    (here-none h (not (class h == 1 || class h == 2) && is_none (entry_of (entries_before h) (class h))) b.0) in
    structure-stands h Other is refl unclosed (stands-here h fits g.0) found.0 found.1 (
      record-may h (ap is_frame_kind is) (ap is_table_kind is) (ap (applies UnreadLayout) is) a.0 a.1 c.0 d.0 f.0,
      new-here h (ap is_target_kind is) e.0,
    )

header-stands : (h : Here) → h.before.closed ≡ false → Fits (bytes_there h) (length_there h) → kind h ≡ FrameH
    → first_of (reasons_of FrameH) h ≡ None → Stands h
header-stands h unclosed fits is none =
    let a = weight-none h (drop 2 (reasons_of FrameH)) (ap is_frame_kind is) fits.small none in
    let b = first-none UnreadLayout (drop 3 (reasons_of FrameH)) h a.2 in
    let c = body-none h (drop 6 (reasons_of FrameH)) b.1 in
    let d = first-none InstanceTwice (FrameHTwice ∷ AfterTable ∷ FileLimit ∷ []) h c.1 in
    let e = first-none FrameHTwice (AfterTable ∷ FileLimit ∷ []) h d.1 in
    let f = first-none AfterTable (FileLimit ∷ []) h e.1 in
    let g = first-none FileLimit [] h f.1 in
    let found = held-here h FrameH is refl refl in
    let first : has_header (entries_before h) h.before.frame ≡ false =
    here-none h (has_header (entries_before h) h.before.frame)
    (sym (test-FrameHTwice h (ap is_header_kind is)) ∙ e.0) in
    structure-stands h FrameH is refl unclosed (stands-here h fits g.0) found.0 found.1 (
      record-may h (ap is_frame_kind is) (ap is_table_kind is) (ap (applies UnreadLayout) is) a.0 a.1 b.0 c.0 f.0,
      new-here h (ap is_target_kind is) d.0,
      λ some. both_ways (has_header (entries_before h) h.before.frame) first
          (header-again (entries_before h) h.before.frame some),
    )

frame_end-stands : (h : Here) → h.before.closed ≡ false → Fits (bytes_there h) (length_there h) → kind h ≡ FrEndOfFrame
    → first_of (reasons_of FrEndOfFrame) h ≡ None → Stands h
frame_end-stands h unclosed fits is none =
    let a = weight-none h (drop 2 (reasons_of FrEndOfFrame)) (ap is_frame_kind is) fits.small none in
    let b = first-none UnreadLayout (drop 3 (reasons_of FrEndOfFrame)) h a.2 in
    let c = body-none h (drop 6 (reasons_of FrEndOfFrame)) b.1 in
    let d = first-none NoFrameH (drop 7 (reasons_of FrEndOfFrame)) h c.1 in
    let e = first-none LooseLink (drop 8 (reasons_of FrEndOfFrame)) h d.1 in
    let f = first-none AfterTable (FileLimit ∷ FramesLimit ∷ []) h e.1 in
    let g = first-none FileLimit (FramesLimit ∷ []) h f.1 in
    let i = first-none FramesLimit [] h g.1 in
    let found = held-here h FrEndOfFrame is refl refl in
    let ends : is_end_kind (kind h) ≡ true = ap is_end_kind is in
    let header : has_header (entries_before h) h.before.frame ≡ true =
    not-false (has_header (entries_before h) h.before.frame)
    (here-none h (not (has_header (entries_before h) h.before.frame)) (sym (test-NoFrameH h ends) ∙ d.0)) in
    let linked : first_loose h.order (entries_before h) h.before.frame h.before.frame ≡ None =
    sym (test-LooseLink h ends) ∙ e.0 in
    let more : h.before.frames < frames_limit =
    leb-false frames_limit h.before.frames
    (here-none h (nat_le frames_limit h.before.frames) (sym (test-FramesLimit h ends) ∙ i.0)) in
    structure-stands h FrEndOfFrame is refl unclosed (stands-here h fits g.0) found.0 found.1 (
      record-may h (ap is_frame_kind is) (ap is_table_kind is) (ap (applies UnreadLayout) is) a.0 a.1 b.0 c.0 f.0,
      header-found (entries_before h) h.before.frame header,
      linked-unless_loose h.order (entries_before h) h.before.frame h.before.frame linked,
      more,
    )

-- ---- all kinds

stray-stands : (h : Here) → kind h ≡ FrSE → first_of (reasons_of FrSE) h ≡ None → Stands h
stray-stands h is none =
    let body = body-none h (StrayElement ∷ []) none in
    let stray = first-none StrayElement [] h body.1 in
    absurd (true≢false (sym (eq-eqb (class h) 2 (class-FrSE (entries_before h) (class h) is))
    ∙ here-none h (class h == 2) stray.0))

pub kind-stands : (h : Here) (k : Kind) → h.before.closed ≡ false → Fits (bytes_there h) (length_there h) → kind h ≡ k
    → first_of (reasons_of k) h ≡ None → Stands h
kind-stands h FrSH unclosed fits is none = entry-stands h unclosed fits is none
kind-stands h FrSE unclosed fits is none = stray-stands h is none
kind-stands h FrameH unclosed fits is none = header-stands h unclosed fits is none
kind-stands h FrEndOfFrame unclosed fits is none = frame_end-stands h unclosed fits is none
kind-stands h FrTOC unclosed fits is none = table-stands h unclosed fits is none
kind-stands h FrEndOfFile unclosed fits is none = end-stands h unclosed fits is none
kind-stands h Other unclosed fits is none = other-stands h unclosed fits is none
