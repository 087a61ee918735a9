-- The reasons of each kind, in the parts that the code judges one after another.
use Rattle.std.proofs.Common.{◌≡◌, ℕ, ◌+◌, ◌≤◌, Bool, true, false, not, ◌&&◌, ◌||◌, cond, List, [], ◌∷◌, ◌++◌, length}
use Rattle.std.proofs.Common.{drop, is_none, Option, Some, None, refl, sym, ap, ◌∙◌, subst, arith}
use Rattle.std.specs.Prelude.{◌==◌, nat_lt, option_and_then, find, is_some, codes, Result, Ok, Err, IfOk, IfErr, OnOk, IsErrAnd}
use Rattle.std.specs.Bool.{then_some}
use Rattle.std.specs.Option.{option_map_or, option_or}
use Rattle.std.proofs.lemmas.Bool.{false≢true, le-ltb, eq-eqb, eqb-true, eqb-false, ne_eqb}
use Rattle.std.proofs.lemmas.Option.{same_Some, none-some, option_and_then_some}
use Rattle.dictionary.specs.declared.entries.Entry.{Entry}
use Rattle.dictionary.specs.Dictionary.{entry_of}
use Rattle.layout_plan.specs.declared.fields.Field.{Field}
use Rattle.layout_plan.specs.Body.{values_length, IsMeasured}
use Rattle.layout_plan.specs.Layout.{AreSound, layout_of}
use Rattle.layout_plan.specs.Reading.{fault_of}
use Rattle.layout_plan.specs.BuiltIn.{structure_fields, element_fields}
use Rattle.layout_plan.proofs.LengthLemmas.{body-length}
use Rattle.file_grammar.specs.declared.reason.Reason.{Reason}
use Rattle.file_grammar.specs.declared.reason.Reason.TheVariants.{RecordLimit, FrameLimit, NoLayout, UnreadLayout}
use Rattle.file_grammar.specs.declared.reason.Reason.TheVariants.{BodyShort, BodyLong, BadText, StrayElement}
use Rattle.file_grammar.specs.declared.reason.Reason.TheVariants.{InstanceTwice, FrameHTwice, FrameCount, ByteCount}
use Rattle.file_grammar.specs.declared.reason.Reason.TheVariants.{FileLimit}
use Rattle.file_grammar.specs.declared.fault.Fault.{Fault}
use Rattle.file_grammar.specs.declared.kind.Kind.{Kind}
use Rattle.file_grammar.specs.declared.kind.Kind.TheVariants.{FrSH, FrSE, FrameH, FrEndOfFrame, FrTOC, FrEndOfFile}
use Rattle.file_grammar.specs.declared.kind.Kind.TheVariants.{Other}
use Rattle.file_grammar.specs.Structure.{Structure, size_of, end_of, record_limit, file_limit}
use Rattle.file_grammar.specs.Closing.{field_named}
use Rattle.file_grammar.specs.Kind.{is_frame_kind, is_target_kind, is_table_kind, is_header_kind, is_file_end_kind}
use Rattle.file_grammar.specs.Record.{Reading, reading_by, reading_of, layout_in, is_target, has_target}
use Rattle.file_grammar.specs.Fault.{Here, Spot, place, bytes_there, length_there, entries_before, class, kind}
use Rattle.file_grammar.specs.Fault.{structure, fields, fields_by}
use Rattle.file_grammar.specs.Fault.{weight, load, body_fault, elements, number, here, here_at, is_twin, has_twin}
use Rattle.file_grammar.specs.Fault.{has_header}
use Rattle.file_grammar.specs.Fault.{fault_spot, fault_at, first_of}
use Rattle.file_grammar.specs.Steps.{length_reason, reasons_of}
use Rattle.item_reader.specs.Judged.{ReadsHere, is_read_kind, body_reasons, reading_reasons, weighing_reasons}
use Rattle.item_reader.specs.Judged.{place_reasons, record_reasons, frame_end_reasons, table_reasons, count_reasons}
use Rattle.item_reader.specs.Judged.{closing_reasons, entry_reasons, IsReadBy, IsRead}
use Rattle.file_grammar.proofs.Firsts.{first_of-holds, first_of-passes, first_of-others}
use Rattle.file_grammar.proofs.Lengths.{Fits}
use Rattle.file_grammar.proofs.Tests.{test-InstanceTwice, test-FrameCount, test-ByteCount}
use Rattle.file_grammar.proofs.Applying.{applies, unapplied}
use Rattle.file_grammar.proofs.Weights.{layout-sound}
use Rattle.file_grammar.proofs.Bodies.{reading-again, no_fault-reading, structure_fields-sound}
use Rattle.file_grammar.proofs.Bodies.{element_fields-sound}
use Rattle.file_grammar.proofs.Judging.{first_of-good_body, first_of-unread_weight}

-- ---- parts one after another

first_of-append : (xs ys : List Reason) (h : Here) → first_of (xs ++ ys) h ≡ option_or (first_of xs h) (first_of ys h)
first_of-append [] ys h = refl
first_of-append (x ∷ xs) ys h = by (fault_spot x h) (first_of (xs ++ ys) h) (first_of-append xs ys h)
  where
    by : (o : Option Spot) (rest : Option Fault) → rest ≡ option_or (first_of xs h) (first_of ys h)
        → option_map_or (λ spot. Some (fault_at x spot)) o rest
        ≡ option_or (option_map_or (λ spot. Some (fault_at x spot)) o (first_of xs h)) (first_of ys h)
    by None rest e = e
    by (Some spot) rest e = refl

-- a fault of the part at the front is the first of all
pub first_of-front : (xs ys : List Reason) (h : Here) (f : Fault) → first_of xs h ≡ Some f
    → first_of (xs ++ ys) h ≡ Some f
first_of-front xs ys h f e = first_of-append xs ys h ∙ ap (λ o. option_or o (first_of ys h)) e

-- and where there is none the others decide
pub first_of-back : (xs ys : List Reason) (h : Here) → first_of xs h ≡ None → first_of (xs ++ ys) h ≡ first_of ys h
first_of-back xs ys h e = first_of-append xs ys h ∙ ap (λ o. option_or o (first_of ys h)) e

-- a reason that cannot hold may be put in
skipped : (reason : Reason) (rs : List Reason) (h : Here) → Fits (bytes_there h) (length_there h)
    → applies reason (kind h) ≡ false
    → first_of rs h ≡ first_of (reason ∷ rs) h
skipped reason rs h fits e = sym (first_of-passes reason rs h (unapplied h fits reason e))

pub record-parts : (h : Here) → Fits (bytes_there h) (length_there h) → is_target_kind (kind h) ≡ true
    → first_of (reasons_of (kind h)) h ≡ first_of (weighing_reasons ++ record_reasons) h
record-parts h fits target = by (kind h) refl target
  where
    by : (k : Kind) → kind h ≡ k → is_target_kind k ≡ true
        → first_of (reasons_of k) h ≡ first_of (weighing_reasons ++ record_reasons) h
    by FrameH is t =
        first_of-others RecordLimit (drop 1 (reasons_of FrameH)) (drop 1 (weighing_reasons ++ record_reasons)) h
        (first_of-others FrameLimit (drop 2 (reasons_of FrameH)) (drop 2 (weighing_reasons ++ record_reasons)) h
        (skipped NoLayout (drop 2 (reasons_of FrameH)) h fits (ap (applies NoLayout) is)))
    by Other is t = behind (RecordLimit ∷ FrameLimit ∷ NoLayout ∷ UnreadLayout ∷ BodyShort ∷ BodyLong ∷ BadText
        ∷ InstanceTwice ∷ [])
      where
        behind : (rs : List Reason) → first_of (rs ++ place_reasons) h ≡ first_of (rs ++ FrameHTwice ∷ place_reasons) h
        behind [] = skipped FrameHTwice place_reasons h fits (ap (applies FrameHTwice) is)
        behind (r ∷ rs) = first_of-others r (rs ++ place_reasons) (rs ++ FrameHTwice ∷ place_reasons) h (behind rs)
    by FrSH is t = absurd (false≢true t)
    by FrSE is t = absurd (false≢true t)
    by FrEndOfFrame is t = absurd (false≢true t)
    by FrTOC is t = absurd (false≢true t)
    by FrEndOfFile is t = absurd (false≢true t)

pub frame_end-parts : (h : Here) → Fits (bytes_there h) (length_there h) → kind h ≡ FrEndOfFrame
    → first_of (reasons_of (kind h)) h ≡ first_of (weighing_reasons ++ frame_end_reasons) h
frame_end-parts h fits is =
    ap (λ k. first_of (reasons_of k) h) is
    ∙ first_of-others RecordLimit (drop 1 (reasons_of FrEndOfFrame)) (drop 1 (weighing_reasons ++ frame_end_reasons)) h
    (first_of-others FrameLimit (drop 2 (reasons_of FrEndOfFrame)) (drop 2 (weighing_reasons ++ frame_end_reasons)) h
    (skipped NoLayout (drop 2 (reasons_of FrEndOfFrame)) h fits (ap (applies NoLayout) is)))

pub file_end-parts : (h : Here) → Fits (bytes_there h) (length_there h) → kind h ≡ FrEndOfFile
    → first_of (reasons_of (kind h)) h ≡ first_of (reading_reasons ++ closing_reasons) h
file_end-parts h fits is =
    ap (λ k. first_of (reasons_of k) h) is
    ∙ skipped NoLayout (reasons_of FrEndOfFile) h fits (ap (applies NoLayout) is)

pub table-parts : (h : Here) → kind h ≡ FrTOC → first_of (reasons_of (kind h)) h ≡ first_of table_reasons h
table-parts h is = ap (λ k. first_of (reasons_of k) h) is

pub entry-parts : (h : Here) → kind h ≡ FrSH
    → first_of (reasons_of (kind h)) h ≡ first_of (body_reasons ++ entry_reasons) h
entry-parts h is = ap (λ k. first_of (reasons_of k) h) is

pub element-parts : (h : Here) → kind h ≡ FrSE
    → first_of (reasons_of (kind h)) h ≡ first_of (body_reasons ++ StrayElement ∷ []) h
element-parts h is = ap (λ k. first_of (reasons_of k) h) is

-- ---- the body

-- the kinds whose layouts the dictionary describes
pub frame-read : (k : Kind) → is_frame_kind k ≡ true → is_read_kind k ≡ true
frame-read k e = rw e refl

described_fields : (k : Kind) (found : Option (List Field)) → is_read_kind k ≡ true → fields_by k found ≡ found
described_fields FrSH found e = absurd (false≢true e)
described_fields FrSE found e = absurd (false≢true e)
described_fields FrTOC found e = absurd (false≢true e)
described_fields FrameH found e = refl
described_fields FrEndOfFrame found e = refl
described_fields FrEndOfFile found e = refl
described_fields Other found e = refl

pub fields-described : (h : Here) → is_read_kind (kind h) ≡ true → fields h ≡ layout_in (entries_before h) (class h)
fields-described h e = described_fields (kind h) (layout_in (entries_before h) (class h)) e

no_table : (k : Kind) → is_read_kind k ≡ true → is_table_kind k ≡ false
no_table FrTOC e = absurd (false≢true e)
no_table FrSH e = refl
no_table FrSE e = refl
no_table FrameH e = refl
no_table FrEndOfFrame e = refl
no_table FrEndOfFile e = refl
no_table Other e = refl

layout_held : (h : Here) (e : Entry) → entry_of (entries_before h) (class h) ≡ Some e → fault_spot NoLayout h ≡ None
layout_held h e is = ap (λ o. here h (not (class h == 1 || class h == 2) && is_none o)) is
    ∙ ap (here h) (last (not (class h == 1 || class h == 2)))
  where
    last : (b : Bool) → (b && false) ≡ false
    last true = refl
    last false = refl

-- neither holds where there is a layout
pub layout-known : (h : Here) (fs : List Field) → is_read_kind (kind h) ≡ true
    → layout_in (entries_before h) (class h) ≡ Some fs
    → first_of reading_reasons h ≡ first_of body_reasons h
layout-known h fs read is =
    option_and_then_some (λ (e : Entry). layout_of e.elements) (entry_of (entries_before h) (class h)) fs is
    (λ e there _.
    first_of-passes NoLayout (UnreadLayout ∷ body_reasons) h (layout_held h e there)
    ∙ first_of-passes UnreadLayout body_reasons h
    (ap (here h) (λ i. not (no_table (kind h) read i) && is_none ((fields-described h read ∙ is) i))))

-- the fields of a layout are sound
pub fields-sound : (h : Here) (fs : List Field) → fields h ≡ Some fs → AreSound 0 fs
fields-sound h fs is = by (kind h) is
  where
    by : (k : Kind) → fields_by k (layout_in (entries_before h) (class h)) ≡ Some fs → AreSound 0 fs
    by FrSH e = subst (AreSound 0) (same_Some structure_fields fs e) structure_fields-sound
    by FrSE e = subst (AreSound 0) (same_Some element_fields fs e) element_fields-sound
    by FrTOC e = absurd (none-some fs e)
    by FrameH e = layout-sound (entries_before h) (class h) fs e
    by FrEndOfFrame e = layout-sound (entries_before h) (class h) fs e
    by FrEndOfFile e = layout-sound (entries_before h) (class h) fs e
    by Other e = layout-sound (entries_before h) (class h) fs e

-- a body that is measured reads by the layout
pub measured-read : (h : Here) (fs : List Field) (links zero_texts : ℕ)
    → length_there h ≡ 14 + length (structure h).body
    → fields h ≡ Some fs → IsMeasured h.order fs (structure h).body links zero_texts → IsReadBy h fs zero_texts
measured-read h fs links zero_texts size is m =
    let reading : Reading = record { fields = fs; values = m.values; tail = m.tail } in
    let reads : reading_by h.order (structure h).body fs ≡ Some reading =
    reading-again h.order (structure h).body fs m.values m.tail (fields-sound h fs is) m.body in
    let good : body_fault h ≡ None = ap (option_and_then (λ fields. fault_of h.order fields (structure h).body)) is
    ∙ no_fault-reading h.order (structure h).body fs reading reads in
    let told_is : length (structure h).body + zero_texts ≡ values_length fs m.values + length m.tail =
    omega (arith, m.zero_texts_are, body-length h.order fs m.values m.tail (structure h).body m.body) in
    record {
      reading = reading;
      reads = reads;
      none = first_of-good_body h [] good;
      weight_is = omega (arith, size, told_is);
    }

-- a body that reads has no fault
pub reads-unfaulted : (h : Here) → is_read_kind (kind h) ≡ true → ReadsHere h → first_of reading_reasons h ≡ None
reads-unfaulted h read reads =
    option_and_then_some (reading_by h.order (structure h).body) (layout_in (entries_before h) (class h)) reads.0
    reads.1 (λ fs is by.
    layout-known h fs read is
    ∙ first_of-good_body h []
    (ap (option_and_then (λ fields. fault_of h.order fields (structure h).body)) (fields-described h read ∙ is)
    ∙ no_fault-reading h.order (structure h).body fs reads.0 by))

-- what reads by the layout of its class
pub read-described : (h : Here) (fs : List Field) (zero_texts : ℕ) → is_read_kind (kind h) ≡ true
    → layout_in (entries_before h) (class h) ≡ Some fs → IsReadBy h fs zero_texts → IsRead h zero_texts
read-described h fs zero_texts read is by =
    let reads : reading_of h.order (entries_before h) (structure h) ≡ Some by.reading =
    ap (option_and_then (reading_by h.order (structure h).body)) is ∙ by.reads in
    let r = by.reading in
    let weight_is : weight h ≡ 14 + (values_length r.fields r.values + length r.tail) =
    ap (λ o. option_map_or (λ (r : Reading). 14 + (values_length r.fields r.values + length r.tail)) o
    (size_of (structure h))) reads in
    record {
      reads = (by.reading, reads);
      none = layout-known h fs read is ∙ by.none;
      weight_is = by.weight_is ∙ sym weight_is;
    }

-- ---- the weight

pub weigh-unread : (h : Here) (f : Fault) → length_reason h.order h.file (place h) ≡ None
    → is_frame_kind (kind h) ≡ true → load h + length_there h ≤ record_limit → first_of reading_reasons h ≡ Some f
    → first_of weighing_reasons h ≡ Some f
weigh-unread h f whole frame small fault = by (reading_of h.order (entries_before h) (structure h)) refl
  where
    by : (o : Option Reading) → reading_of h.order (entries_before h) (structure h) ≡ o
        → first_of weighing_reasons h ≡ Some f
    by (Some reading) is = absurd
        (none-some f (sym (reads-unfaulted h (frame-read (kind h) frame) (reading, is)) ∙ fault))
    by None is =
        first_of-unread_weight h reading_reasons frame whole is
        ∙ ap (λ b. option_map_or (λ (r : Reason). Some (fault_at r (place h, 0))) (cond b (Some FrameLimit) None)
        (first_of reading_reasons h)) (le-ltb record_limit (load h + length_there h) small)
        ∙ fault

-- an error that is passed on is the same
pub passed-on : {T E : Type 0} (r : Result T E) (f : E) (P : E → Type 0) → IsErrAnd r (λ e. e ≡ f) → P f → IfErr r P
passed-on (Ok x) f P is said = absurd is
passed-on (Err e) f P is said = subst P (sym is) said

-- what follows from what is said of an answer is said of it too
pub ok-with : {T E : Type 0} (r : Result T E) (P Q : T → Type 0) → ((x : T) → P x → Q x) → IfOk r P → IfOk r Q
ok-with (Ok x) P Q more said = more x said
ok-with (Err e) P Q more said = tt

pub err-with : {T E : Type 0} (r : Result T E) (P Q : E → Type 0) → ((e : E) → P e → Q e) → IfErr r P → IfErr r Q
err-with (Ok x) P Q more said = tt
err-with (Err e) P Q more said = more e said

pub on_ok-with : {T E : Type 0} (r : Result T E) (P Q : Type 0) → (P → Q) → OnOk r P → OnOk r Q
on_ok-with (Ok x) P Q more said = more said
on_ok-with (Err e) P Q more said = tt

-- ---- a record in its frame

eqb-swap : (a b : ℕ) → (a == b) ≡ (b == a)
eqb-swap a b = by (a == b) refl
  where
    by : (x : Bool) → (a == b) ≡ x → x ≡ (b == a)
    by true is = sym (eq-eqb b a (sym (eqb-true a b is)))
    by false is = sym (ne_eqb b a (λ e. eqb-false a b is (sym e)))

find-same : {X : Type 0} (p q : X → Bool) → ((x : X) → p x ≡ q x) → (xs : List X) → find p xs ≡ find q xs
find-same p q same [] = refl
find-same p q same (x ∷ xs) = λ i. cond (same x i) (Some x) (find-same p q same xs i)

-- the target of a structure's own class and instance is its twin
pub target-twin : (frame : List Structure) (s : Structure) (class instance : ℕ) → s.class ≡ class
    → s.instance ≡ instance → has_target frame (record { class = class; instance = instance }) ≡ has_twin frame s
target-twin frame s class instance c i =
    ap is_some (find-same (is_target (record { class = class; instance = instance })) (is_twin s)
    (λ t. (λ j. eqb-swap t.class (sym c j) j && eqb-swap t.instance (sym i j) j)) frame)

-- ---- a record beside those of its frame

pub record-twice : (h : Here) → is_target_kind (kind h) ≡ true → has_twin h.before.frame (structure h) ≡ true
    → first_of record_reasons h ≡ Some (fault_at InstanceTwice (place h, 0))
record-twice h target twin =
    first_of-holds InstanceTwice (FrameHTwice ∷ place_reasons) h (place h, 0) (test-InstanceTwice h target
    ∙ ap (here h) twin)

pub header-twice : (h : Here) → is_target_kind (kind h) ≡ true → has_twin h.before.frame (structure h) ≡ false
    → (is_header_kind (kind h) && has_header (entries_before h) h.before.frame) ≡ true
    → first_of record_reasons h ≡ Some (fault_at FrameHTwice (place h, 0))
header-twice h target twin header =
    first_of-passes InstanceTwice (FrameHTwice ∷ place_reasons) h (test-InstanceTwice h target ∙ ap (here h) twin)
    ∙ first_of-holds FrameHTwice place_reasons h (place h, 0) (ap (here h) header)

pub record-new : (h : Here) → is_target_kind (kind h) ≡ true → has_twin h.before.frame (structure h) ≡ false
    → (is_header_kind (kind h) && has_header (entries_before h) h.before.frame) ≡ false
    → first_of record_reasons h ≡ first_of place_reasons h
record-new h target twin header =
    first_of-passes InstanceTwice (FrameHTwice ∷ place_reasons) h (test-InstanceTwice h target ∙ ap (here h) twin)
    ∙ first_of-passes FrameHTwice place_reasons h (ap (here h) header)

-- ---- what the end of a file tells

-- the frames are not as they are told
pub frames-wrong : (h : Here) → is_file_end_kind (kind h) ≡ true
    → (number h (codes "nFrames") ≡ h.before.frames → ⊥)
    → first_of count_reasons h ≡ Some (fault_at FrameCount (place h, field_named (elements h) (codes "nFrames")))
frames-wrong h end wrong =
    first_of-holds FrameCount (ByteCount ∷ FileLimit ∷ []) h (place h, field_named (elements h) (codes "nFrames"))
    (test-FrameCount h end
    ∙ ap (λ b. here_at h (field_named (elements h) (codes "nFrames")) (not b))
    (ne_eqb (number h (codes "nFrames")) h.before.frames wrong))

frames-told : (h : Here) → is_file_end_kind (kind h) ≡ true → number h (codes "nFrames") ≡ h.before.frames
    → first_of count_reasons h ≡ first_of (ByteCount ∷ FileLimit ∷ []) h
frames-told h end frames =
    first_of-passes FrameCount (ByteCount ∷ FileLimit ∷ []) h (test-FrameCount h end
    ∙ ap (λ b. here_at h (field_named (elements h) (codes "nFrames")) (not b))
    (eq-eqb (number h (codes "nFrames")) h.before.frames frames))

-- the bytes are not as they are told
pub bytes-told : (h : Here) → is_file_end_kind (kind h) ≡ true → number h (codes "nFrames") ≡ h.before.frames
    → (number h (codes "nBytes") == 0 || number h (codes "nBytes") == end_of (structure h)) ≡ false
    → first_of count_reasons h ≡ Some (fault_at ByteCount (place h, field_named (elements h) (codes "nBytes")))
bytes-told h end frames bytes =
    frames-told h end frames
    ∙ first_of-holds ByteCount (FileLimit ∷ []) h (place h, field_named (elements h) (codes "nBytes"))
    (test-ByteCount h end ∙ ap (λ b. here_at h (field_named (elements h) (codes "nBytes")) (not b)) bytes)

-- all is as it is told
pub told-right : (h : Here) → is_file_end_kind (kind h) ≡ true → number h (codes "nFrames") ≡ h.before.frames
    → (number h (codes "nBytes") == 0 || number h (codes "nBytes") == end_of (structure h)) ≡ true
    → first_of count_reasons h
    ≡ then_some (nat_lt file_limit (place h + length_there h)) (fault_at FileLimit (place h, 0))
told-right h end frames bytes =
    frames-told h end frames
    ∙ first_of-passes ByteCount (FileLimit ∷ []) h (test-ByteCount h end
    ∙ ap (λ b. here_at h (field_named (elements h) (codes "nBytes")) (not b)) bytes)
    ∙ last (nat_lt file_limit (place h + length_there h))
  where
    last : (b : Bool) → option_map_or (λ spot. Some (fault_at FileLimit spot)) (here h b) None
        ≡ then_some b (fault_at FileLimit (place h, 0))
    last true = refl
    last false = refl
