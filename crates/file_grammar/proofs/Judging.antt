-- Which reasons are judged of what stands at a place: the first of them in parts.
use Rattle.std.proofs.Common.{◌≡◌, ℕ, ◌+◌, ◌<◌, ◌≤◌, ◌⊎◌, inl, inr, Bool, true, false, not, ◌&&◌, ◌||◌, cond, List, []}
use Rattle.std.proofs.Common.{◌∷◌, length, drop, Option, Some, None, refl, sym, ap, ◌∙◌, arith}
use Rattle.std.specs.Prelude.{nat_le, nat_lt, option_and_then}
use Rattle.std.specs.List.{filter}
use Rattle.std.specs.Option.{option_map_or}
use Rattle.std.proofs.lemmas.Bool.{cases_lt, cond-true, cond-false, lt-ltb, le-ltb, lt-leb, le-leb, eq-eqb, or_left}
use Rattle.dictionary.specs.declared.held.AddFault.{AddFault}
use Rattle.dictionary.specs.declared.held.AddFault.TheVariants as add
use Rattle.layout_plan.specs.declared.faults.BodyReason.{BodyReason}
use Rattle.layout_plan.specs.declared.faults.BodyReason.TheVariants as body
use Rattle.layout_plan.specs.declared.faults.BodyFault.{BodyFault}
use Rattle.layout_plan.specs.Body.{values_length}
use Rattle.file_grammar.specs.declared.reason.Reason.{Reason}
use Rattle.file_grammar.specs.declared.reason.Reason.TheVariants.{CutRecord, LengthSmall, RecordLimit, FrameLimit}
use Rattle.file_grammar.specs.declared.reason.Reason.TheVariants.{BodyShort, BodyLong, BadText, StrayElement}
use Rattle.file_grammar.specs.declared.reason.Reason.TheVariants.{ClassRange}
use Rattle.file_grammar.specs.declared.reason.Reason.TheVariants.{Redefined, NameTwice, ElementLimit, FileLimit}
use Rattle.file_grammar.specs.declared.fault.Fault.{Fault}
use Rattle.file_grammar.specs.declared.kind.Kind.{Kind}
use Rattle.file_grammar.specs.declared.kind.Kind.TheVariants.{FrSH, FrSE, FrameH, FrEndOfFrame, FrTOC, FrEndOfFile}
use Rattle.file_grammar.specs.declared.kind.Kind.TheVariants.{Other}
use Rattle.file_grammar.specs.Structure.{size_of, record_limit}
use Rattle.file_grammar.specs.Kind.{is_frame_kind}
use Rattle.file_grammar.specs.Record.{Reading, reading_of}
use Rattle.file_grammar.specs.Fault.{Here, place, bytes_there, length_there, entries_before, class, kind, structure}
use Rattle.file_grammar.specs.Fault.{load, weight, refusal}
use Rattle.file_grammar.specs.Fault.{body_fault, here, here_at, same_reason, same_refusal, fault_spot, fault_at}
use Rattle.file_grammar.specs.Fault.{first_of}
use Rattle.file_grammar.specs.Fault.{reasons}
use Rattle.file_grammar.specs.Steps.{length_reason, reasons_of, reason_of, refusal_reason, weight_reason}
use Rattle.file_grammar.proofs.Firsts.{first_of-holds, first_of-passes, first_of-others, first_of-filter}
use Rattle.file_grammar.proofs.Lengths.{LengthCase, length_case, is_cut, is_uncut, length-fits}
use Rattle.file_grammar.proofs.Structures.{size-structure_at}
use Rattle.file_grammar.proofs.Classes.{class-FrSE}
use Rattle.file_grammar.proofs.Applying.{applies, unapplied}

-- Where the length has a reason, it is the first of all.
pub first_of-cut : (h : Here) (r : Reason) → place h < length h.file → length_reason h.order h.file (place h) ≡ Some r
    → first_of reasons h ≡ Some (fault_at r (place h, 0))
first_of-cut h r within e = by (length_case (bytes_there h) (length_there h))
  where
    same : (x : Reason) → length_reason h.order h.file (place h) ≡ Some x
        → Some (fault_at x (place h, 0)) ≡ Some (fault_at r (place h, 0))
    same x f = ap (λ o. option_map_or (λ x. Some (fault_at x (place h, 0))) o None) (sym f ∙ e)

    uncut : 14 ≤ bytes_there h → (14 ≤ length_there h → length_there h ≤ record_limit → length_there h ≤ bytes_there h)
        → fault_spot CutRecord h ≡ None
    uncut head whole = ap (here h) (is_uncut (bytes_there h) (length_there h) record_limit head whole)

    by : LengthCase (bytes_there h) (length_there h) (length_reason h.order h.file (place h))
        → first_of reasons h ≡ Some (fault_at r (place h, 0))
    by (inl c) =
        first_of-holds CutRecord (drop 1 reasons) h (place h, 0)
        (ap (here h) (is_cut (bytes_there h) (length_there h) record_limit c.1)) ∙ same CutRecord c.0
    by (inr (inl c)) =
        first_of-passes CutRecord (drop 1 reasons) h (uncut c.1 (λ more small. absurd (omega (arith, c.2))))
        ∙ first_of-holds LengthSmall (drop 2 reasons) h (place h, 0) (ap (here h) (lt-ltb (length_there h) 14 c.2))
        ∙ same LengthSmall c.0
    by (inr (inr (inl c))) =
        first_of-passes CutRecord (drop 1 reasons) h (uncut c.1 (λ more small. absurd (omega (arith, c.2))))
        ∙ first_of-passes LengthSmall (drop 2 reasons) h (ap (here h) (le-ltb (length_there h) 14 (omega (arith, c.2))))
        ∙ first_of-holds RecordLimit (drop 3 reasons) h (place h, 0)
        (ap (here h) (or_left _ _ (lt-ltb record_limit (length_there h) c.2)))
        ∙ same RecordLimit c.0
    by (inr (inr (inr c))) = cc (c.0, e)

-- Of an FrSE the reason that it is no part of an entry always holds, and ends the list.
first_of-stray : (h : Here) → kind h ≡ FrSE
    → first_of (filter (λ reason. applies reason FrSE) reasons) h ≡ first_of (reasons_of FrSE) h
first_of-stray h is =
    first_of-others BodyShort (BodyLong ∷ BadText ∷ StrayElement ∷ FileLimit ∷ [])
    (BodyLong ∷ BadText ∷ StrayElement ∷ []) h
    (first_of-others BodyLong (BadText ∷ StrayElement ∷ FileLimit ∷ []) (BadText ∷ StrayElement ∷ []) h
    (first_of-others BadText (StrayElement ∷ FileLimit ∷ []) (StrayElement ∷ []) h (holds (FileLimit ∷ [])
    ∙ sym (holds []))))
  where
    holds : (rs : List Reason) → first_of (StrayElement ∷ rs) h ≡ Some (fault_at StrayElement (place h, 0))
    holds rs =
        first_of-holds StrayElement rs h (place h, 0)
        (ap (here h) (eq-eqb (class h) 2 (class-FrSE (entries_before h) (class h) is)))

-- The first reason of a whole structure is one of those of its kind.
pub first_of-kind : (h : Here) → place h < length h.file → length_reason h.order h.file (place h) ≡ None
    → first_of reasons h ≡ first_of (reasons_of (kind h)) h
first_of-kind h within none =
    first_of-filter (λ reason. applies reason (kind h)) h (unapplied h (length-fits h.order h.file (place h) none))
    reasons ∙ by (kind h) refl
  where
    by : (k : Kind) → kind h ≡ k → first_of (filter (λ reason. applies reason k) reasons) h ≡ first_of (reasons_of k) h
    by FrSE is = first_of-stray h is
    by FrSH is = refl
    by FrameH is = refl
    by FrEndOfFrame is = refl
    by FrTOC is = refl
    by FrEndOfFile is = refl
    by Other is = refl

-- ---- the body

-- the body's fault, if there is one, is under the reason of its name
pub first_of-body : (h : Here) (rs : List Reason)
    → first_of (BodyShort ∷ BodyLong ∷ BadText ∷ rs) h
    ≡ option_map_or (λ f. Some (fault_at (reason_of f.reason) (place h, f.field))) (body_fault h) (first_of rs h)
first_of-body h rs = by (body_fault h) (first_of rs h)
  where
    of : (field : ℕ) (reason : BodyReason) (rest : Option Fault)
        → option_map_or (λ spot. Some (fault_at BodyShort spot)) (here_at h field (same_reason reason body.BodyShort))
        (option_map_or (λ spot. Some (fault_at BodyLong spot)) (here_at h field (same_reason reason body.BodyLong))
        (option_map_or (λ spot. Some (fault_at BadText spot)) (here_at h field (same_reason reason body.BadText)) rest))
        ≡ Some (fault_at (reason_of reason) (place h, field))
    of field body.BodyShort rest = refl
    of field body.BodyLong rest = refl
    of field body.BadText rest = refl

    by : (o : Option BodyFault) (rest : Option Fault)
        → option_map_or (λ spot. Some (fault_at BodyShort spot))
        (option_and_then (λ f. here_at h f.field (same_reason f.reason body.BodyShort)) o)
        (option_map_or (λ spot. Some (fault_at BodyLong spot))
        (option_and_then (λ f. here_at h f.field (same_reason f.reason body.BodyLong)) o)
        (option_map_or (λ spot. Some (fault_at BadText spot))
        (option_and_then (λ f. here_at h f.field (same_reason f.reason body.BadText)) o) rest))
        ≡ option_map_or (λ f. Some (fault_at (reason_of f.reason) (place h, f.field))) o rest
    by None rest = refl
    by (Some f) rest = of f.field f.reason rest

pub first_of-bad_body : (h : Here) (rs : List Reason) (f : BodyFault) → body_fault h ≡ Some f
    → first_of (BodyShort ∷ BodyLong ∷ BadText ∷ rs) h ≡ Some (fault_at (reason_of f.reason) (place h, f.field))
first_of-bad_body h rs f e =
    first_of-body h rs ∙ ap (λ o. option_map_or
    (λ (f : BodyFault). Some (fault_at (reason_of f.reason) (place h, f.field))) o (first_of rs h)) e

pub first_of-good_body : (h : Here) (rs : List Reason) → body_fault h ≡ None
    → first_of (BodyShort ∷ BodyLong ∷ BadText ∷ rs) h ≡ first_of rs h
first_of-good_body h rs e =
    first_of-body h rs ∙ ap (λ o. option_map_or
    (λ (f : BodyFault). Some (fault_at (reason_of f.reason) (place h, f.field))) o (first_of rs h)) e

-- ---- the entry

-- the refusal of the entry, if it is refused, is under the reason of its name
pub first_of-entry : (h : Here) (rs : List Reason)
    → first_of (ClassRange ∷ Redefined ∷ NameTwice ∷ ElementLimit ∷ rs) h
    ≡ option_map_or (λ r. Some (fault_at r (place h, 0))) (option_and_then refusal_reason (refusal h)) (first_of rs h)
first_of-entry h rs = by (refusal h) (first_of rs h)
  where
    by : (o : Option AddFault) (rest : Option Fault)
        → option_map_or (λ spot. Some (fault_at ClassRange spot))
        (option_and_then (λ f. here h (same_refusal f add.ClassRange)) o)
        (option_map_or (λ spot. Some (fault_at Redefined spot))
        (option_and_then (λ f. here h (same_refusal f add.Redefined)) o)
        (option_map_or (λ spot. Some (fault_at NameTwice spot))
        (option_and_then (λ f. here h (same_refusal f add.NameTwice)) o)
        (option_map_or (λ spot. Some (fault_at ElementLimit spot))
        (option_and_then (λ f. here h (same_refusal f add.ElementLimit)) o) rest)))
        ≡ option_map_or (λ r. Some (fault_at r (place h, 0))) (option_and_then refusal_reason o) rest
    by None rest = refl
    by (Some add.ClassRange) rest = refl
    by (Some add.Redefined) rest = refl
    by (Some add.NameTwice) rest = refl
    by (Some add.ElementLimit) rest = refl
    by (Some add.NoMemory) rest = refl

pub first_of-refused : (h : Here) (rs : List Reason) (f : AddFault) (r : Reason) → refusal h ≡ Some f
    → refusal_reason f ≡ Some r
    → first_of (ClassRange ∷ Redefined ∷ NameTwice ∷ ElementLimit ∷ rs) h ≡ Some (fault_at r (place h, 0))
first_of-refused h rs f r e is =
    first_of-entry h rs ∙ ap (λ o. option_map_or (λ (r : Reason). Some (fault_at r (place h, 0))) o (first_of rs h))
    (ap (option_and_then refusal_reason) e ∙ is)

pub first_of-taken : (h : Here) (rs : List Reason) → refusal h ≡ None
    → first_of (ClassRange ∷ Redefined ∷ NameTwice ∷ ElementLimit ∷ rs) h ≡ first_of rs h
first_of-taken h rs e =
    first_of-entry h rs ∙ ap
    (λ o. option_map_or (λ (r : Reason). Some (fault_at r (place h, 0))) (option_and_then refusal_reason o)
    (first_of rs h)) e

-- ---- the weight

le-not_lt : (a b : ℕ) → nat_le a b ≡ not (nat_lt b a)
le-not_lt a b = by (cases_lt b a)
  where
    by : (b < a) ⊎ (a ≤ b) → nat_le a b ≡ not (nat_lt b a)
    by (inl lt) = lt-leb a b lt ∙ ap not (sym (lt-ltb b a lt))
    by (inr le) = le-leb a b le ∙ ap not (sym (le-ltb b a le))

-- the weight of a record, if it is beyond the limits
pub first_of-weight : (h : Here) (rs : List Reason) → is_frame_kind (kind h) ≡ true → length_there h ≤ record_limit
    → first_of (RecordLimit ∷ FrameLimit ∷ rs) h
    ≡ option_map_or (λ r. Some (fault_at r (place h, 0))) (weight_reason (load h) (length_there h) (weight h))
    (first_of rs h)
first_of-weight h rs frame small =
    (λ i. option_map_or (λ spot. Some (fault_at RecordLimit spot)) (here h (record_test i))
    (option_map_or (λ spot. Some (fault_at FrameLimit spot)) (here h (frame_test i)) (first_of rs h)))
    ∙ by (nat_lt record_limit (load h + length_there h)) (nat_lt record_limit (weight h))
    (nat_lt record_limit (load h + weight h)) (first_of rs h)
  where
    record_test : (nat_lt record_limit (length_there h)
        || (is_frame_kind (kind h) &&
        (nat_le (load h + length_there h) record_limit && nat_lt record_limit (weight h))))
        ≡ (not (nat_lt record_limit (load h + length_there h)) && nat_lt record_limit (weight h))
    record_test =
        λ i. le-ltb record_limit (length_there h) small i
        || (frame i && (le-not_lt (load h + length_there h) record_limit i && nat_lt record_limit (weight h)))

    frame_test : (is_frame_kind (kind h)
        && (nat_lt record_limit (load h + length_there h) || nat_lt record_limit (load h + weight h)))
        ≡ (nat_lt record_limit (load h + length_there h) || nat_lt record_limit (load h + weight h))
    frame_test =
        λ i. frame i && (nat_lt record_limit (load h + length_there h) || nat_lt record_limit (load h + weight h))

    by : (length_there weight both : Bool) (rest : Option Fault)
        → option_map_or (λ spot. Some (fault_at RecordLimit spot)) (here h (not length_there && weight))
        (option_map_or (λ spot. Some (fault_at FrameLimit spot)) (here h (length_there || both)) rest)
        ≡ option_map_or (λ r. Some (fault_at r (place h, 0)))
        (cond length_there (Some FrameLimit) (cond weight (Some RecordLimit) (cond both (Some FrameLimit) None))) rest
    by true weight both rest = refl
    by false true both rest = refl
    by false false true rest = refl
    by false false false rest = refl

-- the four answers on a record's weight
pub weight_reason-told : (before size own : ℕ) → record_limit < before + size
    → weight_reason before size own ≡ Some FrameLimit
weight_reason-told before size own lt =
    cond-true _ _ _ (lt-ltb record_limit (before + size) lt)

pub weight_reason-own : (before size own : ℕ) → before + size ≤ record_limit → record_limit < own
    → weight_reason before size own ≡ Some RecordLimit
weight_reason-own before size own le lt =
    cond-false _ _ _ (le-ltb record_limit (before + size) le) ∙ cond-true _ _ _ (lt-ltb record_limit own lt)

pub weight_reason-frame : (before size own : ℕ) → before + size ≤ record_limit → own ≤ record_limit
    → record_limit < before + own → weight_reason before size own ≡ Some FrameLimit
weight_reason-frame before size own le small lt =
    cond-false _ _ _ (le-ltb record_limit (before + size) le)
    ∙ cond-false _ _ _ (le-ltb record_limit own small)
    ∙ cond-true _ _ _ (lt-ltb record_limit (before + own) lt)

pub weight_reason-none : (before size own : ℕ) → before + size ≤ record_limit → own ≤ record_limit
    → before + own ≤ record_limit → weight_reason before size own ≡ None
weight_reason-none before size own le small within =
    cond-false _ _ _ (le-ltb record_limit (before + size) le)
    ∙ cond-false _ _ _ (le-ltb record_limit own small)
    ∙ cond-false _ _ _ (le-ltb record_limit (before + own) within)

pub first_of-heavy : (h : Here) (rs : List Reason) (r : Reason) → is_frame_kind (kind h) ≡ true
    → length_there h ≤ record_limit
    → weight_reason (load h) (length_there h) (weight h) ≡ Some r
    → first_of (RecordLimit ∷ FrameLimit ∷ rs) h ≡ Some (fault_at r (place h, 0))
first_of-heavy h rs r frame small e =
    first_of-weight h rs frame small
    ∙ ap (λ o. option_map_or (λ (r : Reason). Some (fault_at r (place h, 0))) o (first_of rs h)) e

pub first_of-light : (h : Here) (rs : List Reason) → is_frame_kind (kind h) ≡ true → length_there h ≤ record_limit
    → weight_reason (load h) (length_there h) (weight h) ≡ None
    → first_of (RecordLimit ∷ FrameLimit ∷ rs) h ≡ first_of rs h
first_of-light h rs frame small e =
    first_of-weight h rs frame small
    ∙ ap (λ o. option_map_or (λ (r : Reason). Some (fault_at r (place h, 0))) o (first_of rs h)) e

-- the weight of a record whose body does not read is its length
pub weight-unread : (h : Here) → length_reason h.order h.file (place h) ≡ None
    → reading_of h.order (entries_before h) (structure h) ≡ None → weight h ≡ length_there h
weight-unread h none unread =
    ap (λ o. option_map_or (λ (r : Reading). 14 + (values_length r.fields r.values + length r.tail)) o
    (size_of (structure h))) unread
    ∙ size-structure_at h.order h.file (place h) (length-fits h.order h.file (place h) none)

pub weight_reason-unread : (before size : ℕ) → size ≤ record_limit
    → weight_reason before size size ≡ cond (nat_lt record_limit (before + size)) (Some FrameLimit) None
weight_reason-unread before size small =
    (λ i. by (nat_lt record_limit (before + size)) (le-ltb record_limit size small i))
    ∙ last (nat_lt record_limit (before + size))
  where
    by : Bool → Bool → Option Reason
    by both own = cond both (Some FrameLimit) (cond own (Some RecordLimit) (cond both (Some FrameLimit) None))

    last : (both : Bool) → by both false ≡ cond both (Some FrameLimit) None
    last true = refl
    last false = refl

-- so only the frame's limit is asked for
pub first_of-unread_weight : (h : Here) (rs : List Reason) → is_frame_kind (kind h) ≡ true
    → length_reason h.order h.file (place h) ≡ None → reading_of h.order (entries_before h) (structure h) ≡ None
    → first_of (RecordLimit ∷ FrameLimit ∷ rs) h
    ≡ option_map_or (λ r. Some (fault_at r (place h, 0)))
    (cond (nat_lt record_limit (load h + length_there h)) (Some FrameLimit) None) (first_of rs h)
first_of-unread_weight h rs frame none unread =
    let small : length_there h ≤ record_limit = (length-fits h.order h.file (place h) none).small in
    first_of-weight h rs frame small
    ∙ ap (λ o. option_map_or (λ (r : Reason). Some (fault_at r (place h, 0))) o (first_of rs h))
    (ap (weight_reason (load h) (length_there h)) (weight-unread h none unread)
    ∙ weight_reason-unread (load h) (length_there h) small)
