-- What stands at a place of which no reason holds.
use Rattle.std.proofs.Common.{◌≡◌, ℕ, ◌+◌, ◌<◌, ◌≤◌, Bool, true, false, cond, List, ◌∷◌, length, Option, Some, None}
use Rattle.std.proofs.Common.{refl, sym, ◌∙◌}
use Rattle.std.specs.Prelude.{nat_lt, option_and_then}
use Rattle.std.specs.Option.{option_map_or}
use Rattle.std.proofs.lemmas.Bool.{ltb-false}
use Rattle.layout_plan.specs.declared.faults.BodyFault.{BodyFault}
use Rattle.file_grammar.specs.declared.reason.Reason.{Reason}
use Rattle.file_grammar.specs.declared.reason.Reason.TheVariants.{RecordLimit, FrameLimit, BodyShort, BodyLong, BadText}
use Rattle.file_grammar.specs.declared.reason.Reason.TheVariants.{ClassRange, Redefined, NameTwice, ElementLimit}
use Rattle.file_grammar.specs.declared.fault.Fault.{Fault}
use Rattle.file_grammar.specs.Structure.{record_limit}
use Rattle.file_grammar.specs.Kind.{is_frame_kind}
use Rattle.file_grammar.specs.Fault.{Here, place, length_there, kind, load, weight, refusal, body_fault, here, here_at}
use Rattle.file_grammar.specs.Fault.{fault_at}
use Rattle.file_grammar.specs.Fault.{first_of, reasons}
use Rattle.file_grammar.specs.Steps.{length_reason, refusal_reason, weight_reason}
use Rattle.file_grammar.proofs.Judging.{first_of-cut, first_of-bad_body, first_of-good_body, first_of-entry}
use Rattle.file_grammar.proofs.Judging.{first_of-heavy, first_of-light}

pub here-none : (h : Here) (b : Bool) → here h b ≡ None → b ≡ false
here-none h true e = cc
here-none h false e = refl

pub here_at-none : (h : Here) (field : ℕ) (b : Bool) → here_at h field b ≡ None → b ≡ false
here_at-none h field true e = cc
here_at-none h field false e = refl

-- an answer that is none is not some
apart : (o : Option Fault) (f : Fault) → o ≡ None → o ≡ Some f → ⊥
apart o f none some = cc

-- the length is right
pub length-none : (h : Here) → place h < length h.file → first_of reasons h ≡ None
    → length_reason h.order h.file (place h) ≡ None
length-none h within none = by (length_reason h.order h.file (place h)) refl
  where
    by : (o : Option Reason) → length_reason h.order h.file (place h) ≡ o
        → length_reason h.order h.file (place h) ≡ None
    by None is = is
    by (Some r) is =
        absurd (apart (first_of reasons h) (fault_at r (place h, 0)) none (first_of-cut h r within is))

-- the body has no fault
pub body-none : (h : Here) (rs : List Reason) → first_of (BodyShort ∷ BodyLong ∷ BadText ∷ rs) h ≡ None
    → (body_fault h ≡ None) × (first_of rs h ≡ None)
body-none h rs none = by (body_fault h) refl
  where
    by : (o : Option BodyFault) → body_fault h ≡ o → (body_fault h ≡ None) × (first_of rs h ≡ None)
    by None is = (is, sym (first_of-good_body h rs is) ∙ none)
    by (Some f) is = absurd (apart (first_of (BodyShort ∷ BodyLong ∷ BadText ∷ rs) h) _ none
        (first_of-bad_body h rs f is))

-- the entry is not refused
pub entry-none : (h : Here) (rs : List Reason)
    → first_of (ClassRange ∷ Redefined ∷ NameTwice ∷ ElementLimit ∷ rs) h ≡ None
    → (option_and_then refusal_reason (refusal h) ≡ None) × (first_of rs h ≡ None)
entry-none h rs none =
    by (option_and_then refusal_reason (refusal h)) (sym (first_of-entry h rs) ∙ none)
  where
    by : (o : Option Reason) → option_map_or (λ r. Some (fault_at r (place h, 0))) o (first_of rs h) ≡ None → (o ≡ None)
        × (first_of rs h ≡ None)
    by None e = (refl, e)
    by (Some r) e = cc

-- the weight is within the limits
weights-within : (load length_there weight : ℕ) → weight_reason load length_there weight ≡ None
    → (load + length_there ≤ record_limit)
    × (weight ≤ record_limit) × (load + weight ≤ record_limit)
weights-within load length_there weight none =
    by (nat_lt record_limit (load + length_there)) (nat_lt record_limit weight) (nat_lt record_limit (load + weight))
    refl refl refl none
  where
    by : (a b c : Bool) → nat_lt record_limit (load + length_there) ≡ a → nat_lt record_limit weight ≡ b
        → nat_lt record_limit (load + weight) ≡ c
        → cond {A = Option Reason} a (Some FrameLimit) (cond b (Some RecordLimit) (cond c (Some FrameLimit) None))
        ≡ None
        → (load + length_there ≤ record_limit) × (weight ≤ record_limit) × (load + weight ≤ record_limit)
    by true b c is_a is_b is_c e = cc
    by false true c is_a is_b is_c e = cc
    by false false true is_a is_b is_c e = cc
    by false false false is_a is_b is_c e = (
      ltb-false record_limit (load + length_there) is_a,
      ltb-false record_limit weight is_b,
      ltb-false record_limit (load + weight) is_c,
    )

pub weight-none : (h : Here) (rs : List Reason) → is_frame_kind (kind h) ≡ true → length_there h ≤ record_limit
    → first_of (RecordLimit ∷ FrameLimit ∷ rs) h ≡ None → (weight h ≤ record_limit) × (load h + weight h ≤ record_limit)
    × (first_of rs h ≡ None)
weight-none h rs frame small none = by (weight_reason (load h) (length_there h) (weight h)) refl
  where
    by : (o : Option Reason) → weight_reason (load h) (length_there h) (weight h) ≡ o → (weight h ≤ record_limit)
        × (load h + weight h ≤ record_limit) × (first_of rs h ≡ None)
    by None is =
        let within = weights-within (load h) (length_there h) (weight h) is in
        (within.1, within.2, sym (first_of-light h rs frame small is) ∙ none)
    by (Some r) is =
        absurd (apart (first_of (RecordLimit ∷ FrameLimit ∷ rs) h) (fault_at r (place h, 0)) none
        (first_of-heavy h rs r frame small is))
