-- The lengths that structures tell, and what is wrong with them.
use Rattle.std.proofs.Common.{◌≡◌, ℕ, ◌<◌, ◌≤◌, ◌⊎◌, inl, inr, true, false, ◌&&◌, ◌||◌, cond, List, Option, Some, None}
use Rattle.std.proofs.Common.{sym, subst, arith}
use Rattle.std.specs.Prelude.{nat_le, nat_lt}
use Rattle.std.proofs.lemmas.Bool.{cases_Bool, cases_lt, cond-true, cond-false, leb-true, lt-ltb, le-ltb, le-leb}
use Rattle.std.proofs.lemmas.Bool.{or_left, or_right, or_from, and_left, and_right, and_from}
use Rattle.scalar_types.specs.declared.Order.{Order}
use Rattle.file_grammar.specs.declared.reason.Reason.{Reason}
use Rattle.file_grammar.specs.declared.reason.Reason.TheVariants.{CutRecord, LengthSmall, RecordLimit}
use Rattle.file_grammar.specs.Structure.{record_limit, common_at, left_at}
use Rattle.file_grammar.specs.Steps.{length_reason}

-- the test of a structure that the file's end cuts
pub is_cut : (left told limit : ℕ) → (left < 14) ⊎ ((14 ≤ told) × (told ≤ limit) × (left < told))
    → (nat_lt left 14 || (nat_le 14 told && (nat_le told limit && nat_lt left told))) ≡ true
is_cut left told limit (inl short) = or_left _ _ (lt-ltb left 14 short)
is_cut left told limit (inr long) =
    or_right (nat_lt left 14) _
    (and_from _ _ (le-leb 14 told long.0) (and_from _ _ (le-leb told limit long.1) (lt-ltb left told long.2)))

pub is_uncut : (left told limit : ℕ) → 14 ≤ left → (14 ≤ told → told ≤ limit → told ≤ left)
    → (nat_lt left 14 || (nat_le 14 told && (nat_le told limit && nat_lt left told))) ≡ false
is_uncut left told limit head within =
    or_from _ _ (le-ltb left 14 head) (below (cases_Bool (nat_le 14 told)) (cases_Bool (nat_le told limit)))
  where
    below : (nat_le 14 told ≡ true) ⊎ (nat_le 14 told ≡ false) → (nat_le told limit ≡ true)
        ⊎ (nat_le told limit ≡ false) → (nat_le 14 told && (nat_le told limit && nat_lt left told)) ≡ false
    below (inr a) b = and_left _ _ a
    below (inl a) (inr b) = and_right _ _ (and_left _ _ b)
    below (inl a) (inl b) =
        and_right _ _ (and_right _ _ (le-ltb left told (within (leb-true 14 told a) (leb-true told limit b))))

-- a structure of this length stands there whole
pub record Fits (left told : ℕ) : Type 0 where
  pub head : 14 ≤ left
  pub enough : 14 ≤ told
  pub small : told ≤ record_limit
  pub whole : told ≤ left

-- the reason of a length, where so many bytes are left
abbrev pub reason_by : ℕ → ℕ → Option Reason
reason_by left told =
    cond (nat_lt left 14) (Some CutRecord)
    (cond (nat_lt told 14) (Some LengthSmall)
    (cond (nat_lt record_limit told) (Some RecordLimit) (cond (nat_lt left told) (Some CutRecord) None)))

-- what each of the answers says
abbrev pub LengthCase : ℕ → ℕ → Option Reason → Type 0
LengthCase left told r =
    ((r ≡ Some CutRecord) × ((left < 14) ⊎ ((14 ≤ told) × (told ≤ record_limit) × (left < told))))
    ⊎ (((r ≡ Some LengthSmall) × (14 ≤ left) × (told < 14))
    ⊎ (((r ≡ Some RecordLimit) × (14 ≤ left) × (record_limit < told)) ⊎ ((r ≡ None) × Fits left told)))

pub length_case : (left told : ℕ) → LengthCase left told (reason_by left told)
length_case left told = head (cases_lt left 14)
  where
    last : 14 ≤ left → 14 ≤ told → told ≤ record_limit → (left < told) ⊎ (told ≤ left)
        → LengthCase left told (cond (nat_lt left told) (Some CutRecord) None)
    last enough more small (inl lt) = inl (cond-true _ _ _ (lt-ltb left told lt), inr (more, small, lt))
    last enough more small (inr le) =
        inr (inr (inr (
          cond-false _ _ _ (le-ltb left told le),
          record { head = enough; enough = more; small = small; whole = le },
        )))

    limit : 14 ≤ left → 14 ≤ told → (record_limit < told) ⊎ (told ≤ record_limit)
        → LengthCase left told (cond (nat_lt record_limit told) (Some RecordLimit)
        (cond (nat_lt left told) (Some CutRecord) None))
    limit enough more (inl lt) =
        inr (inr (inl (cond-true _ _ _ (lt-ltb record_limit told lt), enough, lt)))
    limit enough more (inr le) =
        subst (LengthCase left told) (sym (cond-false _ _ _ (le-ltb record_limit told le)))
        (last enough more le (cases_lt left told))

    small : 14 ≤ left → (told < 14) ⊎ (14 ≤ told)
        → LengthCase left told (cond (nat_lt told 14) (Some LengthSmall)
        (cond (nat_lt record_limit told) (Some RecordLimit) (cond (nat_lt left told) (Some CutRecord) None)))
    small enough (inl lt) = inr (inl (cond-true _ _ _ (lt-ltb told 14 lt), enough, lt))
    small enough (inr le) =
        subst (LengthCase left told) (sym (cond-false _ _ _ (le-ltb told 14 le)))
        (limit enough le (cases_lt record_limit told))

    head : (left < 14) ⊎ (14 ≤ left) → LengthCase left told (reason_by left told)
    head (inl lt) = inl (cond-true _ _ _ (lt-ltb left 14 lt), inl lt)
    head (inr le) =
        subst (LengthCase left told) (sym (cond-false _ _ _ (le-ltb left 14 le))) (small le (cases_lt told 14))

-- where the length has no reason, a structure of this length stands there whole
pub length-fits : (order : Order) (file : List ℕ) (at : ℕ) → length_reason order file at ≡ None
    → Fits (left_at file at) (common_at order file at).length
length-fits order file at none = by (length_case (left_at file at) (common_at order file at).length)
  where
    by : LengthCase (left_at file at) (common_at order file at).length (length_reason order file at)
        → Fits (left_at file at) (common_at order file at).length
    by (inl c) = cc (c.0, none)
    by (inr (inl c)) = cc (c.0, none)
    by (inr (inr (inl c))) = cc (c.0, none)
    by (inr (inr (inr c))) = c.1

-- and the other way round
pub fits-length : (order : Order) (file : List ℕ) (at : ℕ) → Fits (left_at file at) (common_at order file at).length
    → length_reason order file at ≡ None
fits-length order file at fits = by (length_case (left_at file at) (common_at order file at).length)
  where
    by : LengthCase (left_at file at) (common_at order file at).length (length_reason order file at)
        → length_reason order file at ≡ None
    by (inl (e, inl lt)) = absurd (omega (arith, fits.head))
    by (inl (e, inr long)) = absurd (omega (arith, fits.whole))
    by (inr (inl c)) = absurd (omega (arith, fits.enough))
    by (inr (inr (inl c))) = absurd (omega (arith, fits.small))
    by (inr (inr (inr c))) = c.0
