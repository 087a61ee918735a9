-- The places of plans, by class.
use Rattle.std.proofs.Common.{◌≡◌, ℕ, zero, suc, ◌+◌, ◌<◌, Bool, true, false, cond, List, [], ◌∷◌, ◌++◌, length, get_or}
use Rattle.std.proofs.Common.{set, Some, None, nat_eq, inl, inr, refl, sym, ap, ◌∙◌, arith}
use Rattle.std.specs.Prelude.{◌==◌}
use Rattle.std.proofs.lemmas.Bool.{eq-eqb, ne_eqb, cases_eq}
use Rattle.std.proofs.lemmas.List.{get_or-set_same, get_or-set_other}
use Rattle.indexmap.specs.IndexMap.{insert_entry}
use Rattle.layout_plan.specs.declared.fields.Field.{Field}
use Rattle.layout_plan.specs.Plans.{plan_of, place_in, next_place, ArePlaces}

next-zero : (i : ℕ) → next_place i ≡ 0 → i ≡ 0
next-zero zero e = refl
next-zero (suc i) e = cc

next-suc : (i n : ℕ) → next_place i ≡ suc n → (m : ℕ) × (i ≡ suc m) × (n ≡ suc m)
next-suc zero n e = cc
next-suc (suc i) n e = (i, refl, omega (arith, e))

-- a class without a place has no plan
pub place-none : (plans : List (ℕ × List Field)) (class : ℕ) → place_in plans class ≡ 0 → plan_of plans class ≡ None
place-none [] class none = refl
place-none (e ∷ es) class none = by (class == e.0) none (place-none es class)
  where
    by : (b : Bool) → cond b 1 (next_place (place_in es class)) ≡ 0
        → (place_in es class ≡ 0 → plan_of es class ≡ None) → cond b (Some e.1) (plan_of es class) ≡ None
    by true none later = cc
    by false none later = later (next-zero (place_in es class) none)

-- the plan of a class stands at its place
pub place-some : (plans : List (ℕ × List Field)) (class n : ℕ) (d : ℕ × List Field) → place_in plans class ≡ suc n
    → (n < length plans) × (plan_of plans class ≡ Some (get_or plans n d).1)
place-some [] class n d here = cc
place-some (e ∷ es) class n d here = by (class == e.0) n here (λ m. place-some es class m d)
  where
    by : (b : Bool) (n : ℕ) → cond b 1 (next_place (place_in es class)) ≡ suc n
        → ((m : ℕ) → place_in es class ≡ suc m → (m < length es) × (plan_of es class ≡ Some (get_or es m d).1))
        → (n < length (e ∷ es)) × (cond b (Some e.1) (plan_of es class) ≡ Some (get_or (e ∷ es) n d).1)
    by true zero here later = (omega arith, refl)
    by true (suc n) here later = absurd (omega (arith, here))
    by false n here later =
        let there = next-suc (place_in es class) n here in
        let found = later there.0 there.1 in (
          omega (arith, found.0, there.2),
          found.1 ∙ ap (λ n. Some (get_or (e ∷ es) n d).1) (sym there.2),
        )

-- a plan takes the place of the earlier one of its class
pub place-kept : (plans : List (ℕ × List Field)) (class n : ℕ) (fields : List Field) (d : ℕ × List Field)
    → place_in plans class ≡ suc n → insert_entry nat_eq plans class fields ≡ set plans n ((get_or plans n d).0, fields)
place-kept [] class n fields d here = cc
place-kept (e ∷ es) class n fields d here = by (class == e.0) n here (λ m. place-kept es class m fields d)
  where
    by : (b : Bool) (n : ℕ) → cond b 1 (next_place (place_in es class)) ≡ suc n
        → ((m : ℕ) → place_in es class ≡ suc m
        → insert_entry nat_eq es class fields ≡ set es m ((get_or es m d).0, fields))
        → cond b ((e.0, fields) ∷ es) (e ∷ insert_entry nat_eq es class fields)
        ≡ set (e ∷ es) n ((get_or (e ∷ es) n d).0, fields)
    by true zero here later = refl
    by true (suc n) here later = absurd (omega (arith, here))
    by false n here later =
        let there = next-suc (place_in es class) n here in
        ap (λ es. e ∷ es) (later there.0 there.1)
        ∙ ap (λ n. set (e ∷ es) n ((get_or (e ∷ es) n d).0, fields)) (sym there.2)

same-kept : (plans : List (ℕ × List Field)) (class n : ℕ) (fields : List Field) (other : ℕ)
    → place_in plans class ≡ suc n → place_in plans other ≡ place_in (insert_entry nat_eq plans class fields) other
same-kept [] class n fields other here = cc
same-kept (e ∷ es) class n fields other here = by (class == e.0) here (λ m. same-kept es class m fields other)
  where
    by : (b : Bool) → cond b 1 (next_place (place_in es class)) ≡ suc n
        → ((m : ℕ) → place_in es class ≡ suc m
        → place_in es other ≡ place_in (insert_entry nat_eq es class fields) other)
        → place_in (e ∷ es) other
        ≡ place_in (cond b ((e.0, fields) ∷ es) (e ∷ insert_entry nat_eq es class fields)) other
    by true here later = refl
    by false here later =
        let there = next-suc (place_in es class) n here in
        ap (λ i. cond (other == e.0) 1 (next_place i)) (later there.0 there.1)

pub places-kept : (plans : List (ℕ × List Field)) (class n : ℕ) (fields : List Field) (places : List ℕ)
    → place_in plans class ≡ suc n → ArePlaces plans places → ArePlaces (insert_entry nat_eq plans class fields) places
places-kept plans class n fields places here are other = are other ∙ same-kept plans class n fields other here

-- the first plan of a class stands last
pub place-new : (plans : List (ℕ × List Field)) (class : ℕ) (fields : List Field) → place_in plans class ≡ 0
    → insert_entry nat_eq plans class fields ≡ plans ++ (class, fields) ∷ []
place-new [] class fields none = refl
place-new (e ∷ es) class fields none = by (class == e.0) none (place-new es class fields)
  where
    by : (b : Bool) → cond b 1 (next_place (place_in es class)) ≡ 0
        → (place_in es class ≡ 0 → insert_entry nat_eq es class fields ≡ es ++ (class, fields) ∷ [])
        → cond b ((e.0, fields) ∷ es) (e ∷ insert_entry nat_eq es class fields) ≡ e ∷ (es ++ (class, fields) ∷ [])
    by true none later = cc
    by false none later = ap (λ es. e ∷ es) (later (next-zero (place_in es class) none))

last-place : (plans : List (ℕ × List Field)) (class : ℕ) (fields : List Field) → place_in plans class ≡ 0
    → place_in (plans ++ (class, fields) ∷ []) class ≡ length plans + 1
last-place [] class fields none = ap (λ b. cond b 1 0) (eq-eqb class class refl)
last-place (e ∷ es) class fields none = by (class == e.0) none (last-place es class fields)
  where
    by : (b : Bool) → cond b 1 (next_place (place_in es class)) ≡ 0
        → (place_in es class ≡ 0 → place_in (es ++ (class, fields) ∷ []) class ≡ length es + 1)
        → cond b 1 (next_place (place_in (es ++ (class, fields) ∷ []) class)) ≡ length (e ∷ es) + 1
    by true none later = cc
    by false none later =
        let last : place_in (es ++ (class, fields) ∷ []) class ≡ suc (length es) =
        omega (arith, later (next-zero (place_in es class) none)) in
        let all : suc (suc (length es)) ≡ length (e ∷ es) + 1 = omega arith in
        ap next_place last ∙ all

other-place : (plans : List (ℕ × List Field)) (class : ℕ) (fields : List Field) (other : ℕ) → (other ≡ class → ⊥)
    → place_in (plans ++ (class, fields) ∷ []) other ≡ place_in plans other
other-place [] class fields other apart = ap (λ b. cond b 1 0) (ne_eqb other class apart)
other-place (e ∷ es) class fields other apart =
    ap (λ i. cond (other == e.0) 1 (next_place i)) (other-place es class fields other apart)

pub places-new : (plans : List (ℕ × List Field)) (class : ℕ) (fields : List Field) (places : List ℕ)
    → place_in plans class ≡ 0 → ArePlaces plans places → class < length places
    → ArePlaces (plans ++ (class, fields) ∷ []) (set places class (length plans + 1))
places-new plans class fields places none are lt other = elim (cases_eq other class) [
  | inl same ↦
      ap (λ other. get_or (set places class (length plans + 1)) other 0) same
      ∙ get_or-set_same places class (length plans + 1) 0 lt
      ∙ sym (last-place plans class fields none)
      ∙ ap (place_in (plans ++ (class, fields) ∷ [])) (sym same)
  | inr apart ↦
      get_or-set_other places class other (length plans + 1) 0 apart
      ∙ are other
      ∙ sym (other-place plans class fields other apart)
]
