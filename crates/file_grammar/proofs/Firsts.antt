-- The first of some reasons that holds.
use Rattle.std.proofs.Common.{◌≡◌, Bool, true, false, cond, List, [], ◌∷◌, Option, Some, None, refl, sym, ap, ◌∙◌}
use Rattle.std.specs.List.{filter}
use Rattle.std.specs.Option.{option_map_or}
use Rattle.file_grammar.specs.declared.reason.Reason.{Reason}
use Rattle.file_grammar.specs.declared.fault.Fault.{Fault}
use Rattle.file_grammar.specs.Fault.{Here, Spot, fault_spot, fault_at, first_of}

-- a reason at the front holds, or the first of the others is asked for
pub first_of-holds : (reason : Reason) (rs : List Reason) (h : Here) (spot : Spot) → fault_spot reason h ≡ Some spot
    → first_of (reason ∷ rs) h ≡ Some (fault_at reason spot)
first_of-holds reason rs h spot e =
    ap (λ o. option_map_or (λ (spot : Spot). Some (fault_at reason spot)) o (first_of rs h)) e

pub first_of-passes : (reason : Reason) (rs : List Reason) (h : Here) → fault_spot reason h ≡ None
    → first_of (reason ∷ rs) h ≡ first_of rs h
first_of-passes reason rs h e =
    ap (λ o. option_map_or (λ (spot : Spot). Some (fault_at reason spot)) o (first_of rs h)) e

-- the others decide where the one at the front does not
pub first_of-others : (reason : Reason) (rs ss : List Reason) (h : Here) → first_of rs h ≡ first_of ss h
    → first_of (reason ∷ rs) h ≡ first_of (reason ∷ ss) h
first_of-others reason rs ss h e =
    ap (λ o. option_map_or (λ (spot : Spot). Some (fault_at reason spot)) (fault_spot reason h) o) e

-- where none of the reasons holds, the first does not
pub first-none : (reason : Reason) (rs : List Reason) (h : Here) → first_of (reason ∷ rs) h ≡ None
    → (fault_spot reason h ≡ None) × (first_of rs h ≡ None)
first-none reason rs h e = by (fault_spot reason h) refl
  where
    by : (o : Option Spot) → fault_spot reason h ≡ o → (fault_spot reason h ≡ None) × (first_of rs h ≡ None)
    by None is = (is, sym (first_of-passes reason rs h is) ∙ e)
    by (Some spot) is = absurd (apart (sym (first_of-holds reason rs h spot is) ∙ e))
      where
        apart : ◌≡◌ {A = Option Fault} (Some (fault_at reason spot)) None → ⊥
        apart f = cc

-- reasons that do not hold may be left out
pub first_of-filter : (keeps : Reason → Bool) (h : Here)
    → ((reason : Reason) → keeps reason ≡ false → fault_spot reason h ≡ None) → (rs : List Reason)
    → first_of rs h ≡ first_of (filter keeps rs) h
first_of-filter keeps h out [] = refl
first_of-filter keeps h out (reason ∷ rs) = step (keeps reason) refl (first_of-filter keeps h out rs)
  where
    step : (b : Bool) → keeps reason ≡ b → first_of rs h ≡ first_of (filter keeps rs) h
        → first_of (reason ∷ rs) h ≡ first_of (cond b (reason ∷ filter keeps rs) (filter keeps rs)) h
    step true is others = first_of-others reason rs (filter keeps rs) h others
    step false is others = first_of-passes reason rs h (out reason is) ∙ others
