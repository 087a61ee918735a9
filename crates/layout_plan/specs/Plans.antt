-- The plans of classes.
use Rattle.std.specs.Prelude.{ℕ, zero, suc, ◌≡◌, ◌==◌, if◌then◌else◌, List, [], ◌∷◌, Option, slice_index_or}
use Rattle.std.specs.Map.{lookup}
use Rattle.layout_plan.specs.declared.fields.Field.{Field}

-- the fields kept of a class
abbrev pub plan_of : List (ℕ × List Field) → ℕ → Option (List Field)
plan_of plans class = lookup (λ key. class == key) plans

-- of the inside: a place one further on, where there is one
abbrev pub next_place : ℕ → ℕ
next_place zero = zero
next_place (suc i) = suc (suc i)

-- of the inside: the place of the first plan of a class, from 1, or 0 where it has none
abbrev pub place_in : List (ℕ × List Field) → ℕ → ℕ
place_in [] class = zero
place_in (e ∷ es) class = if class == e.0 then 1 else next_place (place_in es class)

-- of the inside: these are the places of the plans of all classes
abbrev pub ArePlaces : List (ℕ × List Field) → List ℕ → Type 0
ArePlaces plans places = (class : ℕ) → slice_index_or places class 0 ≡ place_in plans class
