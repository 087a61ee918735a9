-- Where the bytes of a file lie that a slot still writes.
use Rattle.std.specs.Prelude.{ℕ, false, List, [], ◌∷◌, Option, Some, None, IsSome, IsNone, if◌then◌else◌, ⊤}
use mathlib.Core.Bool.{Bool-set}
use mathlib.Core.HLevel.{×_prop, Unit-prop, Π_prop}
use Rattle.std.specs.Option.{option_or, option_map_or}
use Rattle.std.specs.Str.{bytes_eq}
use Rattle.frame_outside.specs.Shelf.{Slot, Source, Target}

-- what a slot has written of the file of that name, where it still writes it
abbrev pub written_by : Slot → List ℕ → Option (List ℕ)
written_by (Source reading) name = None
written_by (Target None) name = None
written_by (Target (Some writing)) name =
    if option_map_or (bytes_eq name) writing.name false then Some writing.written else None

-- the same of the first slot that still writes it
abbrev pub written_under : List Slot → List ℕ → Option (List ℕ)
written_under [] name = None
written_under (first ∷ others) name = option_or (written_by first name) (written_under others name)

-- no two slots still write the file of one name
abbrev pub AreApart : List Slot → Type 0
AreApart [] = ⊤
AreApart (first ∷ others) = ((name : List ℕ) → IsSome (written_by first name) →
    IsNone (written_under others name)) × AreApart others

pub AreApart-prop : (slots : List Slot) → IsProp (AreApart slots)
AreApart-prop [] = Unit-prop
AreApart-prop (first ∷ others) = ×_prop (Π_prop (λ name. Π_prop (λ some. Bool-set _ _)))
    (AreApart-prop others)
