-- Elements by their names and types.
use Rattle.std.specs.Prelude.{◌≡◌, ℕ, ◌+◌, if◌then◌else◌, List, [], ◌∷◌, map, Option, Some, None}
use Rattle.std.specs.Str.{bytes_eq}
use Rattle.type_text.specs.declared.types.Base.{Base}
use Rattle.type_text.specs.declared.types.Dim.TheVariants.{Named}
use Rattle.dictionary.specs.declared.entries.Element.{Element}

-- the first of the elements that has the name, with its number; the first element's number is i
abbrev pub first_named : ℕ → List Element → List ℕ → Option (ℕ × Element)
first_named i [] name = None
first_named i (e ∷ es) name = if bytes_eq name e.name then Some (i, e) else first_named (i + 1) es name

-- the element has the type of this base whose dimensions are these names in order
abbrev pub HasType : Element → Base → List (List ℕ) → Type 0
HasType e base names = e.ty ≡ Some (record { base = base; dims = map Named names })
