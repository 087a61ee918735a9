-- Of the inside. The counts of dimensions by name, as a map keeps them.
use Rattle.std.specs.Prelude.{◌≡◌, ℕ, List, Option, Vec, option_and_then}
use Rattle.std.specs.Option.{option_map}
use Rattle.std.specs.Str.{bytes_eq}
use Rattle.std.specs.HashMap.{HashMap, get_by}
use Rattle.dictionary.specs.declared.entries.Element.{Element}
use Rattle.dictionary.specs.Named.{first_named}
use Rattle.layout_plan.specs.declared.fields.Count.{Count}
use Rattle.layout_plan.specs.Layout.{named_count}

-- what is held under a name: the count by the first field of this name, where a dimension may name it
abbrev pub held_at : {A S : Type 0} → HashMap (Vec ℕ A) (Option Count) S → List ℕ → Option (Option Count)
held_at names name = get_by (λ key. bytes_eq name key.items) names

-- the count of a dimension with this name
abbrev pub count_at : {A S : Type 0} → HashMap (Vec ℕ A) (Option Count) S → List ℕ → Option Count
count_at names name = option_and_then (λ (count : Option Count). count) (held_at names name)

-- the map holds the names of these elements
abbrev pub HoldsNames : {A S : Type 0} → HashMap (Vec ℕ A) (Option Count) S → List Element → Type 0
HoldsNames names elements =
    (name : List ℕ) → held_at names name ≡ option_map named_count (first_named 0 elements name)
