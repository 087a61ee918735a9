-- The end of a file: the layout that FrEndOfFile has, and what it tells (LIGO-T970130 v8, FrEndOfFile).
use Rattle.std.specs.Prelude.{ℕ, ◌&&◌, if◌then◌else◌, Bool, true, false, List, codes, slice_get, Option, Some, None}
use Rattle.std.specs.Prelude.{option_and_then}
use Rattle.std.specs.List.{list_all}
use Rattle.std.specs.Option.{option_map_or}
use Rattle.type_text.specs.declared.types.Base.{Base}
use Rattle.type_text.specs.declared.types.ElementType.{ElementType}
use Rattle.type_text.specs.declared.types.Base.TheVariants.{Int4U, Int8U}
use Rattle.record_values.specs.declared.values.Value.{Value}
use Rattle.dictionary.specs.declared.entries.Element.{Element}
use Rattle.dictionary.specs.Named.{first_named}
use Rattle.layout_plan.specs.Layout.{has_no_dims}
use Rattle.layout_plan.specs.Body.{number_of}

-- the base of an element that reads and has no dimension
abbrev pub base_by : ElementType → Option Base
base_by ty = if has_no_dims ty.dims then Some ty.base else None

abbrev pub single_base : Element → Option Base
single_base e = option_and_then base_by e.ty

-- an element without dimension of a base that passes
abbrev pub is_single : (Base → Bool) → Element → Bool
is_single passes e = option_map_or (λ ty. passes ty.base && has_no_dims ty.dims) e.ty false

abbrev pub is_any : Base → Bool
is_any base = true

abbrev pub is_count : Base → Bool
is_count Int4U = true
is_count Int8U = true
is_count base = false

abbrev pub is_size : Base → Bool
is_size Int8U = true
is_size base = false

-- the first element of the name is there and passes
abbrev pub has_named : List Element → List ℕ → (Base → Bool) → Bool
has_named elements name passes = option_map_or (λ found. is_single passes found.1) (first_named 0 elements name) false

-- the layout that FrEndOfFile has to have: no dimension, a count of frames, a number of bytes and the way back to the
-- table
abbrev pub closes : List Element → Bool
closes elements =
    list_all (is_single is_any) elements
    && (has_named elements (codes "nFrames") is_count
    && (has_named elements (codes "nBytes") is_size && has_named elements (codes "seekTOC") is_size))

-- the number of the first element of the name
abbrev pub field_named : List Element → List ℕ → ℕ
field_named elements name = option_map_or (λ found. found.0) (first_named 0 elements name) 0

-- the number that the values have there
abbrev pub number_named : List Element → List Value → List ℕ → ℕ
number_named elements values name = option_map_or number_of (slice_get values (field_named elements name)) 0
