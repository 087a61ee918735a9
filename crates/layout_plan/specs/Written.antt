-- Bodies as they are written: in which each text, the empty one too, has its closing zero byte, and no tail stands
-- after the fields (LIGO-T970130 v8: STRING).
use Rattle.std.specs.Prelude.{◌≡◌, ℕ, if◌then◌else◌, List, [], ◌∷◌, length, map, Ok}
use Rattle.scalar_types.specs.declared.Order.{Order}
use Rattle.scalar_types.specs.declared.Order.TheVariants.{Little}
use Rattle.type_text.specs.declared.types.Link.{Link}
use Rattle.record_values.specs.declared.values.Value.{Value}
use Rattle.record_values.specs.declared.values.Value.TheVariants as value
use Rattle.record_values.specs.Links.{with_links}
use Rattle.record_values.specs.Spelling.{IsClosedText}
use Rattle.layout_plan.specs.declared.fields.Field.{Field}
use Rattle.layout_plan.specs.Body.{number_of, AreFieldsBy, IsBody, values_length}
use Rattle.layout_plan.specs.Reading.{body_in}

-- the bytes spell the values one after another, and each text in them has its closing zero byte
abbrev pub AreClosedFields : Order → List ℕ → List Field → List Value → List ℕ → Type 0
AreClosedFields order numbers fields values bytes =
    AreFieldsBy (IsClosedText order) order numbers fields values bytes

-- What is written of these values: a body without a tail; each text in it has its closing zero byte; it has as many
-- bytes as the values take then; and reading it gives the values again.
pub record IsWritten (order : Order) (fields : List Field) (values : List Value) (bytes : List ℕ) : Type 0 where
  pub body : IsBody order fields values [] bytes
  pub closed : AreClosedFields order (map number_of values) fields values bytes
  pub size : length bytes ≡ values_length fields values
  pub again : body_in order fields bytes ≡ Ok (values, [])

-- the values with 0 in place of the check sum
abbrev pub with_sums_cleared : List Field → List Value → List Value
with_sums_cleared (f ∷ fs) (v ∷ vs) = (if f.is_sum then value.Num 0 else v) ∷ with_sums_cleared fs vs
with_sums_cleared fields values = values

-- What is written again of a body: its values in little-endian order, with 0 for the check sum and these links in place
-- of its own.
abbrev pub IsRewritten : Order → List Field → List ℕ → List Link → List ℕ → Type 0
IsRewritten order fields body links bytes =
    (values : List Value) (tail : List ℕ) → IsBody order fields values tail body
    → IsWritten Little fields (with_links (with_sums_cleared fields values) links) bytes
