-- What stands at a field of a body.
use Rattle.std.specs.Prelude.{◌≡◌, ℕ, ◌+◌, ◌≤◌, List, [], map, take, drop, length, slice_get, Some, Ok}
use Rattle.scalar_types.specs.declared.Order.{Order}
use Rattle.scalar_types.specs.declared.Width.{Width}
use Rattle.type_text.specs.declared.types.Link.{Link as StructLink}
use Rattle.record_values.specs.declared.values.Value.{Value}
use Rattle.record_values.specs.declared.values.Value.TheVariants as value
use Rattle.layout_plan.specs.declared.fields.Form.{Form}
use Rattle.layout_plan.specs.declared.fields.Form.TheVariants.{Number, Text, Link}
use Rattle.layout_plan.specs.declared.fields.Field.{Field}
use Rattle.layout_plan.specs.declared.lent.Placed.{Placed}
use Rattle.layout_plan.specs.Body.{number_of, AreFields, IsBody}
use Rattle.layout_plan.specs.Reading.{field_in}

-- The first k fields end at this place of the body: the bytes before it spell their values.
abbrev pub EndsAt : Order → List Field → List ℕ → ℕ → ℕ → Type 0
EndsAt order fields bytes k end =
    (values : List Value) (tail : List ℕ) → IsBody order fields values tail bytes
    → AreFields order (map number_of values) (take k fields) (take k values) (take end bytes)

-- The body's values have this one at field k.
abbrev pub HasValueAt : Order → List Field → List ℕ → ℕ → Value → Type 0
HasValueAt order fields bytes k v =
    (values : List Value) (tail : List ℕ) → IsBody order fields values tail bytes → slice_get values k ≡ Some v

abbrev pub HasNumberAt : Order → List Field → List ℕ → ℕ → ℕ → Type 0
HasNumberAt order fields bytes k n = HasValueAt order fields bytes k (value.Num n)

abbrev pub HasTextAt : Order → List Field → List ℕ → ℕ → List ℕ → Type 0
HasTextAt order fields bytes k text = HasValueAt order fields bytes k (value.Text text)

abbrev pub HasPlainLinkAt : Order → List Field → List ℕ → ℕ → StructLink → Type 0
HasPlainLinkAt order fields bytes k link = HasValueAt order fields bytes k (value.Link link)

-- field k is a single item of this form
pub record IsSingleField (fields : List Field) (k : ℕ) (form : Form) : Type 0 where
  pub field : Field
  pub is : slice_get fields k ≡ Some field
  pub form_is : field.form ≡ form
  pub single : field.counts ≡ []

-- field k is a whole number, a character or a real without dimension
abbrev pub IsNumberField : List Field → ℕ → Type 0
IsNumberField fields k =
    (width : Width) × IsSingleField fields k (Number width)

-- field k is a text without dimension
abbrev pub IsTextField : List Field → ℕ → Type 0
IsTextField fields k = IsSingleField fields k Text

-- field k is a link without dimension
abbrev pub IsLinkField : List Field → ℕ → Type 0
IsLinkField fields k = IsSingleField fields k Link

-- what is told of field k
pub record IsPlaced (order : Order) (fields : List Field) (bytes : List ℕ) (k : ℕ) (p : Placed) : Type 0 where
  pub value : Value
  pub field : Field
  pub numbers : List ℕ
  pub is : slice_get fields k ≡ Some field
  pub here : HasValueAt order fields bytes k value
  pub found : field_in order numbers field.form field.counts (drop p.start bytes)
      ≡ Ok (value, drop (p.start + p.length) bytes)
  pub within : p.start + p.length ≤ length bytes
  pub begins : EndsAt order fields bytes k p.start
  pub ends : EndsAt order fields bytes (k + 1) (p.start + p.length)
