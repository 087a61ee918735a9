-- The laws of layouts and bodies.
use Rattle.std.specs.Prelude.{◌≡◌, ℕ, ◌+◌, ◌↔◌, List, ◌++◌, length, map, take, slice_get, Some, None}
use Rattle.scalar_types.specs.declared.Order.{Order}
use Rattle.record_values.specs.declared.values.Value.{Value}
use Rattle.dictionary.specs.declared.entries.Element.{Element}
use Rattle.layout_plan.specs.declared.fields.Field.{Field}
use Rattle.layout_plan.specs.declared.faults.BodyReason.{BodyReason}
use Rattle.layout_plan.specs.declared.faults.BodyReason.TheVariants.{BodyShort, BodyLong, BadText}
use Rattle.layout_plan.specs.declared.faults.BodyFault.{BodyFault}
use Rattle.layout_plan.specs.Layout.{layout_of, AreSound}
use Rattle.layout_plan.specs.Body.{number_of, IsField, AreFields, IsTail, IsBody, HasBody, zero_texts_of, values_length}
use Rattle.layout_plan.specs.Reading.{fault_of}

-- In a readable layout each dimension names an earlier field, or none.
abbrev pub LayoutsAreSound : Type 0
LayoutsAreSound =
    (elements : List Element) (fields : List Field) → layout_of elements ≡ Some fields → AreSound 0 fields

-- A body has no fault exactly where it has values and a tail.
abbrev pub FaultOrBody : Type 0
FaultOrBody =
    (order : Order) (fields : List Field) (bytes : List ℕ) → AreSound 0 fields → (fault_of order fields bytes ≡ None)
    ↔ HasBody order fields bytes

-- A body has one list of values and one tail.
abbrev pub BodiesAreUnique : Type 0
BodiesAreUnique =
    (order : Order) (fields : List Field) (bytes : List ℕ) → AreSound 0 fields
    → (values others : List Value) (tail end : List ℕ) → IsBody order fields values tail bytes
    → IsBody order fields others end bytes → (values ≡ others) × (tail ≡ end)

-- A body has as many bytes as its values take with each text closed by its zero byte, and its tail, but one less for
-- each text that is spelled by a length of 0 alone.
abbrev pub LengthsAreTold : Type 0
LengthsAreTold =
    (order : Order) (fields : List Field) (values : List Value) (tail bytes : List ℕ)
    (body : IsBody order fields values tail bytes)
    → length bytes + zero_texts_of order fields values tail bytes body ≡ values_length fields values + length tail

-- a front of the bytes spells the field, by the numbers of the fields before it
abbrev pub BeginsWith : Order → List ℕ → Field → List ℕ → Type 0
BeginsWith order numbers f bytes =
    (v : Value) × (front rest : List ℕ) × (bytes ≡ front ++ rest) × IsField order numbers f.form f.counts v front

-- with some further bytes, a front would spell it
abbrev pub IsCutOff : Order → List ℕ → Field → List ℕ → Type 0
IsCutOff order numbers f bytes = (more : List ℕ) × BeginsWith order numbers f (bytes ++ more)

-- The first k fields are spelled at the front of the bytes, and no front of the rest spells field k.
pub record StopsAt (order : Order) (fields : List Field) (bytes : List ℕ) (k : ℕ) : Type 0 where
  pub values : List Value
  pub front : List ℕ
  pub rest : List ℕ
  pub field : Field
  pub split : bytes ≡ front ++ rest
  pub spelled : AreFields order (map number_of values) (take k fields) values front
  pub is : slice_get fields k ≡ Some field
  pub stops : BeginsWith order (map number_of values) field rest → ⊥

-- All fields are spelled at the front of the bytes, and neither none nor four bytes stand after them.
pub record GoesOn (order : Order) (fields : List Field) (bytes : List ℕ) : Type 0 where
  pub values : List Value
  pub front : List ℕ
  pub rest : List ℕ
  pub split : bytes ≡ front ++ rest
  pub spelled : AreFields order (map number_of values) fields values front
  pub no_tail : IsTail rest → ⊥

-- Why the fields up to k are not followed by another: field k has no spelling, and it is short where some further bytes
-- would give it one, a bad text where none would. Or all fields are spelled, and bytes that are no tail stand after
-- them.
abbrev pub HasFault : Order → List Field → List ℕ → ℕ → BodyReason → Type 0
HasFault order fields bytes k BodyShort =
    (s : StopsAt order fields bytes k) × IsCutOff order (map number_of s.values) s.field s.rest
HasFault order fields bytes k BadText =
    (s : StopsAt order fields bytes k) × (IsCutOff order (map number_of s.values) s.field s.rest → ⊥)
HasFault order fields bytes k BodyLong = GoesOn order fields bytes × (k ≡ length fields)

-- A body's fault is the first field that has no spelling, and why it has none.
abbrev pub FaultsAreTold : Type 0
FaultsAreTold =
    (order : Order) (fields : List Field) (bytes : List ℕ) (fault : BodyFault) → AreSound 0 fields
    → (fault_of order fields bytes ≡ Some fault) ↔ HasFault order fields bytes fault.field fault.reason
