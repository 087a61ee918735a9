-- Bytes that spell again what other bytes spell.
use Rattle.std.specs.Prelude.{◌≡◌, ◌≤◌, ℕ, true, if◌then◌else◌, List, [], ◌++◌, length, take}
use Rattle.scalar_types.specs.declared.Order.{Order}
use Rattle.scalar_types.specs.declared.Order.TheVariants.{Little}
use Rattle.type_text.specs.declared.types.Link.{Link}
use Rattle.record_values.specs.declared.values.Value.{Value}
use Rattle.record_values.specs.declared.values.Value.TheVariants as value
use Rattle.record_values.specs.Links.{links_of, linked_value}
use Rattle.record_values.specs.Spelling.{IsText, IsClosedText, AreItems}
use Rattle.scalar_types.specs.declared.Width.TheVariants.{Four}
use Rattle.layout_plan.specs.declared.fields.Form.{Form}
use Rattle.layout_plan.specs.declared.fields.Form.TheVariants.{Number}
use Rattle.layout_plan.specs.declared.fields.Count.{Count}
use Rattle.layout_plan.specs.declared.fields.Field.{Field}
use Rattle.layout_plan.specs.Body.{IsField, IsFieldBy}

-- the new bytes spell by S the items that the bytes spell by R
abbrev pub Respells : {X : Type 0} → (X → List ℕ → Type 0) → (X → List ℕ → Type 0) → List ℕ → List ℕ → Type 0
Respells {X} R S bytes new = (xs : List X) → AreItems R xs bytes → AreItems S xs new

-- a text stands at the front of the bytes
abbrev pub BeginsText : Order → List ℕ → Type 0
BeginsText order bytes =
    (text front rest : List ℕ) × (bytes ≡ front ++ rest) × IsText order text front

-- the text at the front of the bytes has so many, and the new bytes spell it closed in little-endian order
abbrev pub RespellsText : Order → List ℕ → ℕ → List ℕ → Type 0
RespellsText order bytes size new =
    (text front rest : List ℕ) → bytes ≡ front ++ rest → IsText order text front → (size ≡ length front)
    × IsClosedText Little text new

-- the bytes spell a value that has no more links than these
abbrev pub SpellsFew : Order → Form → List Count → List ℕ → List Link → Type 0
SpellsFew order form counts bytes links =
    (numbers : List ℕ) × (v : Value) × IsField order numbers form counts v bytes × (length (links_of v) ≤ length links)

-- the new bytes spell in little-endian order the value that the bytes spell, with the first of these links, as many as
-- it has, in place of its own, and each text closed
abbrev pub RespellsForm : Order → Form → List Count → List ℕ → List Link → ℕ → List ℕ → Type 0
RespellsForm order form counts bytes links used new =
    (numbers : List ℕ) (v : Value) → IsField order numbers form counts v bytes → (used ≡ length (links_of v))
    × IsFieldBy (IsClosedText Little) Little numbers form counts (linked_value v (take used links)) new

-- a check sum is a number of four bytes
abbrev pub IsSumNumber : Field → Type 0
IsSumNumber f = f.is_sum ≡ true → (f.form ≡ Number Four) × (f.counts ≡ [])

-- the same of a field, with 0 in place of a check sum
abbrev pub RespellsField : Order → Field → List ℕ → List Link → ℕ → List ℕ → Type 0
RespellsField order f bytes links used new =
    (numbers : List ℕ) (v : Value) → IsField order numbers f.form f.counts v bytes → (used ≡ length (links_of v))
    × IsFieldBy (IsClosedText Little) Little numbers f.form f.counts
    (linked_value (if f.is_sum then value.Num 0 else v) (take used links)) new

-- the new bytes are a piece as it is, and after it those that spell the field's value again
abbrev pub RespellsAfter : List ℕ → Field → List ℕ → List Link → ℕ → List ℕ → Type 0
RespellsAfter piece f bytes links used new =
    (one : List ℕ) × (new ≡ piece ++ one) × RespellsField Little f bytes links used one
