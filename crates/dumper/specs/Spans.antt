-- Where the value of a field ends, at the front of some bytes.
use Rattle.std.specs.Prelude.{◌≡◌, ℕ, ◌≤◌, List, ◌++◌, take, drop, length, Ok}
use Rattle.scalar_types.specs.declared.Order.{Order}
use Rattle.record_values.specs.declared.values.Value.{Value}
use Rattle.layout_plan.specs.declared.fields.Form.{Form}
use Rattle.layout_plan.specs.declared.fields.Count.{Count}
use Rattle.layout_plan.specs.Body.{IsField}
use Rattle.record_values.specs.Spelling.{IsText}
use Rattle.layout_plan.specs.Reading.{field_in, text_in, items_in}

-- a value of the field stands at the front of the bytes
pub record StandsFirst (order : Order) (numbers : List ℕ) (form : Form) (counts : List Count) (bytes : List ℕ) : Type 0
  where
    pub value : Value
    pub rest : List ℕ
    pub found : field_in order numbers form counts bytes ≡ Ok (value, rest)

-- The first so many bytes spell the value that stands there.
abbrev pub IsSpan : Order → List ℕ → Form → List Count → List ℕ → ℕ → Type 0
IsSpan order numbers form counts bytes n =
    (v : Value) (rest : List ℕ) → field_in order numbers form counts bytes ≡ Ok (v, rest) → (n ≤ length bytes)
    × (rest ≡ drop n bytes) × IsField order numbers form counts v (take n bytes)

-- so many texts stand at the front of the bytes
abbrev pub TextsStandFirst : Order → ℕ → List ℕ → Type 0
TextsStandFirst order count bytes =
    (texts : List (List ℕ)) × (rest : List ℕ) × (items_in (text_in order) count bytes ≡ Ok (texts, rest))

-- The first n bytes spell the texts that stand there.
abbrev pub AreTextSpans : Order → ℕ → List ℕ → ℕ → Type 0
AreTextSpans order count bytes n =
    (texts : List (List ℕ)) (rest : List ℕ) → items_in (text_in order) count bytes ≡ Ok (texts, rest)
    → (n ≤ length bytes) × (rest ≡ drop n bytes)

-- The text at the front of the bytes has so many.
abbrev pub IsTextSpan : Order → List ℕ → ℕ → Type 0
IsTextSpan order bytes n =
    (text front rest : List ℕ) → bytes ≡ front ++ rest → IsText order text front → n ≡ length front
