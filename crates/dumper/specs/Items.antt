-- Items one after another: the one at the front of some bytes, and those of a list.
use Rattle.std.specs.Prelude.{◌≡◌, ℕ, ◌-◌, List, [], ◌∷◌, ◌++◌, map, take, drop, length, Bool, codes}
use Rattle.std.specs.Prelude.{if◌then◌else◌}
use Rattle.scalar_types.specs.declared.Order.{Order}
use Rattle.scalar_types.specs.Number.{number}
use Rattle.type_text.specs.declared.types.Link.{Link}
use Rattle.type_text.specs.declared.types.Base.{Base}
use Rattle.record_values.specs.declared.values.Value.{Value}
use Rattle.record_values.specs.declared.values.Value.TheVariants as value
use Rattle.record_values.specs.Spelling.{AreItems}
use Rattle.layout_plan.specs.declared.fields.Form.{Form}
use Rattle.layout_plan.specs.Body.{IsSingle}
use Rattle.dumper.specs.Printed.{value_text}

-- an item stands at the front of the bytes
abbrev pub BeginsItem : Order → Form → List ℕ → Type 0
BeginsItem order form bytes = (v : Value) × (front rest : List ℕ) × (bytes ≡ front ++ rest)
    × IsSingle order form v front

-- of the item at the front of the bytes, its value and the bytes that spell it
abbrev pub OfItem : Order → Form → List ℕ → (Value → ℕ → Type 0) → Type 0
OfItem order form bytes P =
    (v : Value) (front rest : List ℕ) → bytes ≡ front ++ rest → IsSingle order form v front → P v (length front)

-- the bytes spell items of a form
abbrev pub AreSingles : Order → Form → List Value → List ℕ → Type 0
AreSingles order form items bytes = AreItems (IsSingle order form) items bytes

-- the items of a list that is not one of bytes
abbrev pub items_of : Value → List Value
items_of (value.Nums numbers) = map value.Num numbers
items_of (value.Pairs pairs) = map (λ (pair : ℕ × ℕ). value.Pair pair.0 pair.1) pairs
items_of (value.Texts texts) = map value.Text texts
items_of (value.Links links) = map value.Link links
items_of v = v ∷ []

-- what stands before an item: a blank, where it is not the first
abbrev pub blank_before : Bool → List ℕ
blank_before after = if after then codes " " else []

-- an item, after a blank where it is not the first
abbrev pub next_text : Bool → Base → Value → List ℕ
next_text after base v = blank_before after ++ value_text base v

-- the text of a spelling: what stands between its length of two bytes and its closing zero byte
abbrev pub text_between : List ℕ → List ℕ
text_between spelling = take (length spelling - 3) (drop 2 spelling)

-- the link that the first six bytes spell
abbrev pub first_link : Order → List ℕ → Link
first_link order bytes = record { class = number order (take 2 bytes); instance = number order (take 4 (drop 2 bytes)) }
