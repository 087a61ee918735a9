-- Values that fit a layout: a value for each field, of the field's form, width and item count (LIGO-T970130 v8: data
-- types, STRING, arrays).
use Rattle.std.specs.Prelude.{◌≡◌, ℕ, ◌^◌, ◌<◌, ◌≤◌, List, [], ◌∷◌, length, map, All}
use Rattle.std.specs.List.{AllZip}
use Rattle.scalar_types.specs.declared.Width.{Width}
use Rattle.scalar_types.specs.declared.Width.TheVariants.{One}
use Rattle.scalar_types.specs.Number.{size_of}
use Rattle.record_values.specs.declared.values.Value.{Value}
use Rattle.record_values.specs.declared.values.Value.TheVariants as value
use Rattle.layout_plan.specs.declared.fields.Form.{Form}
use Rattle.layout_plan.specs.declared.fields.Form.TheVariants.{Number, Pair, Text, Link}
use Rattle.layout_plan.specs.declared.fields.Count.{Count}
use Rattle.layout_plan.specs.declared.fields.Field.{Field}
use Rattle.layout_plan.specs.Body.{number_of, item_count}

-- the number has no more bytes than the width
abbrev pub FitsWidth : Width → ℕ → Type 0
FitsWidth width n = n < 256 ^ size_of width

-- both numbers of the pair have no more bytes than the width
abbrev pub PairFitsWidth : Width → ℕ × ℕ → Type 0
PairFitsWidth width pair = FitsWidth width pair.0 × FitsWidth width pair.1

-- the text has no more bytes than a two-byte length counts beside the closing zero byte
abbrev pub IsShortText : List ℕ → Type 0
IsShortText text = length text ≤ 65534

-- the list has n items, of each of which P holds
abbrev pub AllCounted : {X : Type 0} → (X → Type 0) → ℕ → List X → Type 0
AllCounted P n xs = (length xs ≡ n) × All P xs

-- the value is a single item of this form. Each link is: its class has two bytes and its instance four, by their types.
abbrev pub FitsSingle : Form → Value → Type 0
FitsSingle (Number width) (value.Num n) = FitsWidth width n
FitsSingle (Pair width) (value.Pair a b) = PairFitsWidth width (a, b)
FitsSingle Text (value.Text text) = IsShortText text
FitsSingle Link (value.Link link) = Unit {0}
FitsSingle form v = ⊥

-- the value is a list of n items of this form. A list of one-byte numbers is Bytes, and each of its items has one byte
-- by its type; each link is its class and instance, by their types.
abbrev pub FitsListed : Form → ℕ → Value → Type 0
FitsListed (Number One) n (value.Bytes xs) = length xs ≡ n
FitsListed (Number One) n v = ⊥
FitsListed (Number width) n (value.Nums xs) = AllCounted (FitsWidth width) n xs
FitsListed (Pair width) n (value.Pairs xs) = AllCounted (PairFitsWidth width) n xs
FitsListed Text n (value.Texts xs) = AllCounted IsShortText n xs
FitsListed Link n (value.Links xs) = length xs ≡ n
FitsListed form n v = ⊥

-- the value is one of a field of this form and these dimensions, by the numbers of the record's fields
abbrev pub FitsField : List ℕ → Form → List Count → Value → Type 0
FitsField numbers form [] v = FitsSingle form v
FitsField numbers form (c ∷ cs) v = FitsListed form (item_count numbers (c ∷ cs)) v

-- There are as many values as fields, and each fits its field. A dimension that names a field has the number that is
-- that field's value in this same list.
abbrev pub Fits : List Field → List Value → Type 0
Fits fields values = AllZip (λ f v. FitsField (map number_of values) f.form f.counts v) fields values
