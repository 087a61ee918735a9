-- The bodies of a layout: a relation between fields, byte order, values, tail and bytes (LIGO-T970130 v8: a structure's
-- elements in the order of its dictionary entry, arrays with the last dimension fastest).
use Rattle.std.proofs.Common.{inl, inr}
use Rattle.std.specs.Prelude.{◌≡◌, ℕ, ◌+◌, ◌*◌, ◌^◌, ◌-◌, nat_lt, if◌then◌else◌, ◌⊎◌, List, [], ◌∷◌, ◌++◌, length, map}
use Rattle.std.specs.Prelude.{sum_by, slice_index}
use Rattle.scalar_types.specs.declared.Order.{Order}
use Rattle.scalar_types.specs.declared.Width.{Width}
use Rattle.scalar_types.specs.declared.Width.TheVariants.{One}
use Rattle.scalar_types.specs.Number.{size_of}
use Rattle.record_values.specs.declared.values.Value.{Value}
use Rattle.record_values.specs.declared.values.Value.TheVariants as value
pub use Rattle.record_values.specs.Values.{number_of}
use Rattle.record_values.specs.Links.{links_in}
use Rattle.record_values.specs.Spelling.{IsNumber, IsPair, IsText, IsLink, AreItems}
use Rattle.layout_plan.specs.declared.fields.Form.{Form}
use Rattle.layout_plan.specs.declared.fields.Form.TheVariants.{Number, Pair, Text, Link}
use Rattle.layout_plan.specs.declared.fields.Count.{Count}
use Rattle.layout_plan.specs.declared.fields.Count.TheVariants.{Fixed, Of, OfSigned}
use Rattle.layout_plan.specs.declared.fields.Field.{Field}

-- the items that a signed number of this width counts, by its bits: none where it is below zero
abbrev pub signed_count : Width → ℕ → ℕ
signed_count width n = if nat_lt n (2 ^ (8 * size_of width - 1)) then n else 0

-- the items along one dimension, by the numbers of the record's fields
abbrev pub extent_of : List ℕ → Count → ℕ
extent_of numbers (Fixed n) = n
extent_of numbers (Of k) = slice_index numbers k
extent_of numbers (OfSigned k width) = signed_count width (slice_index numbers k)

-- the items of a field: the product of its dimensions
abbrev pub item_count : List ℕ → List Count → ℕ
item_count numbers [] = 1
item_count numbers (c ∷ cs) = extent_of numbers c * item_count numbers cs

-- the bytes are so many items
pub record AreCounted {X : Type 0} (R : X → List ℕ → Type 0) (n : ℕ) (xs : List X) (bytes : List ℕ) : Type 0 where
  pub count : length xs ≡ n
  pub items : AreItems R xs bytes

-- the bytes spell the value of a field without dimension, where R says how a text is spelled
abbrev pub IsSingleBy : (List ℕ → List ℕ → Type 0) → Order → Form → Value → List ℕ → Type 0
IsSingleBy R order (Number width) (value.Num n) bytes = IsNumber order width n bytes
IsSingleBy R order (Pair width) (value.Pair a b) bytes = IsPair order width (a, b) bytes
IsSingleBy R order Text (value.Text text) bytes = R text bytes
IsSingleBy R order Link (value.Link link) bytes = IsLink order link bytes
IsSingleBy R order form v bytes = ⊥

-- the bytes spell the value of a field with dimensions, which has n items. A list of one-byte numbers is Bytes.
abbrev pub IsListedBy : (List ℕ → List ℕ → Type 0) → Order → Form → ℕ → Value → List ℕ → Type 0
IsListedBy R order (Number One) n (value.Bytes xs) bytes = AreCounted (IsNumber order One) n xs bytes
IsListedBy R order (Number One) n v bytes = ⊥
IsListedBy R order (Number width) n (value.Nums xs) bytes = AreCounted (IsNumber order width) n xs bytes
IsListedBy R order (Pair width) n (value.Pairs xs) bytes = AreCounted (IsPair order width) n xs bytes
IsListedBy R order Text n (value.Texts xs) bytes = AreCounted R n xs bytes
IsListedBy R order Link n (value.Links xs) bytes = AreCounted (IsLink order) n xs bytes
IsListedBy R order form n v bytes = ⊥

-- the bytes spell the field's value, by the numbers of the record's fields
abbrev pub IsFieldBy : (List ℕ → List ℕ → Type 0) → Order → List ℕ → Form → List Count → Value → List ℕ → Type 0
IsFieldBy R order numbers form [] v bytes = IsSingleBy R order form v bytes
IsFieldBy R order numbers form (c ∷ cs) v bytes = IsListedBy R order form (item_count numbers (c ∷ cs)) v bytes

-- the bytes spell a value for each field, one after another
abbrev pub AreFieldsBy : (List ℕ → List ℕ → Type 0) → Order → List ℕ → List Field → List Value → List ℕ → Type 0
AreFieldsBy R order numbers [] [] bytes = bytes ≡ []
AreFieldsBy R order numbers (f ∷ fs) (v ∷ vs) bytes =
    (front rest : List ℕ) × (bytes ≡ front ++ rest) × IsFieldBy R order numbers f.form f.counts v front
    × AreFieldsBy R order numbers fs vs rest
AreFieldsBy R order numbers [] (v ∷ vs) bytes = ⊥
AreFieldsBy R order numbers (f ∷ fs) [] bytes = ⊥

-- the same in a body that is read: a text may be closed by its zero byte, and the empty one spelled by a length of 0
-- alone
abbrev pub IsSingle : Order → Form → Value → List ℕ → Type 0
IsSingle order form v bytes = IsSingleBy (IsText order) order form v bytes

abbrev pub IsListed : Order → Form → ℕ → Value → List ℕ → Type 0
IsListed order form n v bytes = IsListedBy (IsText order) order form n v bytes

abbrev pub IsField : Order → List ℕ → Form → List Count → Value → List ℕ → Type 0
IsField order numbers form counts v bytes = IsFieldBy (IsText order) order numbers form counts v bytes

abbrev pub AreFields : Order → List ℕ → List Field → List Value → List ℕ → Type 0
AreFields order numbers fields values bytes = AreFieldsBy (IsText order) order numbers fields values bytes

-- no bytes or four, which a producer may write after the listed fields
abbrev pub IsTail : List ℕ → Type 0
IsTail tail = (length tail ≡ 0) ⊎ (length tail ≡ 4)

-- The bytes are the spellings of the values in the order of the fields, and the tail after them. A dimension that names
-- a field has the number that is that field's value in this same list.
pub record IsBody (order : Order) (fields : List Field) (values : List Value) (tail bytes : List ℕ) : Type 0 where
  pub front : List ℕ
  pub split : bytes ≡ front ++ tail
  pub spelled : AreFields order (map number_of values) fields values front
  pub ends : IsTail tail

-- the bytes of a text that is closed by its zero byte
abbrev pub text_length : List ℕ → ℕ
text_length text = length text + 3

-- the bytes of a value of this form where each text is closed by its zero byte
abbrev pub value_length : Form → Value → ℕ
value_length (Number width) (value.Num n) = size_of width
value_length (Number width) (value.Bytes xs) = length xs * size_of width
value_length (Number width) (value.Nums xs) = length xs * size_of width
value_length (Pair width) (value.Pair a b) = 2 * size_of width
value_length (Pair width) (value.Pairs xs) = length xs * (2 * size_of width)
value_length Text (value.Text text) = text_length text
value_length Text (value.Texts texts) = sum_by text_length texts
value_length Link (value.Link link) = 6
value_length Link (value.Links xs) = length xs * 6
value_length form v = 0

-- the bytes of the values where each text is closed by its zero byte: so each text spelled by a length of 0 alone takes
-- one byte less
abbrev pub values_length : List Field → List Value → ℕ
values_length (f ∷ fs) (v ∷ vs) = value_length f.form v + values_length fs vs
values_length fields values = 0

-- 1 where the text is spelled by a length of 0 alone
abbrev pub zero_text : (order : Order) (text bytes : List ℕ) → IsText order text bytes → ℕ
zero_text order text bytes (inl closed) = 0
zero_text order text bytes (inr bare) = 1

-- how many of the texts are
abbrev pub zero_texts_in : (order : Order) (texts : List (List ℕ)) (bytes : List ℕ)
    → AreItems (IsText order) texts bytes → ℕ
zero_texts_in order [] bytes items = 0
zero_texts_in order (text ∷ texts) bytes (front, rest, split, here, others) =
    zero_text order text front here + zero_texts_in order texts rest others

-- how many texts of a field are
abbrev pub zero_texts_single : (order : Order) (form : Form) (v : Value) (bytes : List ℕ)
    → IsSingle order form v bytes → ℕ
zero_texts_single order Text (value.Text text) bytes s = zero_text order text bytes s
zero_texts_single order form v bytes s = 0

abbrev pub zero_texts_listed : (order : Order) (form : Form) (n : ℕ) (v : Value) (bytes : List ℕ)
    → IsListed order form n v bytes → ℕ
zero_texts_listed order Text n (value.Texts xs) bytes s = zero_texts_in order xs bytes s.items
zero_texts_listed order form n v bytes s = 0

abbrev pub zero_texts_field : (order : Order) (numbers : List ℕ) (form : Form) (counts : List Count) (v : Value)
    (bytes : List ℕ) → IsField order numbers form counts v bytes → ℕ
zero_texts_field order numbers form [] v bytes s = zero_texts_single order form v bytes s
zero_texts_field order numbers form (c ∷ cs) v bytes s =
    zero_texts_listed order form (item_count numbers (c ∷ cs)) v bytes s

-- how many texts of these fields are
abbrev pub zero_texts_fields : (order : Order) (numbers : List ℕ) (fields : List Field) (values : List Value)
    (bytes : List ℕ) → AreFields order numbers fields values bytes → ℕ
zero_texts_fields order numbers (f ∷ fs) (v ∷ vs) bytes (front, rest, split, here, others) =
    zero_texts_field order numbers f.form f.counts v front here + zero_texts_fields order numbers fs vs rest others
zero_texts_fields order numbers fields values bytes s = 0

-- The texts of a body that are spelled by a length of 0 alone.
abbrev pub zero_texts_of : (order : Order) (fields : List Field) (values : List Value) (tail bytes : List ℕ)
    → IsBody order fields values tail bytes → ℕ
zero_texts_of order fields values tail bytes body =
    zero_texts_fields order (map number_of values) fields values body.front body.spelled

-- A body as `measure` tells it: its values, the number of their links, and how many of their texts are spelled by a
-- length of 0 alone.
pub record IsMeasured (order : Order) (fields : List Field) (bytes : List ℕ) (links zero_texts : ℕ) : Type 0 where
  pub values : List Value
  pub tail : List ℕ
  pub body : IsBody order fields values tail bytes
  pub links_are : links ≡ length (links_in values)
  pub zero_texts_are : zero_texts ≡ zero_texts_of order fields values tail bytes body

-- some values and tail are spelled by the bytes
abbrev pub HasBody : Order → List Field → List ℕ → Type 0
HasBody order fields bytes = (values : List Value) × (tail : List ℕ) × IsBody order fields values tail bytes
