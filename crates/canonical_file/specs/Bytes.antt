-- The one spelling that a canonical file has for values, bodies, structures and entries: numbers in little-endian
-- order, each text closed by its zero byte, nothing after the fields of a record, and four zero bytes after those of a
-- structure of the dictionary (LIGO-T970130 v8: data types, STRING, PTR_STRUCT, FrSH, FrSE, and the elements that all
-- structures have in common).
use Rattle.std.specs.Prelude.{ℕ, ◌+◌, List, [], ◌∷◌, ◌++◌, length, flat_map}
use Rattle.scalar_types.specs.declared.Order.TheVariants.{Little}
use Rattle.scalar_types.specs.declared.Width.{Width}
use Rattle.scalar_types.specs.declared.Width.TheVariants.{Two, Four}
use Rattle.scalar_types.specs.Number.{bytes_of}
use Rattle.frame_head.specs.Structure.{common_bytes}
use Rattle.type_text.specs.declared.types.Link.{Link as StructLink}
use Rattle.record_values.specs.declared.values.Value.{Value}
use Rattle.record_values.specs.declared.values.Value.TheVariants as value
use Rattle.dictionary.specs.declared.entries.Element.{Element}
use Rattle.dictionary.specs.declared.entries.Entry.{Entry}
use Rattle.layout_plan.specs.declared.fields.Form.{Form}
use Rattle.layout_plan.specs.declared.fields.Form.TheVariants.{Number, Pair, Text, Link}
use Rattle.layout_plan.specs.declared.fields.Field.{Field}
use Rattle.layout_plan.specs.BuiltIn.{structure_fields, element_fields}

-- ---- values

-- a number of a width, the least byte first
abbrev pub number_bytes : Width → ℕ → List ℕ
number_bytes width n = bytes_of Little width n

-- the first number of a pair, then the second
abbrev pub pair_bytes : Width → ℕ × ℕ → List ℕ
pair_bytes width pair = number_bytes width pair.0 ++ number_bytes width pair.1

-- a text: the length that counts its closing zero byte, the text, the zero byte
abbrev pub text_bytes : List ℕ → List ℕ
text_bytes text = number_bytes Two (length text + 1) ++ text ++ 0 ∷ []

-- a link: its class, then its instance
abbrev pub link_bytes : StructLink → List ℕ
link_bytes link = number_bytes Two link.class ++ number_bytes Four link.instance

-- a value of a field of this form: of a list its items, one after another
abbrev pub value_bytes : Form → Value → List ℕ
value_bytes (Number width) (value.Num n) = number_bytes width n
value_bytes (Number width) (value.Bytes xs) = flat_map (number_bytes width) xs
value_bytes (Number width) (value.Nums xs) = flat_map (number_bytes width) xs
value_bytes (Pair width) (value.Pair a b) = pair_bytes width (a, b)
value_bytes (Pair width) (value.Pairs xs) = flat_map (pair_bytes width) xs
value_bytes Text (value.Text text) = text_bytes text
value_bytes Text (value.Texts xs) = flat_map text_bytes xs
value_bytes Link (value.Link link) = link_bytes link
value_bytes Link (value.Links xs) = flat_map link_bytes xs
value_bytes form v = []

-- a body: the values in the order of their fields
abbrev pub body_bytes : List Field → List Value → List ℕ
body_bytes (f ∷ fs) (v ∷ vs) = value_bytes f.form v ++ body_bytes fs vs
body_bytes fields values = []

-- ---- structures

-- a structure of this class, instance and body: the length of the whole and no check sum before them
abbrev pub structure_bytes : ℕ → ℕ → List ℕ → List ℕ
structure_bytes class instance body =
    common_bytes Little (record { length = 14 + length body; check = 0; class = class; instance = instance }) ++ body

-- ---- entries

abbrev pub four_zeros : List ℕ
four_zeros = 0 ∷ 0 ∷ 0 ∷ 0 ∷ []

-- FrSH: the name of a structure, its class and its comment
abbrev pub head_body : Entry → List ℕ
head_body e =
    body_bytes structure_fields (value.Text e.name ∷ value.Num e.class ∷ value.Text e.comment ∷ []) ++ four_zeros

-- FrSE: the name of an element, its type's text and its comment
abbrev pub element_body : Element → List ℕ
element_body e =
    body_bytes element_fields (value.Text e.name ∷ value.Text e.text ∷ value.Text e.comment ∷ []) ++ four_zeros

-- the FrSEs of elements, of which the first has this number in its entry
abbrev pub elements_bytes : ℕ → List Element → List ℕ
elements_bytes k [] = []
elements_bytes k (e ∷ es) = structure_bytes 2 k (element_body e) ++ elements_bytes (k + 1) es

-- An entry, by the number of those before it in the file: its FrSH, and an FrSE for each of its elements.
abbrev pub entry_bytes : ℕ → Entry → List ℕ
entry_bytes k e = structure_bytes 1 k (head_body e) ++ elements_bytes 0 e.elements
