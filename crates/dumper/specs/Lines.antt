-- The lines that are printed of a file: its byte order, and then those of each item.
use Rattle.std.specs.Prelude.{ℕ, List, [], ◌∷◌, ◌++◌, length, codes, Option, Some, None, if◌then◌else◌}
use Rattle.std.specs.Option.{option_map_or}
use Rattle.std.specs.List.{flat_map}
use Rattle.std.specs.Fmt.{decimal}
use Rattle.scalar_types.specs.declared.Order.{Order}
use Rattle.scalar_types.specs.declared.Order.TheVariants.{Big, Little}
use Rattle.type_text.specs.declared.types.Base.{Base}
use Rattle.type_text.specs.declared.types.Base.TheVariants.{Str}
use Rattle.type_text.specs.declared.types.ElementType.{ElementType}
use Rattle.record_values.specs.declared.values.Value.{Value}
use Rattle.dictionary.specs.declared.entries.Element.{Element}
use Rattle.dictionary.specs.declared.entries.Entry.{Entry}
use Rattle.dictionary.specs.Dictionary.{entry_of}
use Rattle.layout_plan.specs.declared.fields.Field.{Field}
use Rattle.file_grammar.specs.Structure.{Structure, size_of, end_of}
use Rattle.file_grammar.specs.Kind.{kind_of, is_file_end_kind}
use Rattle.file_grammar.specs.Record.{Reading, reading_by, layout_in}
use Rattle.file_grammar.specs.Fault.{is_empty}
use Rattle.file_grammar.specs.Item.{Item, EntryItem, OtherItem, Before, after}
use Rattle.dumper.specs.Printed.{escaped, value_text}

-- ---- the file

abbrev pub order_name : Order → List ℕ
order_name Big = codes "big"
order_name Little = codes "little"

-- the first line
abbrev pub heading : Order → List ℕ
heading order = codes "file order " ++ (order_name order ++ codes "\n")

-- ---- entries

-- an element: its name, and its type's text as it stands
abbrev pub element_line : Element → List ℕ
element_line e = codes "  " ++ (escaped e.name ++ (codes " " ++ (escaped e.text ++ codes "\n")))

abbrev pub entry_line : Entry → List ℕ
entry_line e =
    codes "entry " ++ (decimal e.class ++ (codes " " ++ (escaped e.name ++ (codes " elements "
    ++ (decimal (length e.elements) ++ codes "\n")))))

abbrev pub entry_text : Entry → List ℕ
entry_text e = entry_line e ++ flat_map element_line e.elements

-- ---- other structures

-- what one item of an element is; an element of a readable layout has a type
abbrev pub base_of : Element → Base
base_of e = option_map_or (λ (ty : ElementType). ty.base) e.ty Str

-- a field: the element's name, and the value
abbrev pub field_line : Element → Value → List ℕ
field_line e v = codes "  " ++ (escaped e.name ++ (codes " = " ++ (value_text (base_of e) v ++ codes "\n")))

-- the fields, one after another
abbrev pub fields_text : List Element → List Value → List ℕ
fields_text (e ∷ es) (v ∷ vs) = field_line e v ++ fields_text es vs
fields_text es vs = []

-- the four bytes that no field spells
abbrev pub tail_text : List ℕ → List ℕ
tail_text tail = if is_empty tail then [] else codes "  tail 4\n"

-- what a body holds
abbrev pub reading_text : List Element → Reading → List ℕ
reading_text elements reading = fields_text elements reading.values ++ tail_text reading.tail

-- a body by its layout, or that it does not read
abbrev pub body_text : Order → List Element → Option (List Field) → List ℕ → List ℕ
body_text order elements None body = codes "  unread\n"
body_text order elements (Some fields) body =
    option_map_or (reading_text elements) (reading_by order body fields) (codes "  unread\n")

-- the name and the elements that the dictionary has for a class
abbrev pub name_of : List Entry → ℕ → List ℕ
name_of held class = option_map_or (λ (e : Entry). e.name) (entry_of held class) []

abbrev pub elements_of : List Entry → ℕ → List Element
elements_of held class = option_map_or (λ (e : Entry). e.elements) (entry_of held class) []

-- a structure's first line: where it stands, what it is, and how long
abbrev pub class_text : List ℕ → ℕ → List ℕ
class_text name class =
    codes " " ++ (escaped name ++ (codes " class " ++ (decimal class ++ codes " instance ")))

abbrev pub structure_line : List ℕ → ℕ → ℕ → ℕ → ℕ → List ℕ
structure_line name at class instance length =
    codes "record at " ++ (decimal at ++ (class_text name class ++ (decimal instance
    ++ (codes " length " ++ (decimal length ++ codes "\n")))))

-- a structure of this place, class, instance, length and body
abbrev pub structure_text : Order → List Entry → ℕ → ℕ → ℕ → ℕ → List ℕ → List ℕ
structure_text order held at class instance length body =
    structure_line (name_of held class) at class instance length
    ++ body_text order (elements_of held class) (layout_in held class) body

-- the last line: the bytes of the file
abbrev pub end_line : ℕ → List ℕ
end_line bytes = codes "end bytes " ++ (decimal bytes ++ codes "\n")

-- ---- items

abbrev pub end_text : List Entry → Structure → List ℕ
end_text held s = if is_file_end_kind (kind_of held s.class) then end_line (end_of s) else []

abbrev pub item_text : Order → List Entry → Item → List ℕ
item_text order held (EntryItem head run entry) = entry_text entry
item_text order held (OtherItem s) =
    structure_text order held s.at s.class s.instance (size_of s) s.body ++ end_text held s

-- the items from a place on
abbrev pub items_text : Order → Before → List Item → List ℕ
items_text order b [] = []
items_text order b (item ∷ items) =
    item_text order b.dictionary item ++ items_text order (after order b item) items
