-- The label of a record: all that it holds but its links, its instance, its check sum and the bytes after its fields.
use Rattle.std.specs.Prelude.{List, [], map, Option}
use Rattle.std.specs.Option.{option_map_or}
use Rattle.type_text.specs.declared.types.Link.{Link}
use Rattle.type_text.specs.TypeText.{printed_type}
use Rattle.record_values.specs.declared.values.Value.{Value}
use Rattle.record_values.specs.Links.{links_of, linked_value}
use Rattle.dictionary.specs.declared.entries.Element.{Element}
use Rattle.dictionary.specs.declared.entries.Entry.{Entry}
use Rattle.layout_plan.specs.Written.{with_sums_cleared}
use Rattle.file_grammar.specs.Record.{Reading}

-- an entry as it is written again: the text of each type is the printed one
abbrev pub printed_element : Element → Element
printed_element e = record e { text = option_map_or printed_type e.ty e.text }

abbrev pub printed_entry : Entry → Entry
printed_entry e = record e { elements = map printed_element e.elements }

abbrev pub null_link : Link
null_link = record { class = 0; instance = 0 }

abbrev pub nullified : Link → Link
nullified link = null_link

-- a value with its links null
abbrev pub unlinked : Value → Value
unlinked v = linked_value v (map nullified (links_of v))

-- The label of a record: its entry, with all comments and printed types, and its values, the links null and the check
-- sum 0.
pub record Label : Type 0 where
  pub entry : Entry
  pub values : List Value

-- what stands for the entry of a class that is not held
abbrev pub no_entry : Entry
no_entry = record { class = 0; name = []; comment = []; elements = [] }

abbrev pub no_label : Label
no_label = record { entry = no_entry; values = [] }

-- the values of a label by what a body holds
abbrev pub label_values : Reading → List Value
label_values reading = with_sums_cleared reading.fields (map unlinked reading.values)

-- the label by an entry and what a body holds; a body that does not read has no values
abbrev pub label_by : Option Entry → Option Reading → Label
label_by entry reading = record {
  entry = option_map_or printed_entry entry no_entry;
  values = option_map_or label_values reading [];
}
