-- What a structure's body holds by the dictionary, its weight, and the targets of its links.
use Rattle.std.specs.Prelude.{◌≡◌, ℕ, ◌+◌, ◌==◌, ◌&&◌, ◌⊎◌, Bool, not, List, [], ◌∷◌, length, All, Any, find, is_some}
use Rattle.std.specs.Prelude.{Option, Some, None, option_and_then}
use Rattle.std.specs.Option.{option_map, option_map_or}
use Rattle.std.specs.Result.{result_ok}
use Rattle.scalar_types.specs.declared.Order.{Order}
use Rattle.type_text.specs.declared.types.Link.{Link}
use Rattle.record_values.specs.declared.values.Value.{Value}
use Rattle.record_values.specs.Links.{links_in}
use Rattle.dictionary.specs.declared.entries.Entry.{Entry}
use Rattle.dictionary.specs.Dictionary.{entry_of}
use Rattle.layout_plan.specs.declared.fields.Field.{Field}
use Rattle.layout_plan.specs.declared.links.FieldLink.{FieldLink}
use Rattle.layout_plan.specs.Layout.{layout_of}
use Rattle.layout_plan.specs.Body.{values_length}
use Rattle.layout_plan.specs.Reading.{body_in}
use Rattle.layout_plan.specs.Links.{field_links}
use Rattle.file_grammar.specs.Structure.{Structure, size_of}

-- the layout of a class, where the class is held and its layout is readable
abbrev pub layout_in : List Entry → ℕ → Option (List Field)
layout_in held class = option_and_then (λ e. layout_of e.elements) (entry_of held class)

-- what a body holds: the values of the fields, and the tail after them
pub record Reading : Type 0 where
  pub fields : List Field
  pub values : List Value
  pub tail : List ℕ

-- what a body holds by a layout, where it spells it
abbrev pub reading_by : Order → List ℕ → List Field → Option Reading
reading_by order body fields =
    option_map (λ found. record { fields = fields; values = found.0; tail = found.1 })
    (result_ok (body_in order fields body))

-- what a structure's body holds by the layout of its class, where it spells it
abbrev pub reading_of : Order → List Entry → Structure → Option Reading
reading_of order held s = option_and_then (reading_by order s.body) (layout_in held s.class)

-- its values
abbrev pub values_of : Order → List Entry → Structure → List Value
values_of order held s = option_map_or (λ reading. reading.values) (reading_of order held s) []

-- The weight of a structure is its length, and one more for each text that is spelled by a length of 0 alone: so the
-- length that it has with each text closed by its zero byte. The weight of one whose body is not read is its length.
abbrev pub weight_of : Order → List Entry → Structure → ℕ
weight_of order held s =
    option_map_or (λ reading. 14 + (values_length reading.fields reading.values + length reading.tail))
    (reading_of order held s) (size_of s)

-- the structure is the one with a link's class and instance
abbrev pub is_target : Link → Structure → Bool
is_target link s = s.class == link.class && s.instance == link.instance

-- some structure of the frame is
abbrev pub has_target : List Structure → Link → Bool
has_target frame link = is_some (find (is_target link) frame)

-- the link is not null and has no target in the frame; the null link is the one of class 0
abbrev pub is_loose : List Structure → Link → Bool
is_loose frame link = not (link.class == 0) && not (has_target frame link)

-- the field of the first of these links that is loose
abbrev pub loose_field : List Structure → List FieldLink → Option ℕ
loose_field frame links =
    option_map (λ (found : FieldLink). found.field) (find (λ (found : FieldLink). is_loose frame found.link) links)

-- The place and the field of the first loose link of these records: in the order of the file, within a record in that
-- of its fields, and within a field in that of its items.
abbrev pub first_loose : Order → List Entry → List Structure → List Structure → Option (ℕ × ℕ)
first_loose order held frame [] = None
first_loose order held frame (s ∷ ss) =
    option_map_or (λ field. Some (s.at, field)) (loose_field frame (field_links 0 (values_of order held s)))
    (first_loose order held frame ss)

-- a link that is null or leads to a record of the frame
abbrev pub HasTarget : List Structure → Link → Type 0
HasTarget frame link = (link.class ≡ 0) ⊎ Any (λ s. (s.class ≡ link.class) × (s.instance ≡ link.instance)) frame

-- each link of each of these records does
abbrev pub AreLinked : Order → List Entry → List Structure → List Structure → Type 0
AreLinked order held frame records = All (λ s. All (HasTarget frame) (links_in (values_of order held s))) records
