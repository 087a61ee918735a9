-- What the canonical table tells: some of its fields by number, and nothing in all others.
use Rattle.std.specs.Prelude.{ℕ, ◌==◌, ◌+◌, Bool, if◌then◌else◌, List, [], ◌∷◌, ◌++◌, length, map, find, flat_map}
use Rattle.std.specs.Prelude.{replicate}
use Rattle.std.specs.Option.{option_map_or}
use Rattle.scalar_types.specs.declared.Width.TheVariants.{One}
use Rattle.record_values.specs.declared.values.Value.{Value}
use Rattle.record_values.specs.declared.values.Value.TheVariants as value
use Rattle.layout_plan.specs.declared.fields.Form.{Form}
use Rattle.layout_plan.specs.declared.fields.Form.TheVariants.{Number, Pair, Text, Link}
use Rattle.layout_plan.specs.declared.fields.Count.{Count}
use Rattle.layout_plan.specs.declared.fields.Field.{Field}
use Rattle.layout_plan.specs.Body.{number_of, item_count, values_length}
use Rattle.frame_content.specs.Labels.{null_link}
use Rattle.contents_table.specs.declared.names.Listed.{Listed}
use Rattle.contents_table.specs.declared.kind.Kind.{Kind}
use Rattle.contents_table.specs.declared.kind.Kind.TheVariants.{Adc, Proc, Sim, Ser}
use Rattle.contents_table.specs.declared.fit.KindFields.{KindFields}
use Rattle.contents_table.specs.declared.fit.TableLayout.{TableLayout}
use Rattle.contents_table.specs.Built.{Built, listed_of, name_in, position_in, numbers_below}
use Rattle.contents_table.specs.Fit.{fields_of}

-- ---- fields that tell nothing

-- a single one: zero, empty or null
abbrev pub blank_single : Form → Value
blank_single (Number width) = value.Num 0
blank_single (Pair width) = value.Pair 0 0
blank_single Text = value.Text []
blank_single Link = value.Link null_link

-- a list of so many
abbrev pub blank_listed : Form → ℕ → Value
blank_listed (Number One) n = value.Bytes (replicate n 0)
blank_listed (Number width) n = value.Nums (replicate n 0)
blank_listed (Pair width) n = value.Pairs (replicate n (0, 0))
blank_listed Text n = value.Texts (replicate n [])
blank_listed Link n = value.Links (replicate n null_link)

-- it has as many items as its dimensions say, by the numbers of the fields before it
abbrev pub blank_by : List ℕ → Form → List Count → Value
blank_by numbers form [] = blank_single form
blank_by numbers form (c ∷ cs) = blank_listed form (item_count numbers (c ∷ cs))

-- ---- values of which some are told

-- the value told of a field, by the field's number, or what is there else
abbrev pub told_at : List (ℕ × Value) → ℕ → Value → Value
told_at told k blank = option_map_or (λ (t : ℕ × Value). t.1) (find (λ (t : ℕ × Value). t.0 == k) told) blank

-- the values of the fields after those with these numbers
unfoldable pub values_after : List (ℕ × Value) → List ℕ → List Field → List Value
values_after told numbers [] = []
values_after told numbers (f ∷ fs) =
    told_at told (length numbers) (blank_by numbers f.form f.counts)
    ∷ values_after told (numbers ++ number_of (told_at told (length numbers) (blank_by numbers f.form f.counts))
    ∷ []) fs

-- The values of a record that tells these fields and no other.
abbrev pub values_told : List (ℕ × Value) → List Field → List Value
values_told told fields = values_after told [] fields

-- ---- the table

-- the positions of these names: those of one name together, or those of one frame
abbrev pub positions_of : Bool → ℕ → List Listed → List (List ℕ) → List ℕ
positions_of by_name frames listed names =
    if by_name then flat_map (λ name. map (position_in listed name) (numbers_below frames)) names
    else flat_map (λ frame. map (λ name. position_in listed name frame) names) (numbers_below frames)

-- what the fields of a kind tell
abbrev pub kind_told : ℕ → List Listed → KindFields → List (ℕ × Value)
kind_told frames listed k =
    (k.count, value.Num (length listed)) ∷ (k.names, value.Texts (map name_in listed))
    ∷ (k.positions, value.Nums (positions_of k.by_name frames listed (map name_in listed))) ∷ []

abbrev pub kind_told_by : TableLayout → Built → Kind → List (ℕ × Value)
kind_told_by layout built kind =
    option_map_or (kind_told (length built.heads) (listed_of built kind)) (fields_of layout kind) []

-- What the table of these frames tells.
abbrev pub table_told : TableLayout → Built → List (ℕ × Value)
table_told layout built =
    (layout.frames, value.Num (length built.heads)) ∷ (layout.heads, value.Nums built.heads)
    ∷ flat_map (kind_told_by layout built) (Adc ∷ Proc ∷ Sim ∷ Ser ∷ [])

abbrev pub table_values : TableLayout → List Field → Built → List Value
table_values layout fields built = values_told (table_told layout built) fields

-- the bytes of the whole record
abbrev pub table_size : TableLayout → List Field → Built → ℕ
table_size layout fields built = 14 + values_length fields (table_values layout fields built)
