-- How the canonical table is written, field by field: what each field tells, and what the field has to be.
use Rattle.std.specs.Prelude.{◌≡◌, ◌≢◌, ℕ, ◌==◌, ◌*◌, ◌≤◌, Bool, List, [], ◌∷◌, length, map, find, flat_map}
use Rattle.std.specs.Prelude.{unwrap_or, Option, slice_index_or}
use Rattle.std.specs.Option.{option_map, option_map_or}
use Rattle.scalar_types.specs.declared.Order.TheVariants.{Little}
use Rattle.scalar_types.specs.declared.Width.{Width}
use Rattle.scalar_types.specs.declared.Width.TheVariants.{Eight}
use Rattle.scalar_types.specs.Number.{size_of}
use Rattle.record_values.specs.declared.values.Value.{Value}
use Rattle.record_values.specs.declared.values.Value.TheVariants as value
use Rattle.record_values.specs.Spelling.{IsClosedText}
use Rattle.layout_plan.specs.declared.fields.Form.{Form}
use Rattle.layout_plan.specs.declared.fields.Form.TheVariants.{Number, Pair, Text, Link}
use Rattle.layout_plan.specs.declared.fields.Field.{Field}
use Rattle.layout_plan.specs.Body.{number_of, item_count, IsFieldBy}
use Rattle.layout_plan.specs.Layout.{IsLayout}
use Rattle.contents_table.specs.declared.kind.Kind.{Kind}
use Rattle.contents_table.specs.declared.kind.Kind.TheVariants.{Adc, Proc, Sim, Ser}
use Rattle.contents_table.specs.declared.fit.KindFields.{KindFields}
use Rattle.contents_table.specs.declared.fit.TableLayout.{TableLayout}
use Rattle.contents_table.specs.declared.writing.Tells.{Tells}
use Rattle.contents_table.specs.declared.writing.Tells.TheVariants as told
use Rattle.contents_table.specs.declared.names.Listed.{Listed}
use Rattle.contents_table.specs.Built.{Built, listed_of, name_in}
use Rattle.contents_table.specs.Fit.{fields_of, IsTableLayout}
use Rattle.contents_table.specs.Told.{positions_of, blank_by, table_values}

-- ---- what each field tells

abbrev pub kind_tells : Kind → KindFields → List (ℕ × Tells)
kind_tells kind k =
    (k.count, told.Count kind) ∷ (k.names, told.Names kind) ∷ (
      k.positions,
      told.Positions kind
          k.by_name,
    ) ∷ []

abbrev pub tells_of : TableLayout → Kind → List (ℕ × Tells)
tells_of layout kind = option_map_or (kind_tells kind) (fields_of layout kind) []

-- the fields that tell something, by their numbers
abbrev pub tells : TableLayout → List (ℕ × Tells)
tells layout =
    (layout.frames, told.Frames) ∷ (layout.heads, told.Heads)
    ∷ flat_map (tells_of layout) (Adc ∷ Proc ∷ Sim ∷ Ser ∷ [])

abbrev pub is_of : ℕ → ℕ × Tells → Bool
is_of k t = t.0 == k

abbrev pub first_of_number : List (ℕ × Tells) → ℕ → Option Tells
first_of_number ts k = option_map (λ (t : ℕ × Tells). t.1) (find (is_of k) ts)

-- what the field of a number tells
abbrev pub told_in : TableLayout → ℕ → Tells
told_in layout k = unwrap_or (first_of_number (tells layout) k) told.Nothing

-- its value, or what is there else
abbrev pub told_value : Built → Tells → Value → Value
told_value built told.Nothing blank = blank
told_value built told.Frames blank = value.Num (length built.heads)
told_value built told.Heads blank = value.Nums built.heads
told_value built (told.Count kind) blank = value.Num (length (listed_of built kind))
told_value built (told.Names kind) blank = value.Texts (map name_in (listed_of built kind))
told_value built (told.Positions kind by_name) blank =
    value.Nums (positions_of by_name (length built.heads) (listed_of built kind)
    (map name_in (listed_of built kind)))

-- the value of a field, by what it tells and the numbers of the record
abbrev pub field_value : List ℕ → Built → Tells → Field → Value
field_value numbers built t f = told_value built t (blank_by numbers f.form f.counts)

-- the number of its value
abbrev pub told_number : Built → Tells → ℕ
told_number built told.Nothing = 0
told_number built told.Frames = length built.heads
told_number built told.Heads = 0
told_number built (told.Count kind) = length (listed_of built kind)
told_number built (told.Names kind) = 0
told_number built (told.Positions kind by_name) = 0

-- ---- what a field is that tells it

-- a single number of at least four bytes
pub record IsCounter (f : Field) : Type 0 where
  pub width : Width
  pub wide : 4 ≤ size_of width
  pub form_is : f.form ≡ Number width
  pub single : f.counts ≡ []

-- a list of so many items of this form
pub record IsListOf (numbers : List ℕ) (form : Form) (n : ℕ) (f : Field) : Type 0 where
  pub form_is : f.form ≡ form
  pub listed : f.counts ≢ []
  pub count : item_count numbers f.counts ≡ n

abbrev pub Suits : List ℕ → Built → Tells → Field → Type 0
Suits numbers built told.Nothing f = Unit {0}
Suits numbers built told.Frames f = IsCounter f
Suits numbers built told.Heads f = IsListOf numbers (Number Eight) (length built.heads) f
Suits numbers built (told.Count kind) f = IsCounter f
Suits numbers built (told.Names kind) f = IsListOf numbers Text (length (listed_of built kind)) f
Suits numbers built (told.Positions kind by_name) f =
    IsListOf numbers (Number Eight)
    (length (positions_of by_name (length built.heads) (listed_of built kind)
    (map name_in (listed_of built kind)))) f

-- The fields are those of a table's layout, and these the numbers of the canonical table's values.
pub record AreTold (fields : List Field) (layout : TableLayout) (built : Built) (numbers : List ℕ) : Type 0
  where
    pub fit : IsTableLayout fields layout
    pub sound : IsLayout fields
    pub numbers_are : numbers ≡ map number_of (table_values layout fields built)

-- ---- how it is spelled

abbrev pub name_of_number : List Listed → ℕ → List ℕ
name_of_number listed k = slice_index_or (map name_in listed) k []

-- the bytes of one item that tells nothing, and of a number
abbrev pub item_length : Form → ℕ
item_length (Number width) = size_of width
item_length (Pair width) = 2 * size_of width
item_length Text = 3
item_length Link = 6

-- the bytes are those of a field that tells this
abbrev pub IsToldField : List ℕ → Built → Tells → Field → List ℕ → Type 0
IsToldField numbers built t f bytes =
    IsFieldBy (IsClosedText Little) Little numbers f.form f.counts (field_value numbers built t f) bytes
