-- Of the inside. The steps of a walk over the varied fields, made of the fields once.
use Rattle.std.specs.Prelude.{◌≡◌, ◌≤◌, ◌<◌, ℕ, Bool, true, false, if◌then◌else◌, All, ◌+◌, ◌-◌, ◌*◌, ◌^◌, min, List}
use Rattle.std.specs.Prelude.{[]}
use Rattle.std.specs.Prelude.{◌∷◌, ◌++◌, length, map, take, slice_index_or}
use Rattle.std.specs.Prelude.{drop, slice_get, Option, Some, None, option_and_then}
use Rattle.std.specs.Option.{option_map_or}
use Rattle.std.specs.List.{list_all}
use Rattle.scalar_types.specs.declared.Order.{Order}
use Rattle.scalar_types.specs.declared.Width.{Width}
use Rattle.scalar_types.specs.Number.{number, size_of}
use Rattle.layout_plan.specs.declared.fields.Form.{Form}
use Rattle.layout_plan.specs.declared.fields.Form.TheVariants.{Number, Pair, Text, Link}
use Rattle.layout_plan.specs.declared.fields.Count.{Count}
use Rattle.layout_plan.specs.declared.fields.Count.TheVariants.{Fixed, Of, OfSigned}
use Rattle.layout_plan.specs.declared.fields.Field.{Field}
use Rattle.layout_plan.specs.declared.marks.Mark.{Mark}
use Rattle.layout_plan.specs.declared.steps.Items.{Items}
use Rattle.layout_plan.specs.declared.steps.Items.TheVariants.{OneText, Texts, Plain}
use Rattle.layout_plan.specs.declared.steps.Counter.{Counter}
use Rattle.layout_plan.specs.declared.steps.Step.{Step}
use Rattle.layout_plan.specs.Layout.{IsLayout}
use Rattle.layout_plan.specs.Links.{is_link}
use Rattle.layout_plan.specs.Body.{signed_count, item_count}
use Rattle.layout_plan.specs.Marks.{product_by, numeral_of, is_varied, numbers_where, first_mark, marks_from}
use Rattle.layout_plan.specs.Marks.{mark_of, place_of}

-- the width of one number
abbrev pub single_width : Form → List Count → Option Width
single_width (Number width) [] = Some width
single_width form counts = None

-- what the bytes of a varied field are
abbrev pub items_of : Form → List Count → Items
items_of (Number width) counts = Plain
items_of (Pair width) counts = Plain
items_of Link counts = Plain
items_of Text [] = OneText
items_of Text (c ∷ cs) = Texts

-- what a step counts for one item: its bytes, or 1 where it is a text
abbrev pub unit_of : Form → ℕ
unit_of (Number width) = size_of width
unit_of (Pair width) = 2 * size_of width
unit_of Link = 6
unit_of Text = 1

-- the counter of a dimension that names field k
abbrev pub width_at : List Field → ℕ → Option Width
width_at fields k = option_and_then (λ (f : Field). single_width f.form f.counts) (slice_get fields k)

abbrev pub counter_of : List Field → ℕ → Option Width → Counter
counter_of fields k signed = record { mark = mark_of fields k; width = width_at fields k; signed = signed }

-- the counters of a dimension, and of all
abbrev pub counters_by : List Field → Count → List Counter
counters_by fields (Fixed n) = []
counters_by fields (Of k) = counter_of fields k None ∷ []
counters_by fields (OfSigned k width) = counter_of fields k (Some width) ∷ []

abbrev pub counters_of : List Field → List Count → List Counter
counters_of fields [] = []
counters_of fields (c ∷ cs) = counters_by fields c ++ counters_of fields cs

-- the step of field k
abbrev pub step_of : List Field → ℕ → Field → Step
step_of fields k f =
    record {
      field = k;
      mark = mark_of fields k;
      items = items_of f.form f.counts;
      factor = min (product_by numeral_of f.counts * unit_of f.form) (2 ^ 64 - 1);
      counters = counters_of fields f.counts;
    }

abbrev pub no_step : Step
no_step = record { field = 0; mark = first_mark; items = OneText; factor = 0; counters = [] }

abbrev pub step_at : List Field → ℕ → Step
step_at fields k = option_map_or (step_of fields k) (slice_get fields k) no_step

-- the steps of the varied fields, in order
abbrev pub steps_of : List Field → List Step
steps_of fields = map (step_at fields) (numbers_where is_varied 0 fields)

-- the number at the front of the bytes, where it has a width
abbrev pub number_by : Order → Option Width → List ℕ → ℕ
number_by order (Some width) bytes = number order (take (size_of width) bytes)
number_by order None bytes = 0

-- what a number counts
abbrev pub count_of_number : Option Width → ℕ → ℕ
count_of_number (Some width) n = signed_count width n
count_of_number None n = n

-- what a counter counts, by the ends of the varied fields
abbrev pub counter_value : Order → List ℕ → List ℕ → Counter → ℕ
counter_value order body ends c = count_of_number c.signed (number_by order c.width (drop (place_of ends c.mark) body))

-- what counters count together, as far as it fits
abbrev pub counted_by : Order → List ℕ → List ℕ → List Counter → ℕ
counted_by order body ends counters = min (product_by (counter_value order body ends) counters) (2 ^ 64 - 1)

-- what a step counts: bytes, or texts
abbrev pub step_count : Order → List ℕ → List ℕ → Step → ℕ
step_count order body ends s = s.factor * product_by (counter_value order body ends) s.counters

-- the bytes or texts of a field, as far as the greatest number tells: all its items
abbrev pub IsAmount : ℕ → List ℕ → Field → Type 0
IsAmount n numbers f = min n (2 ^ 64 - 1) ≡ min (item_count numbers f.counts * unit_of f.form) (2 ^ 64 - 1)

-- a field that is no list of links
abbrev pub has_no_counts : List Count → Bool
has_no_counts [] = true
has_no_counts (c ∷ cs) = false

abbrev pub is_plain : Field → Bool
is_plain f = if is_link f then has_no_counts f.counts else true

-- of each step, whether it has the counters of the step before it
pub record AreRepeats (steps : List Step) (repeats : List Bool) : Type 0 where
  pub many : length repeats ≡ length steps
  pub first : slice_index_or repeats 0 false ≡ false
  pub same : (j : ℕ) → j + 1 < length steps → slice_index_or repeats (j + 1) false ≡ true
      → (slice_index_or steps j no_step).counters ≡ (slice_index_or steps (j + 1) no_step).counters

-- what a plan keeps of its fields
pub record ArePlanned (fields : List Field) (steps : List Step) (repeats : List Bool) (marks : List Mark)
    (links : List ℕ) (plain : Bool) : Type 0 where
  pub layout : IsLayout fields
  pub steps_are : steps ≡ steps_of fields
  pub repeats_are : AreRepeats steps repeats
  pub marks_are : marks ≡ marks_from first_mark fields
  pub links_are : links ≡ numbers_where is_link 0 fields
  pub plain_are : plain ≡ list_all is_plain fields

-- a step of these fields
pub record IsStep (fields : List Field) (s : Step) : Type 0 where
  pub field : Field
  pub is : slice_get fields s.field ≡ Some field
  pub varied : is_varied field ≡ true
  pub made : s ≡ step_of fields s.field field

-- a number of this width stands at the front of the bytes
abbrev pub HasRoom : Option Width → List ℕ → Type 0
HasRoom (Some width) bytes = size_of width ≤ length bytes
HasRoom None bytes = Unit {0}

-- the number of a counter stands in the body, by the ends of the varied fields
pub record IsThere (body ends : List ℕ) (c : Counter) : Type 0 where
  pub room : c.mark.varied ≤ length ends
  pub within : place_of ends c.mark ≤ length body
  pub whole : HasRoom c.width (drop (place_of ends c.mark) body)

abbrev pub AreThere : List ℕ → List ℕ → List Counter → Type 0
AreThere body ends counters = All (IsThere body ends) counters
