-- What small bodies hold by the definitions.
use Rattle.std.proofs.Common.{false, ◌≡◌, ℕ, List, [], ◌∷◌, Ok, Err, refl}
use Rattle.scalar_types.specs.declared.Order.TheVariants.{Big, Little}
use Rattle.scalar_types.specs.declared.Width.TheVariants.{One, Two, Four, Eight}
use Rattle.record_values.specs.declared.values.Value.TheVariants as value
use Rattle.layout_plan.specs.declared.fields.Form.{Form}
use Rattle.layout_plan.specs.declared.fields.Form.TheVariants.{Number, Pair, Text, Link}
use Rattle.layout_plan.specs.declared.fields.Count.TheVariants.{Of}
use Rattle.layout_plan.specs.declared.fields.Field.{Field}
use Rattle.layout_plan.specs.declared.faults.BodyReason.TheVariants.{BodyShort, BodyLong, BadText}
use Rattle.layout_plan.specs.declared.marks.Mark.{Mark}
use Rattle.layout_plan.specs.Reading.{body_in, items_in}
use Rattle.layout_plan.specs.Marks.{is_varied, numbers_where, marks_from, first_mark, mark_of, place_of}

single : Form → List Field
single form = record { form = form; counts = []; is_sum = false } ∷ []

-- two numbers of eight bytes, and a list of numbers of two bytes with these two as dimensions
table : List Field
table =
    record { form = Number Eight; counts = []; is_sum = false }
    ∷ record { form = Number Eight; counts = []; is_sum = false }
    ∷ record { form = Number Two; counts = Of 0 ∷ Of 1 ∷ []; is_sum = false } ∷ []

-- 2^64 - 1 times 2 items, and no byte for them
table-short : body_in Little table (255 ∷ 255 ∷ 255 ∷ 255 ∷ 255 ∷ 255 ∷ 255 ∷ 255 ∷ 2 ∷ 0 ∷ 0 ∷ 0 ∷ 0 ∷ 0 ∷ 0 ∷ 0 ∷ [])
    ≡ Err (record { field = 2; reason = BodyShort })
unfolding body_in items_in table
table-short = refl

-- 2^64 - 1 times 0 items
table-empty : body_in Little table (255 ∷ 255 ∷ 255 ∷ 255 ∷ 255 ∷ 255 ∷ 255 ∷ 255 ∷ 0 ∷ 0 ∷ 0 ∷ 0 ∷ 0 ∷ 0 ∷ 0 ∷ 0 ∷ [])
    ≡ Ok (value.Num 18446744073709551615 ∷ value.Num 0 ∷ value.Nums [] ∷ [], [])
unfolding body_in items_in table
table-empty = refl

table-two : body_in Little table (2 ∷ 0 ∷ 0 ∷ 0 ∷ 0 ∷ 0 ∷ 0 ∷ 0 ∷ 1 ∷ 0 ∷ 0 ∷ 0 ∷ 0 ∷ 0 ∷ 0 ∷ 0 ∷ 1 ∷ 0 ∷ 2 ∷ 0 ∷ [])
    ≡ Ok (value.Num 2 ∷ value.Num 1 ∷ value.Nums (1 ∷ 2 ∷ []) ∷ [], [])
unfolding body_in items_in table
table-two = refl

table-big : body_in Big table (0 ∷ 0 ∷ 0 ∷ 0 ∷ 0 ∷ 0 ∷ 0 ∷ 2 ∷ 0 ∷ 0 ∷ 0 ∷ 0 ∷ 0 ∷ 0 ∷ 0 ∷ 1 ∷ 0 ∷ 1 ∷ 0 ∷ 2 ∷ [])
    ≡ Ok (value.Num 2 ∷ value.Num 1 ∷ value.Nums (1 ∷ 2 ∷ []) ∷ [], [])
unfolding body_in items_in table
table-big = refl

number-tail : body_in Little (single (Number One)) (5 ∷ 0 ∷ 0 ∷ 0 ∷ 0 ∷ []) ≡ Ok (value.Num 5 ∷ [], 0 ∷ 0 ∷ 0 ∷ 0 ∷ [])
unfolding body_in single
number-tail = refl

number-long : body_in Little (single (Number One)) (5 ∷ 0 ∷ 0 ∷ []) ≡ Err (record { field = 1; reason = BodyLong })
unfolding body_in single
number-long = refl

text-bare : body_in Little (single Text) (0 ∷ 0 ∷ []) ≡ Ok (value.Text [] ∷ [], [])
unfolding body_in single
text-bare = refl

text-unended : body_in Little (single Text) (1 ∷ 0 ∷ 65 ∷ []) ≡ Err (record { field = 0; reason = BadText })
unfolding body_in single
text-unended = refl

text-cut : body_in Little (single Text) (3 ∷ 0 ∷ 65 ∷ 0 ∷ []) ≡ Err (record { field = 0; reason = BodyShort })
unfolding body_in single
text-cut = refl

text-closed : body_in Little (single Text) (2 ∷ 0 ∷ 65 ∷ 0 ∷ []) ≡ Ok (value.Text (65 ∷ []) ∷ [], [])
unfolding body_in single
text-closed = refl

pair-complex : body_in Little (single (Pair Four)) (0 ∷ 0 ∷ 128 ∷ 63 ∷ 0 ∷ 0 ∷ 0 ∷ 64 ∷ [])
    ≡ Ok (value.Pair 0x3f80_0000 0x4000_0000 ∷ [], [])
unfolding body_in single
pair-complex = refl

-- a number of two bytes, a text, a number of four, a link, and a list that counts by the first field
five : List Field
five =
    record { form = Number Two; counts = []; is_sum = false } ∷ record { form = Text; counts = []; is_sum = false }
    ∷ record { form = Number Four; counts = []; is_sum = false } ∷ record { form = Link; counts = []; is_sum = false }
    ∷ record { form = Number Two; counts = Of 0 ∷ []; is_sum = false } ∷ []

mark : ℕ → ℕ → Mark
mark varied skip = record { varied = varied; skip = skip }

-- where these fields stand, and where they end
five-marks : marks_from first_mark five ≡ mark 0 0 ∷ mark 0 2 ∷ mark 1 0 ∷ mark 1 4 ∷ mark 1 10 ∷ mark 2 0 ∷ []
unfolding five mark
five-marks = refl

five-varied : numbers_where is_varied 0 five ≡ 1 ∷ 4 ∷ []
unfolding five
five-varied = refl

-- the link stands four bytes after the text, which ends at 9
five-link : place_of (9 ∷ 23 ∷ []) (mark_of five 3) ≡ 13
unfolding five
five-link = refl
