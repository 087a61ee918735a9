-- Of the inside. Where fields stand: marks that tell a field's place from the ends of the fields whose bytes a body
-- alone tells.
use Rattle.std.specs.Prelude.{ℕ, zero, suc, ◌+◌, ◌-◌, ◌*◌, ◌^◌, min, nat_le, Bool, true, false, option_and_then}
use Rattle.std.specs.Prelude.{if◌then◌else◌, List, [], ◌∷◌, Option, Some, None, is_none, slice_index}
use Rattle.scalar_types.specs.Number.{size_of}
use Rattle.layout_plan.specs.declared.fields.Form.{Form}
use Rattle.layout_plan.specs.declared.fields.Form.TheVariants.{Number, Pair, Text, Link}
use Rattle.layout_plan.specs.declared.fields.Count.{Count}
use Rattle.layout_plan.specs.declared.fields.Count.TheVariants.{Fixed, Of, OfSigned}
use Rattle.layout_plan.specs.declared.fields.Field.{Field}
use Rattle.layout_plan.specs.declared.marks.Mark.{Mark}

-- the product of what is told of each of some
abbrev pub product_by : {X : Type 0} → (X → ℕ) → List X → ℕ
product_by f [] = 1
product_by f (x ∷ xs) = f x * product_by f xs

-- the numeral of a dimension; a name has none
abbrev pub numeral_of : Count → ℕ
numeral_of (Fixed n) = n
numeral_of (Of k) = 1
numeral_of (OfSigned k width) = 1

-- the product of the numerals, as far as it fits
abbrev pub factor_of : List Count → ℕ
factor_of counts = min (product_by numeral_of counts) (2 ^ 64 - 1)

-- whether all dimensions are numerals
abbrev pub are_numerals : List Count → Bool
are_numerals [] = true
are_numerals (Fixed n ∷ cs) = are_numerals cs
are_numerals (Of k ∷ cs) = false
are_numerals (OfSigned k width ∷ cs) = false

-- the bytes of an item of fixed size
abbrev pub item_size : Form → Option ℕ
item_size (Number width) = Some (size_of width)
item_size (Pair width) = Some (2 * size_of width)
item_size Link = Some 6
item_size Text = None

-- the bytes of so many items of a size, where they are 4,096 at most
abbrev pub short_list : ℕ → ℕ → Option ℕ
short_list n size = if nat_le (n * size) 4096 then Some (n * size) else None

-- the bytes of a field of fixed width: one without dimension, or with numerals alone, that has no text and is not long
abbrev pub fixed_width : Form → List Count → Option ℕ
fixed_width form [] = item_size form
fixed_width form (c ∷ cs) =
    if are_numerals (c ∷ cs)
    then option_and_then (short_list (product_by numeral_of (c ∷ cs))) (item_size form) else None

-- a varied field: a text, a long list or one that numbers count
abbrev pub is_varied : Field → Bool
is_varied f = is_none (fixed_width f.form f.counts)

-- The numbers of the fields that are such, in their order. The first field's number is i.
abbrev pub numbers_where : (Field → Bool) → ℕ → List Field → List ℕ
numbers_where such i [] = []
numbers_where such i (f ∷ fs) =
    if such f then i ∷ numbers_where such (i + 1) fs else numbers_where such (i + 1) fs

-- the mark after a field of this width: the same varied fields stand before it, and so many more bytes; or one more
-- varied field
abbrev pub past : Mark → Option ℕ → Mark
past mark (Some width) = record { varied = mark.varied; skip = mark.skip + width }
past mark None = record { varied = mark.varied + 1; skip = 0 }

-- the marks of the fields and of the place after them, from the first's mark
abbrev pub marks_from : Mark → List Field → List Mark
marks_from mark [] = mark ∷ []
marks_from mark (f ∷ fs) = mark ∷ marks_from (past mark (fixed_width f.form f.counts)) fs

-- the mark of the k-th of the fields, from the first's mark
abbrev pub mark_from : Mark → List Field → ℕ → Mark
mark_from mark fields zero = mark
mark_from mark [] (suc k) = mark
mark_from mark (f ∷ fs) (suc k) = mark_from (past mark (fixed_width f.form f.counts)) fs k

-- no varied field and no byte stand before the first field
abbrev pub first_mark : Mark
first_mark = record { varied = 0; skip = 0 }

-- the mark of field k, or of the place after the fields
abbrev pub mark_of : List Field → ℕ → Mark
mark_of fields k = mark_from first_mark fields k

-- the place that a mark tells, by the ends of the varied fields
abbrev pub end_of : List ℕ → ℕ → ℕ
end_of ends zero = 0
end_of ends (suc k) = slice_index ends k

abbrev pub place_of : List ℕ → Mark → ℕ
place_of ends mark = end_of ends mark.varied + mark.skip
