-- The readable layouts: an entry's elements as fields. The standard (LIGO-T970130 v8) describes a structure by the
-- elements of its dictionary entry; a dimension may name an earlier element that holds the number of items.
use Rattle.std.specs.Prelude.{◌≡◌, ℕ, ◌+◌, ◌<◌, ◌≤◌, Bool, true, false, ◌&&◌, if◌then◌else◌, List, [], ◌∷◌, ◌++◌}
use Rattle.std.specs.Prelude.{length, All, codes, Option, Some, None, option_and_then}
use Rattle.std.specs.Option.{option_map, option_map_or}
use Rattle.std.specs.Str.{bytes_eq}
use Rattle.scalar_types.specs.declared.Width.TheVariants.{One, Two, Four, Eight}
use Rattle.type_text.specs.declared.types.Base.{Base}
use Rattle.type_text.specs.declared.types.Base.TheVariants.{Int1S, Int1U, Int2S, Int2U, Int4S, Int4U, Int8S, Int8U}
use Rattle.type_text.specs.declared.types.Base.TheVariants.{Real4, Real8, Complex8, Complex16, Char, CharU, Str, Ptr}
use Rattle.type_text.specs.declared.types.Dim.{Dim}
use Rattle.type_text.specs.declared.types.Dim.TheVariants.{Numeral, Named}
use Rattle.type_text.specs.declared.types.ElementType.{ElementType}
use Rattle.dictionary.specs.declared.entries.Element.{Element}
use Rattle.dictionary.specs.Named.{first_named}
use Rattle.layout_plan.specs.declared.fields.Form.{Form}
use Rattle.layout_plan.specs.declared.fields.Form.TheVariants.{Number, Pair, Text, Link}
use Rattle.layout_plan.specs.declared.fields.Count.{Count}
use Rattle.layout_plan.specs.declared.fields.Count.TheVariants.{Fixed, Of, OfSigned}
use Rattle.layout_plan.specs.declared.fields.Field.{Field}

-- what one item of a base is
abbrev pub form_of : Base → Form
form_of Int1S = Number One
form_of Int1U = Number One
form_of Int2S = Number Two
form_of Int2U = Number Two
form_of Int4S = Number Four
form_of Int4U = Number Four
form_of Int8S = Number Eight
form_of Int8U = Number Eight
form_of Real4 = Number Four
form_of Real8 = Number Eight
form_of Complex8 = Pair Four
form_of Complex16 = Pair Eight
form_of Char = Number One
form_of CharU = Number One
form_of Str = Text
form_of (Ptr to) = Link

-- how many items a dimension counts that names field k of this base, a whole number; none where the number is below
-- zero
abbrev pub counted_by : ℕ → Base → Option Count
counted_by k Int1S = Some (OfSigned k One)
counted_by k Int1U = Some (Of k)
counted_by k Int2S = Some (OfSigned k Two)
counted_by k Int2U = Some (Of k)
counted_by k Int4S = Some (OfSigned k Four)
counted_by k Int4U = Some (Of k)
counted_by k Int8S = Some (OfSigned k Eight)
counted_by k Int8U = Some (Of k)
counted_by k base = None

abbrev pub has_no_dims : List Dim → Bool
has_no_dims [] = true
has_no_dims (d ∷ ds) = false

-- the count of a later dimension that names field k of this type, where that is a whole number without dimension
abbrev pub counted_by_type : ℕ → ElementType → Option Count
counted_by_type k ty = if has_no_dims ty.dims then counted_by k ty.base else None

-- the same of element k
abbrev pub named_count : ℕ × Element → Option Count
named_count p = option_and_then (counted_by_type p.0) p.1.ty

-- the count of a dimension with this name: by the first of the elements that has the name, where a dimension may name
-- it
abbrev pub count_in : List Element → List ℕ → Option Count
count_in earlier name = option_and_then named_count (first_named 0 earlier name)

-- a dimension's count, by those of names
abbrev pub count_of : (List ℕ → Option Count) → Dim → Option Count
count_of named (Numeral n) = Some (Fixed n)
count_of named (Named name) = named name

-- the counts of all dimensions, where each has one
abbrev pub counts_of : (List ℕ → Option Count) → List Dim → Option (List Count)
counts_of named [] = Some []
counts_of named (d ∷ ds) =
    option_and_then (λ c. option_map (λ cs. c ∷ cs) (counts_of named ds)) (count_of named d)

-- the element `chkSum INT_4U`
abbrev pub is_int_4u : Base → Bool
is_int_4u Int4U = true
is_int_4u base = false

abbrev pub is_check_sum : Element → Bool
is_check_sum e =
    bytes_eq e.name (codes "chkSum")
    && option_map_or (λ (ty : ElementType). is_int_4u ty.base && has_no_dims ty.dims) e.ty false

-- it is the check sum of the structure where no element comes after it
abbrev pub is_last : List Element → Bool
is_last [] = true
is_last (e ∷ es) = false

-- the field of a type
abbrev pub field_of_type : (List ℕ → Option Count) → Bool → ElementType → Option Field
field_of_type named is_sum ty =
    option_map (λ counts. record { form = form_of ty.base; counts = counts; is_sum = is_sum }) (counts_of named ty.dims)

-- the field of an element, where its text is a type and its dimensions have counts
abbrev pub field_of : (List ℕ → Option Count) → Bool → Element → Option Field
field_of named last e = option_and_then (field_of_type named (last && is_check_sum e)) e.ty

-- the fields of the elements after the earlier ones
abbrev pub fields_after : List Element → List Element → Option (List Field)
fields_after earlier [] = Some []
fields_after earlier (e ∷ es) =
    option_and_then (λ f. option_map (λ fs. f ∷ fs) (fields_after (earlier ++ e ∷ []) es))
    (field_of (count_in earlier) (is_last es) e)

-- The fields of the elements of an entry, where the layout is readable.
unfoldable pub layout_of : List Element → Option (List Field)
layout_of elements = fields_after [] elements

-- the count names a field before number i, or none
abbrev pub IsEarlier : ℕ → Count → Type 0
IsEarlier i (Fixed n) = Unit {0}
IsEarlier i (Of k) = k < i
IsEarlier i (OfSigned k width) = k < i

-- each dimension names an earlier field, or none; the first field's number is i
abbrev pub AreSound : ℕ → List Field → Type 0
AreSound i [] = Unit {0}
AreSound i (f ∷ fs) = All (IsEarlier i) f.counts × AreSound (i + 1) fs

-- a check sum is a number of four bytes, and the last field
abbrev pub AreSums : List Field → Type 0
AreSums [] = Unit {0}
AreSums (f ∷ fs) = (f.is_sum ≡ true → (f.form ≡ Number Four) × (f.counts ≡ []) × (fs ≡ [])) × AreSums fs

-- What the fields of a layout have: each dimension names an earlier field, or none; the last field alone may be a check
-- sum; and there are at most 4,096.
pub record IsLayout (fields : List Field) : Type 0 where
  pub sound : AreSound 0 fields
  pub sums : AreSums fields
  pub short : length fields ≤ 4096
