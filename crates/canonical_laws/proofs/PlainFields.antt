-- Layouts without dimensions: their fields, and the values of records that tell some of them.
use Rattle.std.proofs.Common.{◌≡◌, ℕ, zero, suc, ◌+◌, ◌*◌, ◌≤◌, Bool, true, false, ◌&&◌, Option, Some, None, List, []}
use Rattle.std.proofs.Common.{◌∷◌, ◌++◌}
use Rattle.std.proofs.Common.{length, refl, ap, ◌∙◌, arith, length-append}
use Rattle.std.specs.Prelude.{option_and_then, slice_get}
use Rattle.std.specs.List.{AllZip, AllByRecursion, list_all}
use Rattle.std.specs.Option.{option_map, option_map_or}
use Rattle.std.proofs.lemmas.Bool.{and_parts, false≢true}
use Rattle.std.proofs.lemmas.Option.{none-some, same_Some}
use Rattle.type_text.specs.declared.types.Dim.{Dim}
use Rattle.type_text.specs.declared.types.ElementType.{ElementType}
use Rattle.record_values.specs.declared.values.Value.{Value}
use Rattle.dictionary.specs.declared.entries.Element.{Element}
use Rattle.layout_plan.specs.declared.fields.Form.{Form}
use Rattle.layout_plan.specs.declared.fields.Form.TheVariants.{Text}
use Rattle.layout_plan.specs.declared.fields.Count.{Count}
use Rattle.layout_plan.specs.declared.fields.Field.{Field}
use Rattle.layout_plan.specs.Layout.{form_of, has_no_dims, count_in, counts_of, is_check_sum, is_last, field_of_type}
use Rattle.layout_plan.specs.Layout.{field_of, fields_after, layout_of}
use Rattle.layout_plan.specs.Body.{number_of}
use Rattle.record_writer.specs.Fit.{FitsSingle, FitsField}
use Rattle.file_grammar.specs.Closing.{is_single, is_any}
use Rattle.contents_table.specs.Told.{blank_single, told_at, values_after}
use Rattle.canonical_file.specs.Ranges.{IsInRange}
use Rattle.canonical_file.specs.Bytes.{value_bytes, body_bytes}

-- ---- fields

abbrev pub form_by : Element → Form
form_by e = option_map_or (λ (ty : ElementType). form_of ty.base) e.ty Text

abbrev pub plain_field : Bool → Element → Field
plain_field last e = record { form = form_by e; counts = []; is_sum = last && is_check_sum e }

abbrev pub plain_fields : List Element → List Field
plain_fields [] = []
plain_fields (e ∷ es) = plain_field (is_last es) e ∷ plain_fields es

plain-made : (named : List ℕ → Option Count) (last : Bool) (e : Element) → is_single is_any e ≡ true
    → field_of named last e ≡ Some (plain_field last e)
plain-made named last e is = by (last && is_check_sum e) e.ty is
  where
    go : (sum : Bool) (form : Form) (dims : List Dim) → has_no_dims dims ≡ true
        → option_map {U = Field} (λ counts. record { form = form; counts = counts; is_sum = sum })
        (counts_of named dims)
        ≡ Some (record { form = form; counts = []; is_sum = sum })
    go sum form [] none = refl
    go sum form (d ∷ ds) none = absurd (false≢true none)

    by : (sum : Bool) (o : Option ElementType)
        → option_map_or (λ (ty : ElementType). is_any ty.base && has_no_dims ty.dims) o false ≡ true
        → option_and_then (field_of_type named sum) o
        ≡ Some (record {
          form = option_map_or (λ (ty : ElementType). form_of ty.base) o Text;
          counts = [];
          is_sum = sum;
        })
    by sum None is = absurd (false≢true is)
    by sum (Some ty) is = go sum (form_of ty.base) ty.dims is

plains-made : (earlier es : List Element) → list_all (is_single is_any) es ≡ true
    → fields_after earlier es ≡ Some (plain_fields es)
plains-made earlier [] all = refl
plains-made earlier (e ∷ es) all =
    let both = and_parts (is_single is_any e) (list_all (is_single is_any) es) all in
    let rest : Field → Option (List Field) =
    λ f. option_map (λ fs. f ∷ fs) (fields_after (earlier ++ e ∷ []) es) in
    ap (option_and_then rest) (plain-made (count_in earlier) (is_last es) e both.0)
    ∙ ap (option_map (λ fs. plain_field (is_last es) e ∷ fs)) (plains-made (earlier ++ e ∷ []) es both.1)

-- So the layout is readable.
pub layout-plain : (es : List Element) → list_all (is_single is_any) es ≡ true → layout_of es ≡ Some (plain_fields es)
unfolding layout_of
layout-plain es all = plains-made [] es all

-- ---- values

-- the value of the field of this number
abbrev pub value_at : List (ℕ × Value) → ℕ → Element → Value
value_at told k e = told_at told k (blank_single (form_by e))

abbrev pub plain_values : List (ℕ × Value) → ℕ → List Element → List Value
plain_values told k [] = []
plain_values told k (e ∷ es) = value_at told k e ∷ plain_values told (k + 1) es

pub values-plain : (told : List (ℕ × Value)) (numbers : List ℕ) (es : List Element)
    → values_after told numbers (plain_fields es) ≡ plain_values told (length numbers) es
unfolding values_after
values-plain told numbers [] = refl
values-plain told numbers (e ∷ es) =
    let v : Value = value_at told (length numbers) e in
    ap (λ vs. v ∷ vs) (values-plain told (numbers ++ number_of v ∷ []) es
    ∙ ap (λ k. plain_values told k es) (length-append numbers (number_of v ∷ [])))

pub value-found : (told : List (ℕ × Value)) (k : ℕ) (es : List Element) (i : ℕ) (e : Element)
    → slice_get es i ≡ Some e → slice_get (plain_values told k es) i ≡ Some (value_at told (k + i) e)
value-found told k [] i e is = absurd (none-some e is)
value-found told k (x ∷ xs) zero e is =
    let same : x ≡ e = same_Some x e is in
    let place : k ≡ k + 0 = omega arith in
    λ j. Some (value_at told (place j) (same j))
value-found told k (x ∷ xs) (suc i) e is =
    let place : k + 1 + i ≡ k + suc i = omega arith in
    value-found told (k + 1) xs i e is ∙ ap (λ n. Some (value_at told n e)) place

-- ---- what holds of each value

-- the values of the fields from number k on
abbrev pub EachValue : (Form → Value → Type 0) → List (ℕ × Value) → ℕ → List Element → Type 0
EachValue P told k es =
    (i : ℕ) (e : Element) → slice_get es i ≡ Some e → (j : ℕ) → j ≡ k + i → P (form_by e) (value_at told j e)

each-first : (P : Form → Value → Type 0) (told : List (ℕ × Value)) (k : ℕ) (e : Element) (es : List Element)
    → EachValue P told k (e ∷ es) → P (form_by e) (value_at told k e)
each-first P told k e es each = each 0 e refl k (omega arith)

each-rest : (P : Form → Value → Type 0) (told : List (ℕ × Value)) (k : ℕ) (e : Element) (es : List Element)
    → EachValue P told k (e ∷ es) → EachValue P told (k + 1) es
each-rest P told k e es each i x is j same = each (suc i) x is j (omega (arith, same))

pub fits-plain : (told : List (ℕ × Value)) (k : ℕ) (es : List Element) (numbers : List ℕ)
    → EachValue FitsSingle told k es
    → AllZip (λ (f : Field) v. FitsField numbers f.form f.counts v) (plain_fields es) (plain_values told k es)
fits-plain told k [] numbers each = tt
fits-plain told k (e ∷ es) numbers each = (
  each-first FitsSingle told k e es each,
  fits-plain told (k + 1) es numbers (each-rest FitsSingle told k e es each),
)

abbrev pub InRange : Form → Value → Type 0
InRange form v = IsInRange v

pub range-plain : (told : List (ℕ × Value)) (k : ℕ) (es : List Element) → EachValue InRange told k es
    → AllByRecursion IsInRange (plain_values told k es)
range-plain told k [] each = tt
range-plain told k (e ∷ es) each =
    (each-first InRange told k e es each, range-plain told (k + 1) es (each-rest InRange told k e es each))

-- ---- how many bytes they are

abbrev pub value_size : Form → Value → ℕ
value_size form v = length (value_bytes form v)

abbrev pub IsSmall : Form → Value → Type 0
IsSmall form v = value_size form v ≤ 16

pub size-plain : (told : List (ℕ × Value)) (k : ℕ) (es : List Element) → EachValue IsSmall told k es
    → length (body_bytes (plain_fields es) (plain_values told k es)) ≤ 16 * length es
size-plain told k [] each = omega arith
size-plain told k (e ∷ es) each =
    let v : Value = value_at told k e in
    let first : value_size (form_by e) v ≤ 16 = each-first IsSmall told k e es each in
    let rest = size-plain told (k + 1) es (each-rest IsSmall told k e es each) in
    omega (
      arith,
      first,
      rest,
      length-append (value_bytes (form_by e) v) (body_bytes (plain_fields es) (plain_values told (k + 1) es)),
    )
