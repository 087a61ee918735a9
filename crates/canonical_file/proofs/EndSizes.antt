-- FrEndOfFile's record takes as many bytes whatever it tells.
use Rattle.std.proofs.Common.{◌≡◌, ℕ, ◌+◌, ◌==◌, Bool, true, false, ◌&&◌, cond, Option, Some, None, List, []}
use Rattle.std.proofs.Common.{◌∷◌, ◌++◌, length, refl, sym, ap, ◌∙◌, subst}
use Rattle.std.specs.Prelude.{codes, option_and_then, unwrap_or}
use Rattle.std.specs.List.{AllByRecursion, list_all}
use Rattle.std.specs.Option.{option_map, option_map_or}
use Rattle.std.proofs.lemmas.Bool.{and_parts, false≢true}
use Rattle.std.proofs.lemmas.List.{length-append, length_push}
use Rattle.std.proofs.lemmas.Option.{none-some, same_Some, option_and_then_some}
use Rattle.scalar_types.specs.declared.Order.TheVariants.{Little}
use Rattle.scalar_types.proofs.NumberBytes.{bytes_of-length}
use Rattle.frame_head.specs.declared.structure.Common.{Common}
use Rattle.frame_head.specs.Structure.{common_bytes}
use Rattle.frame_head.proofs.CommonBytes.{common_bytes-length}
use Rattle.type_text.specs.declared.types.Dim.{Dim}
use Rattle.type_text.specs.declared.types.ElementType.{ElementType}
use Rattle.record_values.specs.declared.values.Value.{Value}
use Rattle.record_values.specs.declared.values.Value.TheVariants as value
use Rattle.record_values.specs.Values.{number_of}
use Rattle.dictionary.specs.declared.entries.Element.{Element}
use Rattle.dictionary.specs.declared.entries.Entry.{Entry}
use Rattle.layout_plan.specs.declared.fields.Form.{Form}
use Rattle.layout_plan.specs.declared.fields.Form.TheVariants.{Number, Pair, Text, Link}
use Rattle.layout_plan.specs.declared.fields.Count.{Count}
use Rattle.layout_plan.specs.declared.fields.Field.{Field}
use Rattle.layout_plan.specs.Layout.{form_of, has_no_dims, counts_of, count_in, is_check_sum, is_last, field_of_type}
use Rattle.layout_plan.specs.Layout.{field_of}
use Rattle.layout_plan.specs.Layout.{fields_after, layout_of}
use Rattle.file_grammar.specs.Closing.{is_single, is_any, closes, field_named}
use Rattle.contents_table.specs.Told.{blank_single, blank_by, told_at, values_after, values_told}
use Rattle.canonical_file.specs.Bytes.{value_bytes, body_bytes, structure_bytes}
use Rattle.canonical_file.specs.Records.{entry_fields}
use Rattle.canonical_file.specs.Written.{end_told, end_bytes}

pub structure-size : (class instance : ℕ) (body : List ℕ)
    → length (structure_bytes class instance body) ≡ 14 + length body
structure-size class instance body =
    let common : Common =
    record { length = 14 + length body; check = 0; class = class; instance = instance } in
    length-append (common_bytes Little common) body
    ∙ ap (λ n. n + length body) (common_bytes-length Little common)

-- fields without dimension
abbrev AreSingle : List Field → Type 0
AreSingle fields = AllByRecursion (λ (f : Field). f.counts ≡ []) fields

no-counts : (named : List ℕ → Option Count) (dims : List Dim) → has_no_dims dims ≡ true → counts_of named dims ≡ Some []
no-counts named [] none = refl
no-counts named (d ∷ ds) none = absurd (false≢true none)

single-field : (named : List ℕ → Option Count) (last : Bool) (e : Element) (f : Field) → is_single is_any e ≡ true
    → field_of named last e ≡ Some f → f.counts ≡ []
single-field named last e f single made = by (last && is_check_sum e) e.ty single made
  where
    by : (is_sum : Bool) (ty : Option ElementType)
        → option_map_or (λ (ty : ElementType). true && has_no_dims ty.dims) ty false ≡ true
        → option_and_then (field_of_type named is_sum) ty ≡ Some f → f.counts ≡ []
    by is_sum None single made = absurd (none-some f made)
    by is_sum (Some ty) single made =
        let whole : Field = record { form = form_of ty.base; counts = []; is_sum = is_sum } in
        let is : field_of_type named is_sum ty ≡ Some whole =
        ap (option_map (λ counts. record { form = form_of ty.base; counts = counts; is_sum = is_sum }))
        (no-counts named ty.dims single) in
        ap (λ (f : Field). f.counts) (sym (same_Some whole f (sym is ∙ made)))

single-fields : (earlier es : List Element) (fs : List Field) → list_all (is_single is_any) es ≡ true
    → fields_after earlier es ≡ Some fs → AreSingle fs
single-fields earlier [] fs all made = subst AreSingle (same_Some [] fs made) tt
single-fields earlier (e ∷ es) fs all made =
    option_and_then_some (λ f. option_map (λ fs. f ∷ fs) (fields_after (earlier ++ e ∷ []) es))
    (field_of (count_in earlier) (is_last es) e) fs made (λ f first rest.
    after f first (fields_after (earlier ++ e ∷ []) es) rest
    (λ more. single-fields (earlier ++ e ∷ []) es more parts.1))
  where
    parts : (is_single is_any e ≡ true) × (list_all (is_single is_any) es ≡ true)
    parts = and_parts (is_single is_any e) (list_all (is_single is_any) es) all

    after : (f : Field) → field_of (count_in earlier) (is_last es) e ≡ Some f → (rest : Option (List Field))
        → option_map (λ fs. f ∷ fs) rest ≡ Some fs → ((more : List Field) → rest ≡ Some more → AreSingle more)
        → AreSingle fs
    after f first None whole later = absurd (none-some fs whole)
    after f first (Some more) whole later =
        subst AreSingle (same_Some (f ∷ more) fs whole)
        (single-field (count_in earlier) (is_last es) e f parts.0 first, later more refl)

end-single : (e : Entry) → closes e.elements ≡ true → AreSingle (entry_fields e)
unfolding layout_of
end-single e closing = by (layout_of e.elements) refl
  where
    single : list_all (is_single is_any) e.elements ≡ true
    single = (and_parts (list_all (is_single is_any) e.elements) _ closing).0

    by : (fields : Option (List Field)) → fields_after [] e.elements ≡ fields → AreSingle (unwrap_or fields [])
    by None made = tt
    by (Some fields) made = single-fields [] e.elements fields single made

-- what is told of three fields, by their numbers
abbrev three : ℕ → ℕ → ℕ → ℕ → ℕ → ℕ → List (ℕ × Value)
three i j k a b c = (i, value.Num a) ∷ (j, value.Num b) ∷ (k, value.Num c) ∷ []

-- a field takes as many bytes whatever is told of it
told-size : (form : Form) (i j k a b c n : ℕ) (blank : Value)
    → length (value_bytes form (told_at (three i j k a b c) n blank))
    ≡ length (value_bytes form (told_at (three i j k 0 0 0) n blank))
told-size form i j k a b c n blank = by (i == n) (j == n) (k == n)
  where
    number : (form : Form) (m : ℕ) → length (value_bytes form (value.Num m)) ≡ length (value_bytes form (value.Num 0))
    number (Number width) m = bytes_of-length Little width m ∙ sym (bytes_of-length Little width 0)
    number (Pair width) m = refl
    number Text m = refl
    number Link m = refl

    found : Bool → Bool → Bool → ℕ → ℕ → ℕ → Value
    found x y z a b c =
        option_map_or (λ (t : ℕ × Value). t.1)
        (cond x (Some (i, value.Num a)) (cond y (Some (j, value.Num b)) (cond z (Some (k, value.Num c)) None))) blank

    by : (x y z : Bool) → length (value_bytes form (found x y z a b c)) ≡ length (value_bytes form (found x y z 0 0 0))
    by true y z = number form a
    by false true z = number form b
    by false false true = number form c
    by false false false = refl

values-size : (i j k a b c : ℕ) (fields : List Field) (numbers others : List ℕ) → AreSingle fields
    → length numbers ≡ length others
    → length (body_bytes fields (values_after (three i j k a b c) numbers fields))
    ≡ length (body_bytes fields (values_after (three i j k 0 0 0) others fields))
unfolding values_after
values-size i j k a b c [] numbers others single same = refl
values-size i j k a b c (f ∷ fs) numbers others single same =
    length-append (value_bytes f.form v)
    (body_bytes fs (values_after (three i j k a b c) (numbers ++ number_of v ∷ []) fs))
    ∙ (λ t. first t
    + values-size i j k a b c fs (numbers ++ number_of v ∷ []) (others ++ number_of u ∷ []) single.1 longer t)
    ∙ sym (length-append (value_bytes f.form u)
    (body_bytes fs (values_after (three i j k 0 0 0) (others ++ number_of u ∷ []) fs)))
  where
    v : Value
    v = told_at (three i j k a b c) (length numbers) (blank_by numbers f.form f.counts)

    u : Value
    u = told_at (three i j k 0 0 0) (length others) (blank_by others f.form f.counts)

    first : length (value_bytes f.form v) ≡ length (value_bytes f.form u)
    first =
        ap (λ blank. length (value_bytes f.form (told_at (three i j k a b c) (length numbers) blank)))
        (ap (blank_by numbers f.form) single.0)
        ∙ told-size f.form i j k a b c (length numbers) (blank_single f.form)
        ∙ ap (λ n. length (value_bytes f.form (told_at (three i j k 0 0 0) n (blank_single f.form)))) same
        ∙ ap (λ blank. length (value_bytes f.form (told_at (three i j k 0 0 0) (length others) blank)))
        (sym (ap (blank_by others f.form) single.0))

    longer : length (numbers ++ number_of v ∷ []) ≡ length (others ++ number_of u ∷ [])
    longer = length_push numbers (number_of v) ∙ ap (λ n. n + 1) same ∙ sym (length_push others (number_of u))

pub end-length : (e : Entry) (frames bytes seek : ℕ) → closes e.elements ≡ true
    → length (end_bytes e frames bytes seek) ≡ length (end_bytes e 0 0 0)
end-length e frames bytes seek closing =
    structure-size e.class 0 (body_bytes fields (values_told (end_told e.elements frames bytes seek) fields))
    ∙ ap (λ n. 14 + n)
    (values-size (field_named e.elements (codes "nFrames")) (field_named e.elements (codes "nBytes"))
    (field_named e.elements (codes "seekTOC")) frames bytes seek fields [] [] (end-single e closing) refl)
    ∙ sym (structure-size e.class 0 (body_bytes fields (values_told (end_told e.elements 0 0 0) fields)))
  where
    fields : List Field
    fields = entry_fields e
