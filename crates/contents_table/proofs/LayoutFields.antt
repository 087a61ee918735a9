-- The fields of a layout by the elements that they are of: what form they have, and which fields count them.
use Rattle.std.proofs.Common.{◌≡◌, ◌⊎◌, inl, inr, ℕ, zero, suc, ◌≤◌, Bool, true, false, ◌&&◌, cond, List, [], ◌∷◌, ◌++◌}
use Rattle.std.proofs.Common.{length, take, drop, map, get_or, Option, Some, None, refl, sym, ap, ◌∙◌, subst, arith}
use Rattle.std.proofs.Common.{append_assoc, append-nil}
use Rattle.std.specs.Prelude.{slice_get, option_and_then}
use Rattle.std.specs.Option.{option_map, option_map_or}
use Rattle.std.proofs.lemmas.Bool.{false≢true, and_parts}
use Rattle.std.proofs.lemmas.List.{take-append-drop}
use Rattle.std.proofs.lemmas.Option.{same_Some, none-some, option_and_then_some, slice_get_within, slice_get-get_or}
use Rattle.scalar_types.specs.declared.Width.TheVariants.{Four, Eight}
use Rattle.type_text.specs.declared.types.Base.{Base}
use Rattle.type_text.specs.declared.types.Base.TheVariants.{Int4U, Int8U}
use Rattle.type_text.specs.declared.types.Dim.{Dim}
use Rattle.type_text.specs.declared.types.Dim.TheVariants.{Named}
use Rattle.type_text.specs.declared.types.ElementType.{ElementType}
use Rattle.dictionary.specs.declared.entries.Element.{Element}
use Rattle.dictionary.specs.Named.{first_named, HasType}
use Rattle.layout_plan.specs.declared.fields.Form.TheVariants.{Number}
use Rattle.layout_plan.specs.declared.fields.Count.{Count}
use Rattle.layout_plan.specs.declared.fields.Count.TheVariants.{Of}
use Rattle.layout_plan.specs.declared.fields.Field.{Field}
use Rattle.layout_plan.specs.Layout.{form_of, counted_by, counted_by_type, named_count, count_in, counts_of}
use Rattle.layout_plan.specs.Layout.{has_no_dims}
use Rattle.layout_plan.specs.Layout.{is_check_sum, is_last, field_of_type, field_of, fields_after, layout_of}
use Rattle.layout_plan.specs.Lent.{IsSingleField, IsNumberField}
use Rattle.file_grammar.specs.Closing.{is_single, is_count, has_named, field_named}
use Rattle.contents_table.specs.Fit.{has_list, is_list, IsListField, IsWideField, PassesOnly}
use Rattle.contents_table.proofs.FirstNamed.{named-at, named-of_more, number-is}
use Rattle.contents_table.proofs.NamedLists.{is_list-Decides}

-- ---- the field of an element

-- field i is that of the element behind the earlier ones
pub record IsFieldBehind (fs : List Field) (i : ℕ) (earlier : List Element) (e : Element) : Type 0 where
  pub last : Bool
  pub field : Field
  pub is : slice_get fs i ≡ Some field
  pub made : field_of (count_in earlier) last e ≡ Some field

field-from : (earlier es : List Element) (fs : List Field) (i : ℕ) (e : Element)
    → fields_after earlier es ≡ Some fs → slice_get es i ≡ Some e
    → IsFieldBehind fs i (earlier ++ take i es) e
field-from earlier [] fs i e layout at = absurd (none-some e at)
field-from earlier (x ∷ xs) fs i e layout at =
    option_and_then_some (λ f. option_map (λ fs. f ∷ fs) (fields_after (earlier ++ x ∷ []) xs))
    (field_of (count_in earlier) (is_last xs) x) fs layout
    (λ f made all. after (λ rest k. field-from (earlier ++ x ∷ []) xs rest k e) f made
    (fields_after (earlier ++ x ∷ []) xs) refl all)
  where
    Later : Type 0
    Later = (rest : List Field) (k : ℕ) → fields_after (earlier ++ x ∷ []) xs ≡ Some rest
        → slice_get xs k ≡ Some e → IsFieldBehind rest k ((earlier ++ x ∷ []) ++ take k xs) e

    here : Later → (f : Field) → field_of (count_in earlier) (is_last xs) x ≡ Some f → (rest : List Field)
        → fields_after (earlier ++ x ∷ []) xs ≡ Some rest → (k : ℕ) → slice_get (x ∷ xs) k ≡ Some e
        → IsFieldBehind (f ∷ rest) k (earlier ++ take k (x ∷ xs)) e
    here later f made rest others zero at = record {
      last = is_last xs;
      field = f;
      is = refl;
      made = ap (λ front. field_of (count_in front) (is_last xs) e) (append-nil earlier)
          ∙ ap (field_of (count_in earlier) (is_last xs)) (sym (same_Some x e at)) ∙ made;
    }
    here later f made rest others (suc k) at =
        let found = later rest k others at in
        record {
          last = found.last;
          field = found.field;
          is = found.is;
          made = ap (λ front. field_of (count_in front) found.last e)
              (sym (append_assoc earlier (x ∷ []) (take k xs)))
              ∙ found.made;
        }

    after : Later → (f : Field) → field_of (count_in earlier) (is_last xs) x ≡ Some f
        → (o : Option (List Field)) → fields_after (earlier ++ x ∷ []) xs ≡ o
        → option_map (λ fs. f ∷ fs) o ≡ Some fs → IsFieldBehind fs i (earlier ++ take i (x ∷ xs)) e
    after later f made None others all = absurd (none-some fs all)
    after later f made (Some rest) others all =
        subst (λ fs. IsFieldBehind fs i (earlier ++ take i (x ∷ xs)) e) (same_Some (f ∷ rest) fs all)
        (here later f made rest others i at)

-- the field at an element's number is that of the element
pub field-at : (es : List Element) (fs : List Field) (i : ℕ) (e : Element) → layout_of es ≡ Some fs
    → slice_get es i ≡ Some e → IsFieldBehind fs i (take i es) e
unfolding layout_of
field-at es fs i e layout at = field-from [] es fs i e layout at

-- there are no more elements than fields
pub elements-within : (es : List Element) (fs : List Field) → layout_of es ≡ Some fs → length es ≤ length fs
elements-within [] fs layout = omega arith
elements-within (x ∷ xs) fs layout =
    let last = slice_get-get_or (x ∷ xs) (length xs) x (omega arith) in
    let field = field-at (x ∷ xs) fs (length xs) (get_or (x ∷ xs) (length xs) x) layout last in
    omega (arith, slice_get_within fs (length xs) field.field field.is)

-- the form and the counts that are made of a type
pub record IsMadeOf (named : List ℕ → Option Count) (ty : ElementType) (f : Field) : Type 0 where
  pub form : f.form ≡ form_of ty.base
  pub counts : counts_of named ty.dims ≡ Some f.counts

made-of : (named : List ℕ → Option Count) (last : Bool) (e : Element) (ty : ElementType) (f : Field)
    → e.ty ≡ Some ty → field_of named last e ≡ Some f → IsMadeOf named ty f
made-of named last e ty f typed made =
    by (counts_of named ty.dims) refl (sym (ap (option_and_then (field_of_type named is_sum)) typed) ∙ made)
  where
    is_sum : Bool
    is_sum = last && is_check_sum e

    whole : List Count → Field
    whole counts = record { form = form_of ty.base; counts = counts; is_sum = is_sum }

    by : (o : Option (List Count)) → counts_of named ty.dims ≡ o → option_map whole o ≡ Some f
        → IsMadeOf named ty f
    by None counted made = absurd (none-some f made)
    by (Some counts) counted made =
        let same : whole counts ≡ f = same_Some (whole counts) f made in
        record {
          form = sym (ap (λ (f : Field). f.form) same);
          counts = counted ∙ ap (λ (f : Field). Some f.counts) same;
        }

no-counts : (named : List ℕ → Option Count) (dims : List Dim) (counts : List Count) → has_no_dims dims ≡ true
    → counts_of named dims ≡ Some counts → counts ≡ []
no-counts named [] counts none made = sym (same_Some [] counts made)
no-counts named (d ∷ ds) counts none made = absurd (false≢true none)

-- the field of an element without dimension
pub typed-field : (es : List Element) (fs : List Field) (i : ℕ) (e : Element) (ty : ElementType)
    → layout_of es ≡ Some fs → slice_get es i ≡ Some e → e.ty ≡ Some ty → has_no_dims ty.dims ≡ true
    → IsSingleField fs i (form_of ty.base)
typed-field es fs i e ty layout at typed single =
    let field = field-at es fs i e layout at in
    let made = made-of (count_in (take i es)) field.last e ty field.field typed field.made in
    record {
      field = field.field;
      is = field.is;
      form_is = made.form;
      single = no-counts (count_in (take i es)) ty.dims field.field.counts single made.counts;
    }

-- ---- a field that counts

-- what is found where a test holds
found-where : {X : Type 0} (test : X → Bool) (o : Option X) → option_map_or test o false ≡ true
    → (x : X) × (o ≡ Some x) × (test x ≡ true)
found-where test None t = absurd (false≢true t)
found-where test (Some x) t = (x, refl, t)

-- an element without dimension that counts
record IsCounter (e : Element) : Type 0 where
  pub ty : ElementType
  pub is : e.ty ≡ Some ty
  pub counts : is_count ty.base ≡ true
  pub single : has_no_dims ty.dims ≡ true

counter-is : (e : Element) → is_single is_count e ≡ true → IsCounter e
counter-is e t =
    let found = found-where (λ (ty : ElementType). is_count ty.base && has_no_dims ty.dims) e.ty t in
    let both = and_parts (is_count found.0.base) (has_no_dims found.0.dims) found.2 in
    record { ty = found.0; is = found.1; counts = both.0; single = both.1 }

-- the first element of a name, where it counts
pub counter-named : (es : List Element) (name : List ℕ) → has_named es name is_count ≡ true
    → (p : ℕ × Element) × (first_named 0 es name ≡ Some p) × (is_single is_count p.1 ≡ true)
counter-named es name t =
    found-where (λ (found : ℕ × Element). is_single is_count found.1) (first_named 0 es name) t

count-form : (base : Base) → is_count base ≡ true → (form_of base ≡ Number Four) ⊎ (form_of base ≡ Number Eight)
count-form Int4U t = inl refl
count-form Int8U t = inr refl
count-form base t = absurd (false≢true t)

-- the first element of a name that counts is a number of 4 or 8 bytes
pub wide-field : (es : List Element) (fs : List Field) (name : List ℕ) → layout_of es ≡ Some fs
    → has_named es name is_count ≡ true → IsWideField fs (field_named es name)
wide-field es fs name layout t =
    let found = counter-named es name t in
    let counter = counter-is found.0.1 found.2 in
    let at = named-at es name found.0.0 found.0.1 found.1 in
    let field = typed-field es fs found.0.0 found.0.1 counter.ty layout at.0 counter.is counter.single in
    subst (IsWideField fs) (number-is es name found.0 found.1)
    (elim (count-form counter.ty.base counter.counts) [
      | inl form ↦ inl (subst (IsSingleField fs found.0.0) form field)
      | inr form ↦ inr (subst (IsSingleField fs found.0.0) form field)
    ])

number-of_wide : (fs : List Field) (k : ℕ) → IsWideField fs k → IsNumberField fs k
number-of_wide fs k (inl four) = (Four, four)
number-of_wide fs k (inr eight) = (Eight, eight)

-- and so a number
pub number-field : (es : List Element) (fs : List Field) (name : List ℕ) → layout_of es ≡ Some fs
    → has_named es name is_count ≡ true → IsNumberField fs (field_named es name)
number-field es fs name layout t =
    number-of_wide fs (field_named es name) (wide-field es fs name layout t)

-- ---- a list that fields count

counted-of : (k : ℕ) (base : Base) (c : Count) → is_count base ≡ true → counted_by k base ≡ Some c → Of k ≡ c
counted-of k Int4U c t made = same_Some (Of k) c made
counted-of k Int8U c t made = same_Some (Of k) c made
counted-of k base c t made = absurd (false≢true t)

-- what an earlier element of a name counts, where the first of all elements of the name counts
counted-in : (es : List Element) (i : ℕ) (name : List ℕ) (c : Count) → has_named es name is_count ≡ true
    → count_in (take i es) name ≡ Some c → Of (field_named es name) ≡ c
counted-in es i name c t made =
    option_and_then_some named_count (first_named 0 (take i es) name) c made (λ p earlier counted.
    let whole : first_named 0 es name ≡ Some p =
    ap (λ es. first_named 0 es name) (sym (take-append-drop i es))
    ∙ named-of_more 0 (take i es) (drop i es) name p earlier in
    let single : is_single is_count p.1 ≡ true =
    sym (ap (λ o. option_map_or (λ (found : ℕ × Element). is_single is_count found.1) o false) whole) ∙ t in
    let counter = counter-is p.1 single in
    let by_type : counted_by p.0 counter.ty.base ≡ Some c =
    sym (ap (λ b. cond b (counted_by p.0 counter.ty.base) None) counter.single)
    ∙ sym (ap (option_and_then (counted_by_type p.0)) counter.is) ∙ counted in
    ap Of (sym (number-is es name p whole)) ∙ counted-of p.0 counter.ty.base c counter.counts by_type)

-- each of the names is that of a counter
abbrev pub AreCounters : List Element → List (List ℕ) → Type 0
AreCounters es [] = Unit {0}
AreCounters es (name ∷ names) = (has_named es name is_count ≡ true) × AreCounters es names

-- the fields of these names, as counts
abbrev pub counts_named : List Element → List (List ℕ) → List Count
counts_named es names = map (λ name. Of (field_named es name)) names

counts-of : (es : List Element) (i : ℕ) (names : List (List ℕ)) (counts : List Count) → AreCounters es names
    → counts_of (count_in (take i es)) (map Named names) ≡ Some counts → counts_named es names ≡ counts
counts-of es i [] counts counters made = same_Some [] counts made
counts-of es i (name ∷ names) counts counters made =
    option_and_then_some (λ c. option_map (λ cs. c ∷ cs) (counts_of (count_in (take i es)) (map Named names)))
    (count_in (take i es) name) counts made (λ c counted all.
    after c (counted-in es i name c counters.0 counted) (λ cs. counts-of es i names cs counters.1)
    (counts_of (count_in (take i es)) (map Named names)) refl all)
  where
    after : (c : Count) → Of (field_named es name) ≡ c
        → ((cs : List Count) → counts_of (count_in (take i es)) (map Named names) ≡ Some cs
        → counts_named es names ≡ cs) → (o : Option (List Count))
        → counts_of (count_in (take i es)) (map Named names) ≡ o → option_map (λ cs. c ∷ cs) o ≡ Some counts
        → counts_named es (name ∷ names) ≡ counts
    after c first others None is all = absurd (none-some counts all)
    after c first others (Some cs) is all =
        let rest = others cs is in
        (λ i. first i ∷ rest i) ∙ same_Some (c ∷ cs) counts all

-- the first element of a name that is a list is one in the layout
pub list-field : (es : List Element) (fs : List Field) (name : List ℕ) (passes : Base → Bool) (base : Base)
    (names : List (List ℕ)) → layout_of es ≡ Some fs → PassesOnly passes base → AreCounters es names
    → has_list es name passes names ≡ true
    → IsListField fs (field_named es name) (form_of base) (counts_named es names)
list-field es fs name passes base names layout only counters t =
    let is_such = λ (found : ℕ × Element). is_list passes names found.1 in
    let found = found-where is_such (first_named 0 es name) t in
    let typed : HasType found.0.1 base names = (is_list-Decides passes base names found.0.1 only).0 found.2 in
    let field = field-at es fs found.0.0 found.0.1 layout (named-at es name found.0.0 found.0.1 found.1).0 in
    let made = made-of (count_in (take found.0.0 es)) field.last found.0.1
    (record { base = base; dims = map Named names }) field.field typed field.made in
    let number = number-is es name found.0 found.1 in
    subst (λ k. IsListField fs k (form_of base) (counts_named es names)) number (record {
      field = field.field;
      is = field.is;
      form_is = made.form;
      counts_are = sym (counts-of es found.0.0 names field.field.counts counters made.counts);
    })
