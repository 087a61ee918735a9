-- The numbers that the end of a file tells, where its layout has them.
use Rattle.std.proofs.Common.{◌≡◌, ℕ, zero, suc, ◌+◌, ◌<◌, ◌≤◌, Bool, true, false, ◌&&◌, cond, List, [], ◌∷◌, ◌++◌}
use Rattle.std.proofs.Common.{length, Option, Some, None, refl, sym, ap, ◌∙◌, subst, arith}
use Rattle.std.specs.Prelude.{slice_get, option_and_then, codes, IsSome}
use Rattle.std.specs.List.{list_all}
use Rattle.std.specs.Str.{bytes_eq}
use Rattle.std.specs.Option.{option_map, option_map_or}
use Rattle.std.proofs.lemmas.Bool.{false≢true, and_parts}
use Rattle.std.proofs.lemmas.Option.{same_Some, none-some, option_and_then_some, slice_get_within}
use Rattle.scalar_types.specs.declared.Order.{Order}
use Rattle.scalar_types.specs.declared.Width.{Width}
use Rattle.scalar_types.specs.declared.Width.TheVariants.{Four, Eight}
use Rattle.type_text.specs.declared.types.Base.{Base}
use Rattle.type_text.specs.declared.types.Base.TheVariants.{Int4U, Int8U}
use Rattle.type_text.specs.declared.types.Dim.{Dim}
use Rattle.type_text.specs.declared.types.ElementType.{ElementType}
use Rattle.record_values.specs.declared.values.Value.TheVariants as value
use Rattle.dictionary.specs.declared.entries.Element.{Element}
use Rattle.dictionary.specs.declared.entries.Entry.{Entry}
use Rattle.dictionary.specs.Dictionary.{entry_of, IsDictionary}
use Rattle.dictionary.specs.Named.{first_named}
use Rattle.layout_plan.specs.declared.fields.Form.TheVariants.{Number}
use Rattle.layout_plan.specs.declared.fields.Count.{Count}
use Rattle.layout_plan.specs.declared.fields.Field.{Field}
use Rattle.layout_plan.specs.Layout.{form_of, has_no_dims, count_in, counts_of, is_check_sum, is_last, field_of_type}
use Rattle.layout_plan.specs.Layout.{field_of, fields_after, layout_of}
use Rattle.layout_plan.specs.Body.{number_of, HasBody}
use Rattle.layout_plan.specs.Lent.{IsNumberField, HasNumberAt}
use Rattle.file_grammar.specs.Record.{Reading, layout_in, reading_by, reading_of, values_of}
use Rattle.file_grammar.specs.Closing.{is_single, is_any, is_count, is_size, has_named, closes}
use Rattle.file_grammar.specs.Closing.{field_named, number_named}
use Rattle.file_grammar.specs.Structure.{Structure}
use Rattle.item_reader.proofs.BodyHere.{some-reading}
use Rattle.file_grammar.proofs.Bodies.{reading-found}
use Rattle.file_grammar.proofs.Weights.{layout-sound}

-- ---- a single number's field

number-form : (base : Base) → is_count base ≡ true → (w : Width) × (form_of base ≡ Number w)
number-form Int4U e = (Four, refl)
number-form Int8U e = (Eight, refl)
number-form base e = absurd (false≢true e)

no-counts : (named : List ℕ → Option Count) (dims : List Dim) → has_no_dims dims ≡ true → counts_of named dims ≡ Some []
no-counts named [] e = refl
no-counts named (d ∷ ds) e = absurd (false≢true e)

abbrev IsSingleNumber : Field → Type 0
IsSingleNumber f = (w : Width) × (f.form ≡ Number w) × (f.counts ≡ [])

single-field : (named : List ℕ → Option Count) (last : Bool) (e : Element) (f : Field) → is_single is_count e ≡ true
    → field_of named last e ≡ Some f → IsSingleNumber f
single-field named last e f single is = by (last && is_check_sum e) e.ty single is
  where
    by : (is_sum : Bool) (o : Option ElementType)
        → option_map_or (λ ty. is_count ty.base && has_no_dims ty.dims) o false ≡ true
        → option_and_then (field_of_type named is_sum) o ≡ Some f → IsSingleNumber f
    by is_sum None single is = absurd (false≢true single)
    by is_sum (Some ty) single is =
        let both = and_parts (is_count ty.base) (has_no_dims ty.dims) single in
        let form = number-form ty.base both.0 in
        let whole : Field = record { form = form_of ty.base; counts = []; is_sum = is_sum } in
        let made : field_of_type named is_sum ty ≡ Some whole =
        ap (option_map (λ counts. record { form = form_of ty.base; counts = counts; is_sum = is_sum }))
        (no-counts named ty.dims both.1) in
        let same : whole ≡ f = same_Some whole f (sym made ∙ is) in
        (form.0, sym (ap (λ (f : Field). f.form) same) ∙ form.1, sym (ap (λ (f : Field). f.counts) same))

-- ---- the first element of a name

-- the element that is found stands at its number
named-at : (k : ℕ) (es : List Element) (name : List ℕ) (i : ℕ) (e : Element) → first_named k es name ≡ Some (i, e)
    → (j : ℕ) × (i ≡ k + j) × (slice_get es j ≡ Some e)
named-at k [] name i e is = absurd (none-some (i, e) is)
named-at k (x ∷ xs) name i e is = by (bytes_eq name x.name) (named-at (k + 1) xs name i e) is
  where
    by : (b : Bool) → (first_named (k + 1) xs name ≡ Some (i, e) → (j : ℕ) × (i ≡ (k + 1) + j)
        × (slice_get xs j ≡ Some e)) → cond b (Some (k, x)) (first_named (k + 1) xs name) ≡ Some (i, e) → (j : ℕ)
        × (i ≡ k + j) × (slice_get (x ∷ xs) j ≡ Some e)
    by true others f =
        let same : (k, x) ≡ (i, e) = same_Some (k, x) (i, e) f in
        (0, omega (arith, ap (λ (p : ℕ × Element). p.0) same), ap Some (ap (λ (p : ℕ × Element). p.1) same))
    by false others f =
        let later = others f in
        (suc later.0, omega (arith, later.1), later.2)

-- the field at the number of an element is that of the element
field-at : (earlier es : List Element) (fs : List Field) (j : ℕ) (e : Element) → fields_after earlier es ≡ Some fs
    → slice_get es j ≡ Some e → (named : List ℕ → Option Count) × (last : Bool) × (f : Field)
    × (slice_get fs j ≡ Some f) × (field_of named last e ≡ Some f)
field-at earlier [] fs j e is at = absurd (none-some e at)
field-at earlier (x ∷ xs) fs j e is at =
    first (λ rest k. field-at (earlier ++ x ∷ []) xs rest k e) (field_of (count_in earlier) (is_last xs) x) refl is
  where
    Found : List Field → Type 0
    Found fs = (named : List ℕ → Option Count) × (last : Bool) × (f : Field) × (slice_get fs j ≡ Some f)
        × (field_of named last e ≡ Some f)

    Later : Type 0
    Later = (rest : List Field) (k : ℕ) → fields_after (earlier ++ x ∷ []) xs ≡ Some rest → slice_get xs k ≡ Some e
        → (named : List ℕ → Option Count) × (last : Bool) × (f : Field) × (slice_get rest k ≡ Some f)
        × (field_of named last e ≡ Some f)

    here : Later → (j : ℕ) → slice_get (x ∷ xs) j ≡ Some e → (f : Field) (rest : List Field)
        → field_of (count_in earlier) (is_last xs) x ≡ Some f → fields_after (earlier ++ x ∷ []) xs ≡ Some rest
        → (named : List ℕ → Option Count) × (last : Bool) × (g : Field) × (slice_get (f ∷ rest) j ≡ Some g)
        × (field_of named last e ≡ Some g)
    here later zero at f rest is others = (
      count_in earlier,
      is_last xs,
      f,
      refl,
      ap (field_of (count_in earlier) (is_last xs)) (sym (same_Some x e at)) ∙ is,
    )
    here later (suc j) at f rest is others = later rest j others at

    after : Later → (f : Field) → field_of (count_in earlier) (is_last xs) x ≡ Some f → (o : Option (List Field))
        → fields_after (earlier ++ x ∷ []) xs ≡ o → option_map (λ fs. f ∷ fs) o ≡ Some fs → Found fs
    after later f is None others e = absurd (none-some fs e)
    after later f is (Some rest) others e = subst Found (same_Some (f ∷ rest) fs e) (here later j at f rest is others)

    first : Later → (o : Option Field) → field_of (count_in earlier) (is_last xs) x ≡ o
        → option_and_then (λ f. option_map (λ fs. f ∷ fs) (fields_after (earlier ++ x ∷ []) xs)) o ≡ Some fs → Found fs
    first later None is e = absurd (none-some fs e)
    first later (Some f) is e = after later f is (fields_after (earlier ++ x ∷ []) xs) refl e

-- what is found of a number of a name
pub record IsNumbered (fs : List Field) (es : List Element) (i : ℕ) : Type 0 where
  pub field : IsNumberField fs i
  pub within : i < length fs
  pub element : i < length es

pub numbered : (es : List Element) (fs : List Field) (name : List ℕ) (i : ℕ) (e : Element) → layout_of es ≡ Some fs
    → has_named es name is_count ≡ true → first_named 0 es name ≡ Some (i, e) → IsNumbered fs es i
unfolding layout_of
numbered es fs name i e layout passes found =
    let at = named-at 0 es name i e found in
    let same : i ≡ at.0 = omega (arith, at.1) in
    let single : is_single is_count e ≡ true =
    sym (ap (λ o. option_map_or (λ (found : ℕ × Element). is_single is_count found.1) o false) found) ∙ passes in
    let field = field-at [] es fs at.0 e layout at.2 in
    let number = single-field field.0 field.1 e field.2 single field.4 in
    let get : slice_get fs i ≡ Some field.2 = ap (slice_get fs) same ∙ field.3 in
    record {
      field = (number.0, record { field = field.2; is = get; form_is = number.1; single = number.2 });
      within = slice_get_within fs i field.2 get;
      element = slice_get_within es i e (ap (slice_get es) same ∙ at.2);
    }

-- ---- the three names

whole-count : (base : Base) → is_size base ≡ true → is_count base ≡ true
whole-count Int8U e = refl
whole-count base e = absurd (false≢true e)

size-count : (es : List Element) (name : List ℕ) → has_named es name is_size ≡ true → has_named es name is_count ≡ true
size-count es name passes = by (first_named 0 es name) passes
  where
    at : (o : Option ElementType) → option_map_or (λ ty. is_size ty.base && has_no_dims ty.dims) o false ≡ true
        → option_map_or (λ ty. is_count ty.base && has_no_dims ty.dims) o false ≡ true
    at None e = absurd (false≢true e)
    at (Some ty) e =
        let both = and_parts (is_size ty.base) (has_no_dims ty.dims) e in
        λ i. whole-count ty.base both.0 i && both.1 i

    by : (o : Option (ℕ × Element)) → option_map_or (λ found. is_single is_size found.1) o false ≡ true
        → option_map_or (λ found. is_single is_count found.1) o false ≡ true
    by None e = absurd (false≢true e)
    by (Some found) e = at found.1.ty e

pub record AreNamed (es : List Element) : Type 0 where
  pub frames : has_named es (codes "nFrames") is_count ≡ true
  pub bytes : has_named es (codes "nBytes") is_count ≡ true
  pub seek : has_named es (codes "seekTOC") is_count ≡ true

pub closes-named : (es : List Element) → closes es ≡ true → AreNamed es
closes-named es e =
    let a = and_parts (list_all (is_single is_any) es)
    (has_named es (codes "nFrames") is_count
    && (has_named es (codes "nBytes") is_size && has_named es (codes "seekTOC") is_size)) e in
    let b = and_parts (has_named es (codes "nFrames") is_count)
    (has_named es (codes "nBytes") is_size && has_named es (codes "seekTOC") is_size) a.1 in
    let c = and_parts (has_named es (codes "nBytes") is_size) (has_named es (codes "seekTOC") is_size) b.1 in
    record { frames = b.0; bytes = size-count es (codes "nBytes") c.0; seek = size-count es (codes "seekTOC") c.1 }

-- ---- the number of a structure

-- the elements that the dictionary has for a class
abbrev pub elements_in : List Entry → ℕ → List Element
elements_in held class = option_map_or (λ (e : Entry). e.elements) (entry_of held class) []

-- a structure's body by the layout of its class
record HasLayout (order : Order) (held : List Entry) (s : Structure) : Type 0 where
  pub entry : Entry
  pub held_is : entry_of held s.class ≡ Some entry
  pub fs : List Field
  pub layout : layout_of entry.elements ≡ Some fs
  pub layout_is : layout_in held s.class ≡ Some fs
  pub elements_are : elements_in held s.class ≡ entry.elements
  pub body : HasBody order fs s.body

layout-held : (order : Order) (held : List Entry) (s : Structure) → IsSome (reading_of order held s)
    → HasLayout order held s
layout-held order held s reads =
    let read = some-reading (reading_of order held s) reads in
    option_and_then_some (reading_by order s.body) (layout_in held s.class) read.0 read.1 (λ fs is by.
    option_and_then_some (λ (e : Entry). layout_of e.elements) (entry_of held s.class) fs is
    (λ entry there layout.
    record {
      entry = entry;
      held_is = there;
      fs = fs;
      layout = layout;
      layout_is = is;
      elements_are = ap (λ o. option_map_or (λ (e : Entry). e.elements) o []) there;
      body = (
        read.0.values,
        read.0.tail,
        reading-found order s.body fs read.0 (layout-sound held s.class fs is) by,
      );
    }))

-- the first field of a name, and the number there
abbrev pub named-in : Order → List Entry → Structure → List ℕ → ℕ × ℕ
named-in order held s name = (
  field_named (elements_in held s.class) name,
  number_named (elements_in held s.class) (values_of order held s) name,
)

-- the number at the field of a name is the number of that name
pub number-named : (order : Order) (held : List Entry) (s : Structure) (name : List ℕ) (fs : List Field)
    (i n : ℕ) (e : Element) → IsSome (reading_of order held s) → layout_in held s.class ≡ Some fs
    → first_named 0 (elements_in held s.class) name ≡ Some (i, e) → HasNumberAt order fs s.body i n
    → ◌≡◌ {A = ℕ × ℕ} (i, n) (named-in order held s name)
number-named order held s name fs i n e reads is found told =
    let whole = some-reading (reading_of order held s) reads in
    let field : field_named (elements_in held s.class) name ≡ i =
    ap (λ o. option_map_or (λ (found : ℕ × Element). found.0) o 0) found in
    let read : reading_by order s.body fs ≡ Some whole.0 =
    sym (ap (option_and_then (reading_by order s.body)) is) ∙ whole.1 in
    let values : values_of order held s ≡ whole.0.values =
    ap (λ o. option_map_or (λ (r : Reading). r.values) o []) whole.1 in
    let value_is : slice_get whole.0.values i ≡ Some (value.Num n) =
    told whole.0.values whole.0.tail
    (reading-found order s.body fs whole.0 (layout-sound held s.class fs is) read) in
    let number : number_named (elements_in held s.class) (values_of order held s) name ≡ n =
    (λ j. option_map_or number_of (slice_get (values j) (field j)) 0)
    ∙ ap (λ o. option_map_or number_of o 0) value_is in
    λ j. (sym field j, sym number j)

-- the field of a name that is found is a number of the body
pub record IsTold (order : Order) (s : Structure) (fs : List Field) (i : ℕ) : Type 0 where
  pub field : IsNumberField fs i
  pub within : i < length fs
  pub small : i < 4096
  pub body : HasBody order fs s.body

pub number-told : (order : Order) (held : List Entry) (s : Structure) (name : List ℕ) (fs : List Field)
    (i : ℕ) (e : Element) → IsDictionary held → IsSome (reading_of order held s)
    → layout_in held s.class ≡ Some fs → has_named (elements_in held s.class) name is_count ≡ true
    → first_named 0 (elements_in held s.class) name ≡ Some (i, e) → IsTold order s fs i
number-told order held s name fs i e sound reads is passes found =
    let l = layout-held order held s reads in
    let same : l.fs ≡ fs = same_Some l.fs fs (sym l.layout_is ∙ is) in
    let layout : layout_of (elements_in held s.class) ≡ Some fs =
    ap layout_of l.elements_are ∙ l.layout ∙ ap Some same in
    let n = numbered (elements_in held s.class) fs name i e layout passes found in
    let few : length (elements_in held s.class) ≤ 4096 =
    subst (λ (es : List Element). length es ≤ 4096) (sym l.elements_are)
    (sound.entries s.class l.entry l.held_is).short in
    record {
      field = n.field;
      within = n.within;
      small = omega (arith, n.element, few);
      body = subst (λ fs. HasBody order fs s.body) same l.body;
    }
