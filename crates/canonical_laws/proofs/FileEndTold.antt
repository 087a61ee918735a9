-- What the end of a file tells: its values fit its layout, are small, and are read under their names.
use Rattle.std.proofs.Common.{◌≡◌, ℕ, ◌+◌, ◌^◌, ◌<◌, ◌≤◌, ◌⊎◌, inl, inr, Bool, true, false, ◌&&◌, cond, eqb, Option}
use Rattle.std.proofs.Common.{Some, None, List, [], ◌∷◌, ◌++◌, length, codes, refl, sym, ap, ◌∙◌, subst, arith}
use Rattle.std.proofs.Common.{length-append}
use Rattle.std.specs.Prelude.{slice_get}
use Rattle.std.specs.List.{list_all}
use Rattle.std.specs.Option.{option_map_or}
use Rattle.std.specs.Str.{bytes_eq}
use Rattle.std.proofs.lemmas.Bool.{and_parts, false≢true, eqb-true, eq-eqb, ne_eqb}
use Rattle.std.proofs.lemmas.Option.{same_Some}
use Rattle.std.proofs.lemmas.Slice.Eq.{bytes_eq-Decides}
use Rattle.scalar_types.specs.declared.Order.TheVariants.{Little}
use Rattle.scalar_types.specs.declared.Width.{Width}
use Rattle.scalar_types.specs.declared.Width.TheVariants.{One, Two, Four, Eight}
use Rattle.scalar_types.specs.Number.{size_of}
use Rattle.scalar_types.proofs.NumberBytes.{bytes_of-length}
use Rattle.type_text.specs.declared.types.Base.{Base}
use Rattle.type_text.specs.declared.types.Base.TheVariants.{Int4U, Int8U}
use Rattle.type_text.specs.declared.types.ElementType.{ElementType}
use Rattle.record_values.specs.declared.values.Value.{Value}
use Rattle.record_values.specs.declared.values.Value.TheVariants as value
use Rattle.dictionary.specs.declared.entries.Element.{Element}
use Rattle.dictionary.specs.Named.{first_named}
use Rattle.layout_plan.specs.declared.fields.Form.{Form}
use Rattle.layout_plan.specs.declared.fields.Form.TheVariants.{Number, Pair, Text, Link}
use Rattle.layout_plan.specs.Layout.{form_of, has_no_dims}
use Rattle.layout_plan.specs.Body.{number_of}
use Rattle.record_writer.specs.Fit.{FitsSingle}
use Rattle.file_grammar.specs.Closing.{is_single, is_any, is_count, is_size, has_named, closes, field_named}
use Rattle.file_grammar.specs.Closing.{number_named}
use Rattle.contents_table.specs.Told.{blank_single}
use Rattle.contents_table.proofs.FirstNamed.{named-at, number-is}
use Rattle.canonical_file.specs.Ranges.{IsInRange}
use Rattle.canonical_file.specs.Bytes.{number_bytes}
use Rattle.canonical_file.specs.Written.{end_told}
use Rattle.canonical_laws.proofs.PlainFields.{form_by, value_at, plain_values, value-found, EachValue, InRange}
use Rattle.canonical_laws.proofs.PlainFields.{IsSmall}

-- ---- what the layout has

pub record Closes (all : List Element) : Type 0 where
  pub singles : list_all (is_single is_any) all ≡ true
  pub frames : has_named all (codes "nFrames") is_count ≡ true
  pub bytes : has_named all (codes "nBytes") is_size ≡ true
  pub seek : has_named all (codes "seekTOC") is_size ≡ true

pub closes-parts : (all : List Element) → closes all ≡ true → Closes all
closes-parts all is =
    let sizes : Bool = has_named all (codes "nBytes") is_size && has_named all (codes "seekTOC") is_size in
    let a = and_parts (list_all (is_single is_any) all) (has_named all (codes "nFrames") is_count && sizes) is in
    let b = and_parts (has_named all (codes "nFrames") is_count) sizes a.1 in
    let c = and_parts (has_named all (codes "nBytes") is_size) (has_named all (codes "seekTOC") is_size) b.1 in
    record { singles = a.0; frames = b.0; bytes = c.0; seek = c.1 }

-- the first element of a name, which passes
record IsNamed (all : List Element) (name : List ℕ) (passes : Base → Bool) : Type 0 where
  element : Element
  at : slice_get all (field_named all name) ≡ Some element
  name_is : name ≡ element.name
  passed : is_single passes element ≡ true

has-named : (all : List Element) (name : List ℕ) (passes : Base → Bool) → has_named all name passes ≡ true
    → IsNamed all name passes
has-named all name passes has = by (first_named 0 all name) refl has
  where
    by : (o : Option (ℕ × Element)) → first_named 0 all name ≡ o
        → option_map_or (λ (found : ℕ × Element). is_single passes found.1) o false ≡ true → IsNamed all name passes
    by None found has = absurd (false≢true has)
    by (Some p) found has =
        let there = named-at all name p.0 p.1 found in
        record {
          element = p.1;
          at = ap (slice_get all) (sym (number-is all name p found)) ∙ there.0;
          name_is = (bytes_eq-Decides name p.1.name).0 there.1;
          passed = has;
        }

-- two names are those of two elements
names-apart : (all : List Element) (name other : List ℕ) (passes tests : Base → Bool) → IsNamed all name passes
    → IsNamed all other tests → bytes_eq name other ≡ false → eqb (field_named all name) (field_named all other) ≡ false
names-apart all name other passes tests n m differ =
    ne_eqb (field_named all name) (field_named all other) (λ same. apart (names same))
  where
    names : field_named all name ≡ field_named all other → name ≡ other
    names same =
        let one : n.element ≡ m.element =
        same_Some n.element m.element (sym n.at ∙ ap (slice_get all) same ∙ m.at) in
        n.name_is ∙ ap (λ (e : Element). e.name) one ∙ sym m.name_is

    apart : name ≡ other → ⊥
    apart same = false≢true (sym differ ∙ (bytes_eq-Decides name other).1 same)

-- ---- forms

count-form : (e : Element) → is_single is_count e ≡ true → (form_by e ≡ Number Four) ⊎ (form_by e ≡ Number Eight)
count-form e is = by e.ty is
  where
    go : (base : Base) (rest : Bool) → (is_count base && rest) ≡ true
        → (form_of base ≡ Number Four) ⊎ (form_of base ≡ Number Eight)
    go Int4U rest is = inl refl
    go Int8U rest is = inr refl
    go base rest is = absurd (false≢true is)

    by : (o : Option ElementType)
        → option_map_or (λ (ty : ElementType). is_count ty.base && has_no_dims ty.dims) o false ≡ true
        → (option_map_or (λ (ty : ElementType). form_of ty.base) o Text ≡ Number Four)
        ⊎ (option_map_or (λ (ty : ElementType). form_of ty.base) o Text ≡ Number Eight)
    by None is = absurd (false≢true is)
    by (Some ty) is = go ty.base (has_no_dims ty.dims) is

size-form : (e : Element) → is_single is_size e ≡ true → form_by e ≡ Number Eight
size-form e is = by e.ty is
  where
    go : (base : Base) (rest : Bool) → (is_size base && rest) ≡ true → form_of base ≡ Number Eight
    go Int8U rest is = refl
    go base rest is = absurd (false≢true is)

    by : (o : Option ElementType)
        → option_map_or (λ (ty : ElementType). is_size ty.base && has_no_dims ty.dims) o false ≡ true
        → option_map_or (λ (ty : ElementType). form_of ty.base) o Text ≡ Number Eight
    by None is = absurd (false≢true is)
    by (Some ty) is = go ty.base (has_no_dims ty.dims) is

-- ---- what is told

-- the value of a field, by whether it is that of each name
abbrev told_by : ℕ → ℕ → ℕ → Bool → Bool → Bool → Value → Value
told_by n bytes seek x y z blank =
    cond x (value.Num n) (cond y (value.Num bytes) (cond z (value.Num seek) blank))

told-is : (all : List Element) (n bytes seek k : ℕ) (e : Element)
    → value_at (end_told all n bytes seek) k e
    ≡ told_by n bytes seek (eqb (field_named all (codes "nFrames")) k) (eqb (field_named all (codes "nBytes")) k)
    (eqb (field_named all (codes "seekTOC")) k) (blank_single (form_by e))
told-is all n bytes seek k e =
    by (eqb (field_named all (codes "nFrames")) k) (eqb (field_named all (codes "nBytes")) k)
    (eqb (field_named all (codes "seekTOC")) k)
  where
    by : (x y z : Bool)
        → option_map_or (λ (t : ℕ × Value). t.1)
        (cond x (Some (field_named all (codes "nFrames"), value.Num n))
        (cond y (Some (field_named all (codes "nBytes"), value.Num bytes))
        (cond z (Some (field_named all (codes "seekTOC"), value.Num seek)) None))) (blank_single (form_by e))
        ≡ told_by n bytes seek x y z (blank_single (form_by e))
    by true y z = refl
    by false true z = refl
    by false false true = refl
    by false false false = refl

-- what holds of the three numbers in their fields, and of blanks, holds of each value
each-told : (P : Form → Value → Type 0) (all : List Element) (n bytes seek : ℕ)
    → ((e : Element) → slice_get all (field_named all (codes "nFrames")) ≡ Some e → P (form_by e) (value.Num n))
    → ((e : Element) → slice_get all (field_named all (codes "nBytes")) ≡ Some e → P (form_by e) (value.Num bytes))
    → ((e : Element) → slice_get all (field_named all (codes "seekTOC")) ≡ Some e → P (form_by e) (value.Num seek))
    → ((form : Form) → P form (blank_single form)) → EachValue P (end_told all n bytes seek) 0 all
each-told P all n bytes seek one two three blank i e is j same =
    subst (P (form_by e)) (sym (told-is all n bytes seek j e))
    (by (eqb (field_named all (codes "nFrames")) j) (eqb (field_named all (codes "nBytes")) j)
    (eqb (field_named all (codes "seekTOC")) j) refl refl refl)
  where
    here : (k : ℕ) → eqb k j ≡ true → slice_get all k ≡ Some e
    here k found =
        let place : k ≡ i = omega (arith, eqb-true k j found, same) in
        ap (slice_get all) place ∙ is

    by : (x y z : Bool) → eqb (field_named all (codes "nFrames")) j ≡ x → eqb (field_named all (codes "nBytes")) j ≡ y
        → eqb (field_named all (codes "seekTOC")) j ≡ z
        → P (form_by e) (told_by n bytes seek x y z (blank_single (form_by e)))
    by true y z a b c = one e (here (field_named all (codes "nFrames")) a)
    by false true z a b c = two e (here (field_named all (codes "nBytes")) b)
    by false false true a b c = three e (here (field_named all (codes "seekTOC")) c)
    by false false false a b c = blank (form_by e)

-- ---- it fits

zero-fits : (width : Width) → 0 < 256 ^ size_of width
zero-fits One = omega arith
zero-fits Two = omega arith
zero-fits Four = omega arith
zero-fits Eight = omega arith

blank-fits : (form : Form) → FitsSingle form (blank_single form)
blank-fits (Number width) = zero-fits width
blank-fits (Pair width) = (zero-fits width, zero-fits width)
blank-fits Text = omega arith
blank-fits Link = tt

blank-range : (form : Form) → IsInRange (blank_single form)
blank-range (Number width) = tt
blank-range (Pair width) = tt
blank-range Text = tt
blank-range Link = (omega arith, omega arith)

count-fits : (form : Form) (n : ℕ) → (form ≡ Number Four) ⊎ (form ≡ Number Eight) → n < 256 ^ 4
    → FitsSingle form (value.Num n)
count-fits form n (inl is) small = subst (λ f. FitsSingle f (value.Num n)) (sym is) small
count-fits form n (inr is) small = subst (λ f. FitsSingle f (value.Num n)) (sym is) (omega arith)

size-fits : (form : Form) (n : ℕ) → form ≡ Number Eight → n < 256 ^ 8 → FitsSingle form (value.Num n)
size-fits form n is small = subst (λ f. FitsSingle f (value.Num n)) (sym is) small

-- an element that is there passes
passes : (all : List Element) (name : List ℕ) (test : Base → Bool) → has_named all name test ≡ true → (e : Element)
    → slice_get all (field_named all name) ≡ Some e → is_single test e ≡ true
passes all name test has e is =
    let named = has-named all name test has in
    let same : named.element ≡ e = same_Some named.element e (sym named.at ∙ is) in
    ap (is_single test) (sym same) ∙ named.passed

pub end-fits : (all : List Element) (n bytes seek : ℕ) → Closes all → n < 256 ^ 4 → bytes < 256 ^ 8 → seek < 256 ^ 8
    → EachValue FitsSingle (end_told all n bytes seek) 0 all
end-fits all n bytes seek has few short near =
    each-told FitsSingle all n bytes seek
    (λ e is. count-fits (form_by e) n (count-form e (passes all (codes "nFrames") is_count has.frames e is)) few)
    (λ e is. size-fits (form_by e) bytes (size-form e (passes all (codes "nBytes") is_size has.bytes e is)) short)
    (λ e is. size-fits (form_by e) seek (size-form e (passes all (codes "seekTOC") is_size has.seek e is)) near)
    blank-fits

pub end-range : (all : List Element) (n bytes seek : ℕ) → EachValue InRange (end_told all n bytes seek) 0 all
end-range all n bytes seek =
    each-told InRange all n bytes seek (λ e is. tt) (λ e is. tt) (λ e is. tt) blank-range

-- ---- how many bytes

small-width : (width : Width) → size_of width ≤ 8
small-width One = omega arith
small-width Two = omega arith
small-width Four = omega arith
small-width Eight = omega arith

number-size : (width : Width) (n : ℕ) → length (number_bytes width n) ≡ size_of width
number-size width n = bytes_of-length Little width n

num-small : (form : Form) (n : ℕ) → IsSmall form (value.Num n)
num-small (Number width) n = omega (arith, number-size width n, small-width width)
num-small (Pair width) n = omega arith
num-small Text n = omega arith
num-small Link n = omega arith

blank-small : (form : Form) → IsSmall form (blank_single form)
blank-small (Number width) = num-small (Number width) 0
blank-small (Pair width) =
    omega (
      arith,
      length-append (number_bytes width 0) (number_bytes width 0),
      number-size width 0,
      small-width width,
    )
blank-small Text =
    let head : List ℕ = number_bytes Two 1 in
    let none : List ℕ = [] in
    omega (arith, length-append (head ++ none) (0 ∷ []), length-append head none, number-size Two 1)
blank-small Link =
    omega (
      arith,
      length-append (number_bytes Two 0) (number_bytes Four 0),
      number-size Two 0,
      number-size Four 0,
    )

pub end-small : (all : List Element) (n bytes seek : ℕ) → EachValue IsSmall (end_told all n bytes seek) 0 all
end-small all n bytes seek =
    each-told IsSmall all n bytes seek (λ e is. num-small (form_by e) n) (λ e is. num-small (form_by e) bytes)
    (λ e is. num-small (form_by e) seek) blank-small

-- ---- it is read under its names

number-at : (all : List Element) (name : List ℕ) (test : Base → Bool) (n bytes seek m : ℕ) → IsNamed all name test
    → ((blank : Value) → told_by n bytes seek (eqb (field_named all (codes "nFrames")) (field_named all name))
    (eqb (field_named all (codes "nBytes")) (field_named all name))
    (eqb (field_named all (codes "seekTOC")) (field_named all name)) blank ≡ value.Num m)
    → number_named all (plain_values (end_told all n bytes seek) 0 all) name ≡ m
number-at all name test n bytes seek m named is =
    let k : ℕ = field_named all name in
    let start : 0 + k ≡ k = omega arith in
    let there = value-found (end_told all n bytes seek) 0 all k named.element named.at in
    ap (λ o. option_map_or number_of o 0) there
    ∙ ap (λ j. number_of (value_at (end_told all n bytes seek) j named.element)) start
    ∙ ap number_of (told-is all n bytes seek k named.element ∙ is (blank_single (form_by named.element)))

-- What is read of the end of a file.
pub record IsTold (all : List Element) (values : List Value) (n bytes seek : ℕ) : Type 0 where
  pub frames : number_named all values (codes "nFrames") ≡ n
  pub bytes_are : number_named all values (codes "nBytes") ≡ bytes
  pub seek_is : number_named all values (codes "seekTOC") ≡ seek

pub end-told : (all : List Element) (n bytes seek : ℕ) → Closes all
    → IsTold all (plain_values (end_told all n bytes seek) 0 all) n bytes seek
end-told all n bytes seek has =
    let one = has-named all (codes "nFrames") is_count has.frames in
    let two = has-named all (codes "nBytes") is_size has.bytes in
    let three = has-named all (codes "seekTOC") is_size has.seek in
    let k : List ℕ → ℕ = field_named all in
    let own : (j : ℕ) → eqb j j ≡ true = λ j. eq-eqb j j refl in
    let x : eqb (k (codes "nFrames")) (k (codes "nBytes")) ≡ false =
    names-apart all (codes "nFrames") (codes "nBytes") is_count is_size one two refl in
    let y : eqb (k (codes "nFrames")) (k (codes "seekTOC")) ≡ false =
    names-apart all (codes "nFrames") (codes "seekTOC") is_count is_size one three refl in
    let z : eqb (k (codes "nBytes")) (k (codes "seekTOC")) ≡ false =
    names-apart all (codes "nBytes") (codes "seekTOC") is_size is_size two three refl in
    record {
      frames = number-at all (codes "nFrames") is_count n bytes seek n one
          (λ blank. λ i. cond (own (k (codes "nFrames")) i) (value.Num n)
          (cond (eqb (k (codes "nBytes")) (k (codes "nFrames"))) (value.Num bytes)
          (cond (eqb (k (codes "seekTOC")) (k (codes "nFrames"))) (value.Num seek) blank)));
      bytes_are = number-at all (codes "nBytes") is_size n bytes seek bytes two
          (λ blank. λ i. cond (x i) (value.Num n)
          (cond (own (k (codes "nBytes")) i) (value.Num bytes)
          (cond (eqb (k (codes "seekTOC")) (k (codes "nBytes"))) (value.Num seek) blank)));
      seek_is = number-at all (codes "seekTOC") is_size n bytes seek seek three
          (λ blank. λ i. cond (y i) (value.Num n) (cond (z i) (value.Num bytes)
          (cond (own (k (codes "seekTOC")) i) (value.Num seek) blank)));
    }
