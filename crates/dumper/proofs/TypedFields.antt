-- The fields of a layout are those of its elements, one each.
use Rattle.std.proofs.Common.{◌≡◌, ℕ, zero, suc, ◌<◌, Bool, List, [], ◌∷◌, ◌++◌, length, get_or, Option, Some, None}
use Rattle.std.proofs.Common.{IsSome, ◌∙◌}
use Rattle.std.proofs.Common.{refl, sym, ap, subst, option_and_then}
use Rattle.std.specs.Prelude.{slice_get, ◌&&◌}
use Rattle.std.specs.Option.{option_map, option_map_or}
use Rattle.std.proofs.lemmas.Option.{same_Some, slice_get_read}
use Rattle.type_text.specs.declared.types.Base.TheVariants.{Str}
use Rattle.type_text.specs.declared.types.ElementType.{ElementType}
use Rattle.dictionary.specs.declared.entries.Element.{Element}
use Rattle.layout_plan.specs.declared.fields.Count.{Count}
use Rattle.layout_plan.specs.declared.fields.Field.{Field}
use Rattle.layout_plan.specs.Layout.{form_of, count_in, counts_of, is_last, is_check_sum, field_of_type, field_of}
use Rattle.layout_plan.specs.Layout.{fields_after, layout_of}
use Rattle.dumper.specs.Lines.{base_of}

-- the element has a type, and the field its form
pub record IsTyped (e : Element) (f : Field) : Type 0 where
  pub typed : IsSome e.ty
  pub form : f.form ≡ form_of (base_of e)

-- each element and the field at its place
abbrev AreTyped : List Element → List Field → Type 0
AreTyped [] [] = Unit {0}
AreTyped [] (f ∷ fs) = ⊥
AreTyped (e ∷ es) [] = ⊥
AreTyped (e ∷ es) (f ∷ fs) = IsTyped e f × AreTyped es fs

field-typed : (named : List ℕ → Option Count) (last : Bool) (e : Element) (f : Field)
    → field_of named last e ≡ Some f → IsTyped e f
field-typed named last e f h =
    let both = by (last && is_check_sum e) e.ty h in
    record { typed = both.0; form = both.1 }
  where
    form : (sum : Bool) (ty : ElementType) (o : Option (List Count))
        → option_map (λ counts. record { form = form_of ty.base; counts = counts; is_sum = sum }) o ≡ Some f
        → f.form ≡ form_of ty.base
    form sum ty None h = cc
    form sum ty (Some counts) h = sym (ap (λ (f : Field). f.form) (same_Some _ f h))

    by : (sum : Bool) (ty : Option ElementType) → option_and_then (field_of_type named sum) ty ≡ Some f
        → IsSome ty × (f.form ≡ form_of (option_map_or (λ (ty : ElementType). ty.base) ty Str))
    by sum None h = cc
    by sum (Some ty) h = (refl, form sum ty (counts_of named ty.dims) h)

fields-typed : (earlier es : List Element) (fs : List Field) → fields_after earlier es ≡ Some fs → AreTyped es fs
fields-typed earlier [] fs h = subst (AreTyped []) (same_Some [] fs h) tt
fields-typed earlier (e ∷ es) fs h =
    by (field_of (count_in earlier) (is_last es) e) (fields_after (earlier ++ e ∷ []) es)
    (λ f is. field-typed (count_in earlier) (is_last es) e f is)
    (λ gs is. fields-typed (earlier ++ e ∷ []) es gs is) h
  where
    by : (o : Option Field) (others : Option (List Field)) → ((f : Field) → o ≡ Some f → IsTyped e f)
        → ((gs : List Field) → others ≡ Some gs → AreTyped es gs)
        → option_and_then (λ f. option_map (λ gs. f ∷ gs) others) o ≡ Some fs → AreTyped (e ∷ es) fs
    by None others here after h = cc
    by (Some f) None here after h = cc
    by (Some f) (Some gs) here after h =
        subst (AreTyped (e ∷ es)) (same_Some (f ∷ gs) fs h) (here f refl, after gs refl)

layout-typed : (elements : List Element) (fields : List Field) → layout_of elements ≡ Some fields
    → AreTyped elements fields
unfolding layout_of
layout-typed elements fields h = fields-typed [] elements fields h

typed-length : (es : List Element) (fs : List Field) → AreTyped es fs → length es ≡ length fs
typed-length [] [] typed = refl
typed-length [] (f ∷ fs) typed = absurd typed
typed-length (e ∷ es) [] typed = absurd typed
typed-length (e ∷ es) (f ∷ fs) typed = ap suc (typed-length es fs typed.1)

typed-at : (es : List Element) (fs : List Field) (k : ℕ) (e : Element) (f : Field) → AreTyped es fs
    → slice_get es k ≡ Some e → slice_get fs k ≡ Some f → IsTyped e f
typed-at [] fs k e f typed here field = cc
typed-at (x ∷ es) [] k e f typed here field = absurd typed
typed-at (x ∷ es) (g ∷ fs) zero e f typed here field =
    subst (λ e. IsTyped e f) (same_Some x e here) (subst (IsTyped x) (same_Some g f field) typed.0)
typed-at (x ∷ es) (g ∷ fs) (suc k) e f typed here field = typed-at es fs k e f typed.1 here field

-- as many elements as fields
pub elements-length : (es : List Element) (fs plan : List Field) → layout_of es ≡ Some plan → fs ≡ plan
    → length es ≡ length fs
elements-length es fs plan layout is = typed-length es plan (layout-typed es plan layout) ∙ ap length (sym is)

pub element-here : (es : List Element) (fs plan : List Field) (k : ℕ) (e : Element) → layout_of es ≡ Some plan
    → fs ≡ plan → k < length fs → e ≡ get_or es k e → slice_get es k ≡ Some e
element-here es fs plan k e layout is lt here =
    slice_get_read es (length fs) k e (sym (elements-length es fs plan layout is)) lt here

-- an element and the field at its place
pub typed-here : (es : List Element) (fs plan : List Field) (k : ℕ) (e : Element) (f : Field)
    → layout_of es ≡ Some plan → fs ≡ plan → k < length fs → e ≡ get_or es k e → f ≡ get_or fs k f → IsTyped e f
typed-here es fs plan k e f layout is lt here field =
    typed-at es plan k e f (layout-typed es plan layout) (element-here es fs plan k e layout is lt here)
    (ap (λ fs. slice_get fs k) (sym is) ∙ slice_get_read fs (length fs) k f refl lt field)
