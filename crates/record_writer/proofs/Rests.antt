-- Two lists that are gone through side by side, by what is left of them.
use Rattle.std.proofs.Common.{◌≡◌, ℕ, suc, ◌+◌, ◌⊎◌, ◌↔◌, List, [], ◌∷◌, ◌++◌, length, refl, sym, ap, ◌∙◌, inl, inr}
use Rattle.std.proofs.Common.{append_assoc, append-nil}
use Rattle.std.specs.List.{AllZip}
use Rattle.scalar_types.specs.declared.Order.{Order}
use Rattle.record_values.specs.declared.values.Value.{Value}
use Rattle.layout_plan.specs.declared.fields.Field.{Field}
use Rattle.layout_plan.specs.Appends.{Appends}
use Rattle.layout_plan.specs.Body.{IsFieldBy, AreFieldsBy, value_length, values_length}
use Rattle.layout_plan.proofs.AppendLemmas.{Appends-none, Appends-more, Appends-as}

-- the first of what is left
pub values_length-step : (fs : List Field) (vs : List Value) (f : Field) (v : Value) (fs' : List Field)
    (vs' : List Value) → (fs ≡ f ∷ fs') × (vs ≡ v ∷ vs')
    → values_length fs vs ≡ value_length f.form v + values_length fs' vs'
values_length-step fs vs f v fs' vs' (e, e') = rw (e, e') refl

values_length-nil : (fs : List Field) → values_length fs [] ≡ 0
values_length-nil [] = refl
values_length-nil (f ∷ fs) = refl

-- nothing is left
pub values_length-end : (fs : List Field) (vs : List Value) → (fs ≡ []) ⊎ (vs ≡ []) → values_length fs vs ≡ 0
values_length-end fs vs (inl e) = rw e refl
values_length-end fs vs (inr e) = rw e (values_length-nil fs)

-- the first of what is left
pub AllZip-step : {A B : Type 0} (R : A → B
    → Type 0) (xs : List A) (ys : List B) (x : A) (y : B) (xs' : List A) (ys' : List B) → (xs ≡ x ∷ xs')
    × (ys ≡ y ∷ ys') → AllZip R xs ys ↔ (R x y × AllZip R xs' ys')
AllZip-step R xs ys x y xs' ys' (e, e') =
    (λ all. rw (e, e') at all, λ all. rw (e, e') all)

-- the lengths of what is left
pub length-step : {A B : Type 0} (xs : List A) (ys : List B) (x : A) (y : B) (xs' : List A) (ys' : List B)
    → (xs ≡ x ∷ xs') × (ys ≡ y ∷ ys') → length xs ≡ length ys → length xs' ≡ length ys'
length-step xs ys x y xs' ys' (e, e') same =
    let cons : suc (length xs') ≡ suc (length ys') = sym (ap length e) ∙ same ∙ ap length e' in
    cc

-- nothing is left
pub AllZip-end : {A B : Type 0} (R : A → B → Type 0) (xs : List A) (ys : List B) → (xs ≡ []) ⊎ (ys ≡ [])
    → length xs ≡ length ys → AllZip R xs ys
AllZip-end R [] [] end same = tt
AllZip-end R [] (y ∷ ys) end same = cc
AllZip-end R (x ∷ xs) [] end same = cc
AllZip-end R (x ∷ xs) (y ∷ ys) (inl e) same = cc
AllZip-end R (x ∷ xs) (y ∷ ys) (inr e) same = cc

-- The bytes spell the values before what is left of them.
abbrev pub AreFieldsBefore : (List ℕ → List ℕ → Type 0) → Order → List ℕ → List Field → List Value → List Field
    → List Value → List ℕ → Type 0
AreFieldsBefore R order numbers fields values fs vs bytes =
    (more : List ℕ) → AreFieldsBy R order numbers fs vs more → AreFieldsBy R order numbers fields values (bytes ++ more)

-- nothing is appended yet
pub fields_none : (R : List ℕ → List ℕ
    → Type 0) (order : Order) (numbers : List ℕ) (fields : List Field) (values : List Value) (old : List ℕ)
    → Appends (AreFieldsBefore R order numbers fields values fields values) old old
fields_none R order numbers fields values old =
    Appends-none (AreFieldsBefore R order numbers fields values fields values) old (λ more spelled. spelled)

-- one more value is appended
pub fields_more : (R : List ℕ → List ℕ
    → Type 0) (order : Order) (numbers : List ℕ) (fields : List Field) (values : List Value) (fs : List Field)
    (vs : List Value) (f : Field) (v : Value) (fs' : List Field) (vs' : List Value) (old mid new : List ℕ)
    → (fs ≡ f ∷ fs') × (vs ≡ v ∷ vs') → Appends (AreFieldsBefore R order numbers fields values fs vs) old mid
    → Appends (IsFieldBy R order numbers f.form f.counts v) mid new
    → Appends (AreFieldsBefore R order numbers fields values fs' vs') old new
fields_more R order numbers fields values fs vs f v fs' vs' old mid new (e, e') before one =
    Appends-more (AreFieldsBefore R order numbers fields values fs vs) (IsFieldBy R order numbers f.form f.counts v)
    (AreFieldsBefore R order numbers fields values fs' vs') old mid new before one both
  where
    both : (xs ys : List ℕ) → AreFieldsBefore R order numbers fields values fs vs xs
        → IsFieldBy R order numbers f.form f.counts v ys
        → AreFieldsBefore R order numbers fields values fs' vs' (xs ++ ys)
    both xs ys spelled here more others =
        rw append_assoc (spelled (ys ++ more) (rw (e, e') (ys, more, refl, here, others)))

-- nothing is left to spell
fields_nil : (P : Field → Value → Type 0) (R : List ℕ → List ℕ
    → Type 0) (order : Order) (numbers : List ℕ) (fs : List Field) (vs : List Value) → (fs ≡ []) ⊎ (vs ≡ [])
    → AllZip P fs vs → AreFieldsBy R order numbers fs vs []
fields_nil P R order numbers [] [] end fit = refl
fields_nil P R order numbers [] (v ∷ vs) end fit = absurd fit
fields_nil P R order numbers (f ∷ fs) [] end fit = absurd fit
fields_nil P R order numbers (f ∷ fs) (v ∷ vs) (inl e) fit = cc
fields_nil P R order numbers (f ∷ fs) (v ∷ vs) (inr e) fit = cc

-- all are appended
pub fields_all : (P : Field → Value → Type 0) (R : List ℕ → List ℕ
    → Type 0) (order : Order) (numbers : List ℕ) (fields : List Field) (values : List Value) (fs : List Field)
    (vs : List Value) (old new : List ℕ) → (fs ≡ []) ⊎ (vs ≡ []) → AllZip P fs vs
    → Appends (AreFieldsBefore R order numbers fields values fs vs) old new
    → Appends (AreFieldsBy R order numbers fields values) old new
fields_all P R order numbers fields values fs vs old new end fit before =
    Appends-as (AreFieldsBefore R order numbers fields values fs vs) (AreFieldsBy R order numbers fields values) old new
    before (λ bytes spelled. rw append-nil at (spelled [] (fields_nil P R order numbers fs vs end fit)))
