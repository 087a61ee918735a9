-- Names met one after another: whether they are distinct, and the set of them.
use Rattle.std.proofs.Common.{◌≡◌, ℕ, ◌+◌, Bool, true, false, cond, List, [], ◌∷◌, ◌++◌, take, drop, Some}
use Rattle.std.proofs.Common.{refl, sym, ap, ◌∙◌}
use Rattle.std.specs.Prelude.{◌&&◌, ◌||◌, not, slice_get}
use Rattle.std.specs.List.{list_any}
use Rattle.std.specs.Str.{bytes_eq}
use Rattle.std.specs.Borrow.{Bor}
use Rattle.std.specs.Cmp.Lexicographic.{slice_cmp, nat_list_eq_equiv}
use Rattle.std.specs.Ordering.{nat_cmp}
use Rattle.std.specs.BTreeSet.{BTreeSet, Updates}
use Rattle.std.proofs.lemmas.List.{take-append-drop}
use Rattle.std.proofs.lemmas.List.Folds.{list_any-append}
use Rattle.std.proofs.lemmas.Map.Text.{is_eq-slice_cmp}
use Rattle.layout_plan.proofs.ReadingLemmas.{element-at}
use Rattle.contents_table.specs.Built.{are_distinct}
use Rattle.contents_table.specs.Views.{holds}
use Rattle.contents_table.proofs.Distinct.{distinct-push}

-- ---- distinct names

pub distinct-more : (names : List (List ℕ)) (k : ℕ) (name : List ℕ) → slice_get names k ≡ Some name
    → are_distinct (take (k + 1) names) ≡ (are_distinct (take k names) && not (list_any (bytes_eq name) (take k names)))
distinct-more names k name is =
    ap are_distinct (element-at names k name is).through ∙ distinct-push (take k names) name

both-true : (a b c : Bool) → (not (a || c) && b) ≡ true → (not a ≡ true) × (b ≡ true)
both-true true b c e = cc
both-true false true c e = (refl, refl)
both-true false false true e = cc
both-true false false false e = cc

distinct-front : (names others : List (List ℕ)) → are_distinct (names ++ others) ≡ true → are_distinct names ≡ true
distinct-front [] others e = refl
distinct-front (n ∷ names) others e =
    let b = both-true (list_any (bytes_eq n) names) (are_distinct (names ++ others)) (list_any (bytes_eq n) others)
    (ap (λ b. not b && are_distinct (names ++ others)) (sym (list_any-append (bytes_eq n) names others)) ∙ e) in
    λ i. (ap (λ b. b && are_distinct names) b.0 ∙ distinct-front names others b.1) i

-- the first of distinct names are distinct
pub distinct-take : (names : List (List ℕ)) (k : ℕ) → are_distinct names ≡ true → are_distinct (take k names) ≡ true
distinct-take names k e =
    distinct-front (take k names) (drop k names) (ap are_distinct (take-append-drop k names) ∙ e)

-- a name that has come before
pub distinct-twice : (names : List (List ℕ)) (k : ℕ) (name : List ℕ) → slice_get names k ≡ Some name
    → list_any (bytes_eq name) (take k names) ≡ true → are_distinct names ≡ true → ⊥
distinct-twice names k name is met e =
    apart (are_distinct (take k names))
    (ap (λ b. are_distinct (take k names) && not b) (sym met) ∙ sym (distinct-more names k name is)
    ∙ distinct-take names (k + 1) e)
  where
    apart : (b : Bool) → (b && not true) ≡ true → ⊥
    apart true e = cc
    apart false e = cc

-- ---- the set of names

holds-insert : (names more : BTreeSet (Bor (List ℕ))) (key : Bor (List ℕ))
    → Updates (λ x y. slice_cmp nat_cmp x.now y.now) names more key true
    → (name : List ℕ) → holds more name ≡ cond (bytes_eq key.now name) true (holds names name)
holds-insert names more key updates name =
    updates.0 (record { ref_ptr = key.ref_ptr; now = name })
    ∙ ap (λ b. cond b true (holds names name)) (is_eq-slice_cmp key.now name)

-- one more name in the set
pub holds-more : (names : List (List ℕ)) (k : ℕ) (met more : BTreeSet (Bor (List ℕ))) (key : Bor (List ℕ))
    → slice_get names k ≡ Some key.now
    → Updates (λ x y. slice_cmp nat_cmp x.now y.now) met more key true
    → ((name : List ℕ) → holds met name ≡ list_any (bytes_eq name) (take k names))
    → (name : List ℕ) → holds more name ≡ list_any (bytes_eq name) (take (k + 1) names)
holds-more names k met more key is updates before name =
    holds-insert met more key updates name
    ∙ ap (cond (bytes_eq key.now name) true) (before name)
    ∙ joined (bytes_eq key.now name) (list_any (bytes_eq name) (take k names))
    ∙ ap (λ b. list_any (bytes_eq name) (take k names) || (b || false)) (nat_list_eq_equiv.symm key.now name)
    ∙ sym (ap (list_any (bytes_eq name)) (element-at names k key.now is).through
    ∙ list_any-append (bytes_eq name) (take k names) (key.now ∷ []))
  where
    joined : (here before : Bool) → cond here true before ≡ (before || (here || false))
    joined true true = refl
    joined true false = refl
    joined false true = refl
    joined false false = refl
