-- A clone equals its source.
use Rattle.std.proofs.Common.{◌≡◌, ℕ, cond, List, [], ◌∷◌, Option, Some, None, rules, refl, ap}
use Rattle.std.proofs.lemmas.List.Elements.{same_from_all_zip}
use Rattle.std.specs.List.{AllZip}
use Rattle.std.specs.Str.{bytes_eq}
use Rattle.std.specs.Map.{lookup}
use Rattle.type_text.specs.declared.types.ElementType.{ElementType}
use Rattle.type_text.specs.contracts.types.ElementTypeClone.TheImpl as element_type

pub ElementType-same : (a b : ElementType) → element_type.ghosts.is_clone a b → b ≡ a
ElementType-same a b h = search (rules, same_from_all_zip)

-- a clone of a type, or of none
abbrev pub Clones : Option ElementType → Option ElementType → Type 0
Clones None None = Unit {0}
Clones None (Some y) = ⊥
Clones (Some x) None = ⊥
Clones (Some x) (Some y) = element_type.ghosts.is_clone x y

pub type-same : (a b : Option ElementType) → Clones a b → b ≡ a
type-same None None h = refl
type-same None (Some y) h = absurd h
type-same (Some x) None h = absurd h
type-same (Some x) (Some y) h = ap Some (ElementType-same x y h)

-- equal parts make equal pairs
pub entries-same : {A : Type 0} (C : ℕ → ℕ → Type 0) (D : A → A → Type 0) → ((k j : ℕ) → C k j → j ≡ k)
    → ((x y : A) → D x y → y ≡ x) → (es fs : List (ℕ × A)) → AllZip (λ p q. C p.0 q.0 × D p.1 q.1) es fs → fs ≡ es
entries-same C D keys values [] [] all = refl
entries-same C D keys values [] (q ∷ fs) all = absurd all
entries-same C D keys values (p ∷ es) [] all = absurd all
entries-same C D keys values (p ∷ es) (q ∷ fs) all =
    let key = keys p.0 q.0 all.0.0 in
    let value = values p.1 q.1 all.0.1 in
    let rest = entries-same C D keys values es fs all.1 in
    λ i. (key i, value i) ∷ rest i

-- keys of equal bytes lead to equal numbers
pub lookup-same : {K : Type 0} (C : K → K → Type 0) (D : ℕ → ℕ → Type 0) (bytes : K → List ℕ)
    → ((k j : K) → C k j → bytes j ≡ bytes k) → ((x y : ℕ) → D x y → y ≡ x) → (name : List ℕ) (es fs : List (K × ℕ))
    → AllZip (λ p q. C p.0 q.0 × D p.1 q.1) es fs
    → lookup (λ k. bytes_eq name (bytes k)) fs ≡ lookup (λ k. bytes_eq name (bytes k)) es
lookup-same C D bytes keys values name [] [] all = refl
lookup-same C D bytes keys values name [] (q ∷ fs) all = absurd all
lookup-same C D bytes keys values name (p ∷ es) [] all = absurd all
lookup-same C D bytes keys values name (p ∷ es) (q ∷ fs) all =
    let key = keys p.0 q.0 all.0.0 in
    let value = values p.1 q.1 all.0.1 in
    let rest = lookup-same C D bytes keys values name es fs all.1 in
    λ i. cond (bytes_eq name (key i)) (Some (value i)) (rest i)
