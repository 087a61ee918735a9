-- The first element of a name, looked for from the front, and an element's type by its parts.
use Rattle.std.proofs.Common.{◌≡◌, ◌↔◌, ℕ, ◌+◌, ◌<◌, ◌≤◌, true, false, List, ◌∷◌, map, length, drop, Some, None, Bor}
use Rattle.std.proofs.Common.{sym, ap, ◌∙◌}
use Rattle.std.specs.Prelude.{slice_index_or}
use Rattle.std.specs.Str.{bytes_eq}
use Rattle.std.proofs.lemmas.Bool.{cond-true, cond-false}
use Rattle.std.proofs.lemmas.List.{at_drop_more, at_drop_all}
use Rattle.std.proofs.lemmas.Simd.{map-map}
use Rattle.std.proofs.lemmas.Option.{same_Some}
use Rattle.type_text.specs.declared.types.Base.{Base}
use Rattle.type_text.specs.declared.types.Dim.TheVariants.{Named}
use Rattle.type_text.specs.declared.types.ElementType.{ElementType}
use Rattle.dictionary.specs.declared.entries.Element.{Element}
use Rattle.dictionary.specs.Named.{first_named, HasType}

-- the element at a place has the name, or the others are asked for
pub named-here : (elements : List Element) (name : List ℕ) (i : ℕ) (e : Element) → i < length elements
    → e ≡ slice_index_or elements i e → bytes_eq name e.name ≡ true → first_named i (drop i elements) name ≡ Some (i, e)
named-here elements name i e lt is same =
    at_drop_more (λ es. first_named i es name) elements i e lt
    ∙ ap (λ (e : Element). first_named i (e ∷ drop (i + 1) elements) name) (sym is)
    ∙ cond-true _ _ _ same

pub named-after : (elements : List Element) (name : List ℕ) (i : ℕ) (e : Element) → i < length elements
    → e ≡ slice_index_or elements i e → bytes_eq name e.name ≡ false
    → first_named i (drop i elements) name ≡ first_named (i + 1) (drop (i + 1) elements) name
named-after elements name i e lt is other =
    at_drop_more (λ es. first_named i es name) elements i e lt
    ∙ ap (λ (e : Element). first_named i (e ∷ drop (i + 1) elements) name) (sym is)
    ∙ cond-false _ _ _ other

pub named-none : (elements : List Element) (name : List ℕ) (i : ℕ) → length elements ≤ i
    → first_named i (drop i elements) name ≡ None
named-none elements name i le = at_drop_all (λ es. first_named i es name) elements i le

-- the type of an element by its base and its dimensions
pub HasType-parts : (e : Element) (ty : ElementType) (base : Base) (names : List (Bor (List ℕ))) → e.ty ≡ Some ty
    → ty.base ≡ base → (ty.dims ≡ map (λ name. Named name.now) names) ↔ HasType e base (map (λ name. name.now) names)
HasType-parts e ty base names is same = (to, from)
  where
    twice : map Named (map (λ (name : Bor (List ℕ)). name.now) names) ≡ map (λ name. Named name.now) names
    twice = map-map Named (λ (name : Bor (List ℕ)). name.now) names

    to : ty.dims ≡ map (λ name. Named name.now) names → HasType e base (map (λ name. name.now) names)
    to h = let dims = h ∙ sym twice in is ∙ (λ i. Some (record { base = same i; dims = dims i }))

    from : HasType e base (map (λ name. name.now) names) → ty.dims ≡ map (λ name. Named name.now) names
    from h =
        ap (λ (ty : ElementType). ty.dims)
        (same_Some ty (record { base = base; dims = map Named (map (λ name. name.now) names) }) (sym is ∙ h)) ∙ twice
