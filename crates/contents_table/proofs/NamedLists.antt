-- Elements that are lists by named dimensions: the test of their type, and the first of a name.
use Rattle.std.proofs.Common.{◌≡◌, ◌↔◌, ℕ, Bool, true, false, ◌&&◌, cond, List, [], ◌∷◌, map, Option, Some, None}
use Rattle.std.proofs.Common.{refl, sym, ap, ◌∙◌}
use Rattle.std.specs.Str.{bytes_eq}
use Rattle.std.specs.Option.{option_map_or}
use Rattle.std.proofs.lemmas.Bool.{false≢true, and_parts, false_from_ne_true}
use Rattle.std.proofs.lemmas.Slice.Eq.{bytes_eq-Decides}
use Rattle.type_text.specs.declared.types.Base.{Base}
use Rattle.type_text.specs.declared.types.Base.TheVariants.{Int8U, Str}
use Rattle.type_text.specs.declared.types.Dim.{Dim}
use Rattle.type_text.specs.declared.types.Dim.TheVariants.{Numeral, Named}
use Rattle.type_text.specs.declared.types.ElementType.{ElementType}
use Rattle.dictionary.specs.declared.entries.Element.{Element}
use Rattle.dictionary.specs.Named.{first_named, HasType}
use Rattle.file_grammar.specs.Closing.{is_size, field_named}
use Rattle.contents_table.specs.Channels.{is_text}
use Rattle.contents_table.specs.Fit.{are_named, is_list, has_list, list_named, PassesOnly}
use Rattle.contents_table.proofs.FirstNamed.{number-is}

-- ---- the bases that pass

pub sizes : PassesOnly is_size Int8U
sizes base = (only base, λ same. ap is_size same)
  where
    only : (base : Base) → is_size base ≡ true → base ≡ Int8U
    only Int8U passes = refl
    only base passes = absurd (false≢true passes)

pub texts : PassesOnly is_text Str
texts base = (only base, λ same. ap is_text same)
  where
    only : (base : Base) → is_text base ≡ true → base ≡ Str
    only Str passes = refl
    only base passes = absurd (false≢true passes)

-- ---- the type of a list

first-named : (name n : List ℕ) (dims : List Dim) (names : List (List ℕ))
    → (are_named dims names ≡ true) ↔ (dims ≡ map Named names)
    → ((bytes_eq n name && are_named dims names) ≡ true) ↔ (Named name ∷ dims ≡ Named n ∷ map Named names)
first-named name n dims names others = (to, from)
  where
    to : (bytes_eq n name && are_named dims names) ≡ true → Named name ∷ dims ≡ Named n ∷ map Named names
    to t =
        let both = and_parts (bytes_eq n name) (are_named dims names) t in
        let first = sym ((bytes_eq-Decides n name).0 both.0) in
        let rest = others.0 both.1 in
        λ i. Named (first i) ∷ rest i

    from : Named name ∷ dims ≡ Named n ∷ map Named names → (bytes_eq n name && are_named dims names) ≡ true
    from e =
        let first : n ≡ name = cc in
        let rest : dims ≡ map Named names = cc in
        let first_is = (bytes_eq-Decides n name).1 first in
        let rest_is = others.1 rest in
        λ i. first_is i && rest_is i

pub are_named-Decides : (dims : List Dim) (names : List (List ℕ))
    → (are_named dims names ≡ true) ↔ (dims ≡ map Named names)
are_named-Decides [] [] = (λ t. refl, λ e. refl)
are_named-Decides [] (n ∷ names) = (λ t. absurd (false≢true t), λ e. cc)
are_named-Decides (Numeral k ∷ dims) [] = (λ t. absurd (false≢true t), λ e. cc)
are_named-Decides (Named name ∷ dims) [] = (λ t. absurd (false≢true t), λ e. cc)
are_named-Decides (Numeral k ∷ dims) (n ∷ names) = (λ t. absurd (false≢true t), λ e. cc)
are_named-Decides (Named name ∷ dims) (n ∷ names) =
    first-named name n dims names (are_named-Decides dims names)

pub is_list-Decides : (passes : Base → Bool) (base : Base) (names : List (List ℕ)) (e : Element)
    → PassesOnly passes base → (is_list passes names e ≡ true) ↔ HasType e base names
is_list-Decides passes base names e only = (to e.ty refl, from)
  where
    to : (o : Option ElementType) → e.ty ≡ o
        → option_map_or (λ (ty : ElementType). passes ty.base && are_named ty.dims names) o false ≡ true
        → HasType e base names
    to None is t = absurd (false≢true t)
    to (Some ty) is t =
        let both = and_parts (passes ty.base) (are_named ty.dims names) t in
        let same = (only ty.base).0 both.0 in
        let dims = (are_named-Decides ty.dims names).0 both.1 in
        is ∙ (λ i. Some (record { base = same i; dims = dims i }))

    from : HasType e base names → is_list passes names e ≡ true
    from has =
        let passing = (only base).1 refl in
        let named = (are_named-Decides (map Named names) names).1 refl in
        ap (λ (o : Option ElementType). option_map_or (λ (ty : ElementType). passes ty.base
        && are_named ty.dims names) o false) has ∙ (λ i. passing i && named i)

-- ---- the first element of a name

module _ (es : List Element) (name : List ℕ) (passes : Base → Bool) (names : List (List ℕ)) (i : ℕ)
    (e : Element) (found : Some (i, e) ≡ first_named 0 es name) where
  tested : (b : Bool) → is_list passes names e ≡ b → has_list es name passes names ≡ b
  tested b is =
      ap (λ o. option_map_or (λ (found : ℕ × Element). is_list passes names found.1) o false) (sym found) ∙ is

  -- told by the base and the names of its type
  pub named-list : (base : Base) → PassesOnly passes base → HasType e base names
      → Some i ≡ list_named es name passes names
  named-list base only has =
      let is = tested true ((is_list-Decides passes base names e only).1 has) in
      let number = number-is es name (i, e) (sym found) in
      λ j. cond (sym is j) (Some (number j)) None

  pub named-other : (base : Base) → PassesOnly passes base → (HasType e base names → ⊥)
      → None ≡ list_named es name passes names
  named-other base only has =
      let told = is_list-Decides passes base names e only in
      let is = tested false (false_from_ne_true (is_list passes names e) (λ t. has (told.0 t))) in
      sym (ap (λ b. cond b (Some (field_named es name)) None) is)
