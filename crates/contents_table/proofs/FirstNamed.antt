-- The first element of a name: where it stands, its name, and that more elements behind it change nothing.
use Rattle.std.proofs.Common.{◌≡◌, ℕ, suc, ◌+◌, ◌<◌, Bool, true, false, cond, List, [], ◌∷◌, ◌++◌, length, Some}
use Rattle.std.proofs.Common.{sym, ap, ◌∙◌, arith, refl}
use Rattle.std.specs.Prelude.{slice_get}
use Rattle.std.specs.Str.{bytes_eq}
use Rattle.std.specs.Option.{option_map_or}
use Rattle.std.proofs.lemmas.Option.{same_Some, none-some, slice_get_within}
use Rattle.dictionary.specs.declared.entries.Element.{Element}
use Rattle.dictionary.specs.Named.{first_named}
use Rattle.file_grammar.specs.Closing.{field_named}

-- an element of this name stands j places on
abbrev IsNamedAt : List Element → List ℕ → ℕ → Element → Type 0
IsNamedAt es name j e = (slice_get es j ≡ Some e) × (bytes_eq name e.name ≡ true)

named-from : (k : ℕ) (es : List Element) (name : List ℕ) (i : ℕ) (e : Element)
    → first_named k es name ≡ Some (i, e) → (j : ℕ) × (i ≡ k + j) × IsNamedAt es name j e
named-from k [] name i e found = absurd (none-some (i, e) found)
named-from k (x ∷ xs) name i e found = by (bytes_eq name x.name) refl (named-from (k + 1) xs name i e) found
  where
    by : (b : Bool) → bytes_eq name x.name ≡ b
        → (first_named (k + 1) xs name ≡ Some (i, e) → (j : ℕ) × (i ≡ (k + 1) + j) × IsNamedAt xs name j e)
        → cond b (Some (k, x)) (first_named (k + 1) xs name) ≡ Some (i, e)
        → (j : ℕ) × (i ≡ k + j) × IsNamedAt (x ∷ xs) name j e
    by true has others found =
        let same : (k, x) ≡ (i, e) = same_Some (k, x) (i, e) found in
        let here : x ≡ e = ap (λ (p : ℕ × Element). p.1) same in (
          0,
          omega (arith, ap (λ (p : ℕ × Element). p.0) same),
          (ap Some here, ap (λ (e : Element). bytes_eq name e.name) (sym here) ∙ has),
        )
    by false has others found =
        let later = others found in
        (suc later.0, omega (arith, later.1), later.2)

-- the element that is found stands at its number
pub named-at : (es : List Element) (name : List ℕ) (i : ℕ) (e : Element) → first_named 0 es name ≡ Some (i, e)
    → (slice_get es i ≡ Some e) × (bytes_eq name e.name ≡ true)
named-at es name i e found =
    let at = named-from 0 es name i e found in
    let same : i ≡ at.0 = omega (arith, at.1) in
    (ap (slice_get es) same ∙ at.2.0, at.2.1)

pub named-within : (es : List Element) (name : List ℕ) (i : ℕ) (e : Element)
    → first_named 0 es name ≡ Some (i, e) → i < length es
named-within es name i e found = slice_get_within es i e (named-at es name i e found).0

-- its number is that of the name
pub number-is : (es : List Element) (name : List ℕ) (p : ℕ × Element) → first_named 0 es name ≡ Some p
    → p.0 ≡ field_named es name
number-is es name p found = sym (ap (λ o. option_map_or (λ (found : ℕ × Element). found.0) o 0) found)

-- the first of a name is the first of more elements
pub named-of_more : (k : ℕ) (es others : List Element) (name : List ℕ) (p : ℕ × Element)
    → first_named k es name ≡ Some p → first_named k (es ++ others) name ≡ Some p
named-of_more k [] others name p found = absurd (none-some p found)
named-of_more k (x ∷ xs) others name p found =
    by (bytes_eq name x.name) (named-of_more (k + 1) xs others name p) found
  where
    by : (b : Bool)
        → (first_named (k + 1) xs name ≡ Some p → first_named (k + 1) (xs ++ others) name ≡ Some p)
        → cond b (Some (k, x)) (first_named (k + 1) xs name) ≡ Some p
        → cond b (Some (k, x)) (first_named (k + 1) (xs ++ others) name) ≡ Some p
    by true later found = found
    by false later found = later found
