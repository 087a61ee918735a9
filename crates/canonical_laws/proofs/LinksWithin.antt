-- The links of values, with others put in their place: these are the links then, and a label does not see them.
use Rattle.std.proofs.Common.{◌≡◌, ℕ, List, [], ◌∷◌, ◌++◌, length, map, take, drop, refl, ap, ◌∙◌, arith}
use Rattle.std.proofs.Common.{length-append, length-drop}
use Rattle.std.proofs.lemmas.List.{take-append-drop, length-take-le}
use Rattle.type_text.specs.declared.types.Link.{Link}
use Rattle.record_values.specs.declared.values.Value.{Value}
use Rattle.record_values.specs.declared.values.Value.TheVariants as value
use Rattle.record_values.specs.Links.{links_of, links_in, linked_value, with_links}
use Rattle.frame_content.specs.Labels.{nullified, unlinked}

none : (links : List Link) → length links ≡ 0 → [] ≡ links
none [] size = refl
none (l ∷ ls) size = absurd (omega (arith, size))

-- the links of a value are those that were put into it, where they are as many
links-value : (v : Value) (links : List Link) → length links ≡ length (links_of v)
    → links_of (linked_value v links) ≡ links
links-value (value.Link old) [] size = absurd (omega (arith, size))
links-value (value.Link old) (l ∷ []) size = refl
links-value (value.Link old) (l ∷ m ∷ ls) size = absurd (omega (arith, size))
links-value (value.Links old) links size = refl
links-value (value.Num n) links size = none links size
links-value (value.Pair a b) links size = none links size
links-value (value.Text t) links size = none links size
links-value (value.Nums xs) links size = none links size
links-value (value.Pairs xs) links size = none links size
links-value (value.Texts xs) links size = none links size
links-value (value.Bytes xs) links size = none links size

-- as many links are left for the first value, and for the others
first-links : (v : Value) (vs : List Value) (links : List Link) → length links ≡ length (links_in (v ∷ vs))
    → (length (take (length (links_of v)) links) ≡ length (links_of v))
    × (length (drop (length (links_of v)) links) ≡ length (links_in vs))
first-links v vs links size =
    let n : ℕ = length (links_of v) in
    let whole = length-append (links_of v) (links_in vs) in
    (length-take-le n links (omega (arith, size, whole)), omega (arith, length-drop n links, size, whole))

-- The links of values are those that were put into them.
pub links-linked : (vs : List Value) (links : List Link) → length links ≡ length (links_in vs)
    → links_in (with_links vs links) ≡ links
links-linked [] links size = none links size
links-linked (v ∷ vs) links size =
    let n : ℕ = length (links_of v) in
    let sizes = first-links v vs links size in
    (λ i. links-value v (take n links) sizes.0 i ++ links-linked vs (drop n links) sizes.1 i) ∙ take-append-drop n links

-- null links are the same where they are as many
nullified-same : (links others : List Link) → length links ≡ length others → map nullified links ≡ map nullified others
nullified-same [] [] size = refl
nullified-same [] (m ∷ ms) size = absurd (omega (arith, size))
nullified-same (l ∷ ls) [] size = absurd (omega (arith, size))
nullified-same (l ∷ ls) (m ∷ ms) size = ap (λ rest. nullified m ∷ rest) (nullified-same ls ms (omega (arith, size)))

unlinked-value : (v : Value) (links : List Link) → length links ≡ length (links_of v)
    → unlinked (linked_value v links) ≡ unlinked v
unlinked-value (value.Link old) [] size = absurd (omega (arith, size))
unlinked-value (value.Link old) (l ∷ ls) size = refl
unlinked-value (value.Links old) links size = ap value.Links (nullified-same links old size)
unlinked-value (value.Num n) links size = refl
unlinked-value (value.Pair a b) links size = refl
unlinked-value (value.Text t) links size = refl
unlinked-value (value.Nums xs) links size = refl
unlinked-value (value.Pairs xs) links size = refl
unlinked-value (value.Texts xs) links size = refl
unlinked-value (value.Bytes xs) links size = refl

-- With their links null the values are the same.
pub unlinked-linked : (vs : List Value) (links : List Link) → length links ≡ length (links_in vs)
    → map unlinked (with_links vs links) ≡ map unlinked vs
unlinked-linked [] links size = refl
unlinked-linked (v ∷ vs) links size =
    let n : ℕ = length (links_of v) in
    let sizes = first-links v vs links size in
    λ i. unlinked-value v (take n links) sizes.0 i ∷ unlinked-linked vs (drop n links) sizes.1 i
