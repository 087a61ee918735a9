-- Values with other links in place of their own.
use Rattle.std.proofs.Common.{◌≡◌, ℕ, zero, suc, ◌+◌, ◌-◌, ◌<◌, List, [], ◌∷◌, ◌++◌, length, take, map, Some, refl, sym}
use Rattle.std.proofs.Common.{ap, ◌∙◌, arith}
use Rattle.std.specs.Prelude.{slice_get, slice_set}
use Rattle.std.proofs.lemmas.List.{length-append, length-set, set-append_left, set-append_right, take_at, drop_at}
use Rattle.std.proofs.lemmas.Option.{same_Some}
use Rattle.type_text.specs.declared.types.Link.{Link}
use Rattle.record_values.specs.declared.values.Value.{Value}
use Rattle.record_values.specs.declared.values.Value.TheVariants as value
use Rattle.record_values.specs.Values.{number_of}
use Rattle.record_values.specs.Links.{links_of, links_in, linked_value, with_links}

-- the number of a value is not in its links
linked_value-number : (v : Value) (links : List Link) → number_of (linked_value v links) ≡ number_of v
linked_value-number (value.Link old) (link ∷ links) = refl
linked_value-number (value.Link old) [] = refl
linked_value-number (value.Links old) links = refl
linked_value-number (value.Num n) links = refl
linked_value-number (value.Pair a b) links = refl
linked_value-number (value.Text text) links = refl
linked_value-number (value.Nums xs) links = refl
linked_value-number (value.Pairs xs) links = refl
linked_value-number (value.Texts xs) links = refl
linked_value-number (value.Bytes xs) links = refl

pub linked_value-numbers : (values : List Value) (i : ℕ) (v : Value) (links : List Link) → slice_get values i ≡ Some v
    → map number_of (slice_set values i (linked_value v links)) ≡ map number_of values
linked_value-numbers [] i v links is = refl
linked_value-numbers (w ∷ ws) zero v links is =
    ap (λ n. n ∷ map number_of ws) (linked_value-number v links ∙ ap number_of (sym (same_Some w v is)))
linked_value-numbers (w ∷ ws) (suc i) v links is =
    ap (λ ns. number_of w ∷ ns) (linked_value-numbers ws i v links is)

-- values with their own links
linked_value-own : (v : Value) → linked_value v (links_of v) ≡ v
linked_value-own (value.Link link) = refl
linked_value-own (value.Links links) = refl
linked_value-own (value.Num n) = refl
linked_value-own (value.Pair a b) = refl
linked_value-own (value.Text text) = refl
linked_value-own (value.Nums xs) = refl
linked_value-own (value.Pairs xs) = refl
linked_value-own (value.Texts xs) = refl
linked_value-own (value.Bytes xs) = refl

-- the links of the first value, and those of the others
linked-first : (v : Value) (vs : List Value) (first others : List Link) → length first ≡ length (links_of v)
    → with_links (v ∷ vs) (first ++ others) ≡ linked_value v first ∷ with_links vs others
linked-first v vs first others size =
    λ i. linked_value v (take_at first others (length (links_of v)) size i)
    ∷ with_links vs (drop_at first others (length (links_of v)) size i)

pub linked-own : (values : List Value) → with_links values (links_in values) ≡ values
linked-own [] = refl
linked-own (v ∷ vs) =
    linked-first v vs (links_of v) (links_in vs) refl ∙ (λ i. linked_value-own v i ∷ linked-own vs i)

-- another link in place of the n-th of the value at a place
pub linked-at : (values : List Value) (i n : ℕ) (v : Value) (link : Link) → slice_get values i ≡ Some v
    → n < length (links_of v)
    → with_links values (slice_set (links_in values) (length (links_in (take i values)) + n) link)
    ≡ slice_set values i (linked_value v (slice_set (links_of v) n link))
linked-at [] i n v link is lt = cc
linked-at (w ∷ ws) zero n v link is lt =
    let same = same_Some w v is in
    let here : n < length (links_of w) = omega (arith, lt, ap (λ v. length (links_of v)) same) in
    let start : length (links_in []) + n ≡ n = omega arith in
    ap (λ k. with_links (w ∷ ws) (slice_set (links_of w ++ links_in ws) k link)) start
    ∙ ap (with_links (w ∷ ws)) (set-append_left (links_of w) (links_in ws) n link here)
    ∙ linked-first w ws (slice_set (links_of w) n link) (links_in ws) (length-set (links_of w) n link)
    ∙ (λ j. linked_value (same j) (slice_set (links_of (same j)) n link) ∷ linked-own ws j)
linked-at (w ∷ ws) (suc i) n v link is lt =
    let size = length-append (links_of w) (links_in (take i ws)) in
    let later : length (links_of w ++ links_in (take i ws)) + n - length (links_of w) ≡ length (links_in (take i ws))
    + n = omega (arith, size) in
    ap (with_links (w ∷ ws)) (set-append_right (links_of w) (links_in ws) (length (links_of w))
    (length (links_of w ++ links_in (take i ws)) + n) link refl (omega (arith, size)))
    ∙ ap (λ k. with_links (w ∷ ws) (links_of w ++ slice_set (links_in ws) k link)) later
    ∙ linked-first w ws (links_of w) (slice_set (links_in ws) (length (links_in (take i ws)) + n) link) refl
    ∙ (λ j. linked_value-own w j ∷ linked-at ws i n v link is lt j)
