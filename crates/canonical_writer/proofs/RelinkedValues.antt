-- The values of a label with links in place of its null ones: those of the body with these links.
use Rattle.std.proofs.Common.{◌≡◌, ℕ, ◌≤◌, Bool, true, false, cond, List, [], ◌∷◌, ◌++◌, length, take, drop}
use Rattle.std.proofs.Common.{map, refl, ap, ◌∙◌, arith}
use Rattle.std.proofs.lemmas.List.{length-append, length-map, length-drop, map-append, take_at, drop_at}
use Rattle.scalar_types.specs.declared.Order.{Order}
use Rattle.type_text.specs.declared.types.Link.{Link}
use Rattle.record_values.specs.declared.values.Value.{Value}
use Rattle.record_values.specs.declared.values.Value.TheVariants as value
use Rattle.record_values.specs.Links.{links_of, links_in, linked_value, with_links}
use Rattle.layout_plan.specs.declared.fields.Field.{Field}
use Rattle.layout_plan.specs.Body.{AreFields}
use Rattle.layout_plan.specs.Layout.{AreSums}
use Rattle.layout_plan.specs.Links.{is_link_form}
use Rattle.layout_plan.specs.Written.{with_sums_cleared}
use Rattle.layout_plan.proofs.LinkLemmas.{field-none}
use Rattle.frame_content.specs.Labels.{unlinked, nullified}

-- ---- no more links where the check sum is cleared

pub cleared-few : (fields : List Field) (values : List Value)
    → length (links_in (with_sums_cleared fields values)) ≤ length (links_in values)
cleared-few [] values = omega arith
cleared-few (f ∷ fs) [] = omega arith
cleared-few (f ∷ fs) (v ∷ vs) =
    omega (
      arith,
      length-append (links_of (cond f.is_sum (value.Num 0) v)) (links_in (with_sums_cleared fs vs)),
      length-append (links_of v) (links_in vs),
      by f.is_sum,
      cleared-few fs vs,
    )
  where
    by : (b : Bool) → length (links_of (cond b (value.Num 0) v)) ≤ length (links_of v)
    by true = omega arith
    by false = omega arith

-- ---- other links in place of null ones

-- enough links for the first value, and for the others
pub record AreEnough (v : Value) (vs : List Value) (links : List Link) : Type 0 where
  pub first : length (links_of v) ≤ length links
  pub others : length (links_in vs) ≤ length (drop (length (links_of v)) links)

enough : (v : Value) (vs : List Value) (links : List Link) → length (links_in (v ∷ vs)) ≤ length links
    → AreEnough v vs links
enough v vs links few =
    let all = length-append (links_of v) (links_in vs) in
    record {
      first = omega (arith, all, few);
      others = omega (arith, all, few, length-drop (length (links_of v)) links);
    }

-- a value with links is the one with null links, and these in their place
value-again : (v : Value) (vs ws : List Value) (links : List Link) → length (links_of v) ≤ length links
    → with_links ws (drop (length (links_of v)) links) ≡ with_links vs (drop (length (links_of v)) links)
    → with_links (unlinked v ∷ ws) links ≡ with_links (v ∷ vs) links
value-again (value.Link old) vs ws [] few rest = absurd (omega arith)
value-again (value.Link old) vs ws (link ∷ links) few rest = ap (λ vs. value.Link link ∷ vs) rest
value-again (value.Links old) vs ws links few rest =
    let count = length-map old nullified in
    (λ i. value.Links (take (count i) links) ∷ with_links ws (drop (count i) links))
    ∙ ap (λ vs. value.Links (take (length old) links) ∷ vs) rest
value-again (value.Num n) vs ws links few rest = ap (λ vs. value.Num n ∷ vs) rest
value-again (value.Pair a b) vs ws links few rest = ap (λ vs. value.Pair a b ∷ vs) rest
value-again (value.Text text) vs ws links few rest = ap (λ vs. value.Text text ∷ vs) rest
value-again (value.Nums xs) vs ws links few rest = ap (λ vs. value.Nums xs ∷ vs) rest
value-again (value.Pairs xs) vs ws links few rest = ap (λ vs. value.Pairs xs ∷ vs) rest
value-again (value.Texts xs) vs ws links few rest = ap (λ vs. value.Texts xs ∷ vs) rest
value-again (value.Bytes xs) vs ws links few rest = ap (λ vs. value.Bytes xs ∷ vs) rest

pub linked-again : (fields : List Field) (values : List Value) (links : List Link)
    → length (links_in (with_sums_cleared fields values)) ≤ length links
    → with_links (with_sums_cleared fields (map unlinked values)) links
    ≡ with_links (with_sums_cleared fields values) links
linked-again [] [] links few = refl
linked-again [] (v ∷ vs) links few =
    let all = enough v vs links few in
    value-again v vs (map unlinked vs) links all.first
    (linked-again [] vs (drop (length (links_of v)) links) all.others)
linked-again (f ∷ fs) [] links few = refl
linked-again (f ∷ fs) (v ∷ vs) links few =
    by f.is_sum few (λ ls enough. linked-again fs vs ls enough)
  where
    by : (b : Bool) → length (links_in (cond b (value.Num 0) v ∷ with_sums_cleared fs vs)) ≤ length links
        → ((ls : List Link) → length (links_in (with_sums_cleared fs vs)) ≤ length ls
        → with_links (with_sums_cleared fs (map unlinked vs)) ls ≡ with_links (with_sums_cleared fs vs) ls)
        → with_links (cond b (value.Num 0) (unlinked v) ∷ with_sums_cleared fs (map unlinked vs)) links
        ≡ with_links (cond b (value.Num 0) v ∷ with_sums_cleared fs vs) links
    by true few rest = ap (λ vs. value.Num 0 ∷ vs) (rest links few)
    by false few rest =
        let all = enough v (with_sums_cleared fs vs) links few in
        value-again v (with_sums_cleared fs vs) (with_sums_cleared fs (map unlinked vs)) links all.first
        (rest (drop (length (links_of v)) links) all.others)

-- ---- null links in place of all

pub linked-null : (order : Order) (numbers : List ℕ) (fields : List Field) (values : List Value) (bytes : List ℕ)
    → AreSums fields → AreFields order numbers fields values bytes
    → with_links (with_sums_cleared fields values) (map nullified (links_in values))
    ≡ with_sums_cleared fields (map unlinked values)
linked-null order numbers [] [] bytes sums s = refl
linked-null order numbers [] (v ∷ vs) bytes sums s = absurd s
linked-null order numbers (f ∷ fs) [] bytes sums s = refl
linked-null order numbers (f ∷ fs) (v ∷ vs) bytes sums (front, rest, split, here, s) =
    by f.is_sum refl (linked-null order numbers fs vs rest sums.1 s)
  where
    all : List Link
    all = map nullified (links_of v ++ links_in vs)

    parts : all ≡ map nullified (links_of v) ++ map nullified (links_in vs)
    parts = map-append nullified (links_of v) (links_in vs)

    count : length (map nullified (links_of v)) ≡ length (links_of v)
    count = length-map (links_of v) nullified

    first : take (length (links_of v)) all ≡ map nullified (links_of v)
    first =
        ap (take (length (links_of v))) parts
        ∙ take_at (map nullified (links_of v)) (map nullified (links_in vs)) (length (links_of v)) count

    others : drop (length (links_of v)) all ≡ map nullified (links_in vs)
    others =
        ap (drop (length (links_of v))) parts
        ∙ drop_at (map nullified (links_of v)) (map nullified (links_in vs)) (length (links_of v)) count

    none : f.is_sum ≡ true → links_of v ≡ []
    none sum =
        field-none order numbers f.form f.counts v front (ap is_link_form (sums.0 sum).0) here

    by : (b : Bool) → f.is_sum ≡ b
        → with_links (with_sums_cleared fs vs) (map nullified (links_in vs)) ≡ with_sums_cleared fs (map unlinked vs)
        → with_links (cond b (value.Num 0) v ∷ with_sums_cleared fs vs) all
        ≡ cond b (value.Num 0) (unlinked v) ∷ with_sums_cleared fs (map unlinked vs)
    by true sum more =
        ap (λ ls. value.Num 0 ∷ with_links (with_sums_cleared fs vs) (map nullified (ls ++ links_in vs))) (none sum)
        ∙ ap (λ vs. value.Num 0 ∷ vs) more
    by false sum more =
        (λ i. linked_value v (first i) ∷ with_links (with_sums_cleared fs vs) (others i))
        ∙ ap (λ vs. unlinked v ∷ vs) more
