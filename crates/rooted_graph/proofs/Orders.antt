-- A breadth-first order is determined front by front, so a graph has only one.
use Rattle.std.proofs.Common.{◌≡◌, ℕ, zero, suc, ◌+◌, ◌<◌, ◌≤◌, ◌⊎◌, inl, inr, true, Some, List, [], ◌++◌, length, take}
use Rattle.std.proofs.Common.{drop, get_or, nat_eq, refl, sym, ap, ◌∙◌, subst, append_assoc, arith}
use Rattle.std.specs.Prelude.{fold}
use Rattle.std.specs.List.{flat_map, IsDistinct}
use Rattle.std.proofs.lemmas.Bool.{cases_lt}
use Rattle.std.proofs.lemmas.List.{take_all, take-append-le, take-append-drop}
use Rattle.std.proofs.lemmas.List.Concat.{flat_map-append}
use Rattle.std.proofs.lemmas.List.Sums.{fold-append}
use Rattle.rooted_graph.specs.Rooted.{Rooted}
use Rattle.rooted_graph.specs.BreadthOrder.{has, added, first_occurrences, targets, roots_and_targets, IsBreadthOrder}
use Rattle.rooted_graph.specs.BreadthOrder.{number_of}
use Rattle.rooted_graph.proofs.Firsts.{has-first_occurrences, fold_front, first_occurrences_distinct, has_from_Contains}
use Rattle.rooted_graph.proofs.Places.{number_has, number_at, number_front, number_distinct}

pub roots_and_targets-append : (g : Rooted) (xs ys : List ℕ)
    → roots_and_targets g (xs ++ ys) ≡ roots_and_targets g xs ++ flat_map (targets g) ys
roots_and_targets-append g xs ys =
    ap (λ zs. g.roots ++ zs) (flat_map-append (targets g) xs ys)
    ∙ sym (append_assoc g.roots (flat_map (targets g) xs) (flat_map (targets g) ys))

-- with more members behind, the first occurrences only grow
pub first_occurrences_grow : (g : Rooted) (xs ys : List ℕ)
    → first_occurrences (roots_and_targets g (xs ++ ys))
    ≡ fold added (first_occurrences (roots_and_targets g xs)) (flat_map (targets g) ys)
first_occurrences_grow g xs ys =
    ap first_occurrences (roots_and_targets-append g xs ys)
    ∙ fold-append added [] (roots_and_targets g xs) (flat_map (targets g) ys)

order_distinct : (g : Rooted) (s : List ℕ) → IsBreadthOrder g s → IsDistinct nat_eq s
order_distinct g s o = subst (IsDistinct nat_eq) (sym o.first) (first_occurrences_distinct (roots_and_targets g s))

-- a member's number is its place
pub number_of-member : (g : Rooted) (s : List ℕ) → IsBreadthOrder g s → (k : ℕ) → k < length s
    → number_of s (get_or s k 0) ≡ Some k
number_of-member g s o k h = number_distinct s k (order_distinct g s o) h

-- what the first k members lead to stands at the front of the order
order_front : (g : Rooted) (s : List ℕ) → IsBreadthOrder g s → (k : ℕ) → (rest : List ℕ)
    × (s ≡ first_occurrences (roots_and_targets g (take k s)) ++ rest)
order_front g s o k =
    let grown = fold_front (first_occurrences (roots_and_targets g (take k s))) (flat_map (targets g) (drop k s)) in (
      grown.0,
      o.first ∙ ap (λ t. first_occurrences (roots_and_targets g t)) (sym (take-append-drop k s))
          ∙ first_occurrences_grow g (take k s) (drop k s) ∙ grown.1,
    )

-- and the next member is among it
next_within : (g : Rooted) (s : List ℕ) → IsBreadthOrder g s → (k : ℕ) → k < length s → (rest : List ℕ)
    → s ≡ first_occurrences (roots_and_targets g (take k s)) ++ rest
    → k < length (first_occurrences (roots_and_targets g (take k s)))
next_within g s o k h rest split =
    let front : List ℕ = first_occurrences (roots_and_targets g (take k s)) in
    let x : ℕ = get_or s k 0 in
    let there : has front x ≡ true = has-first_occurrences (roots_and_targets g (take k s)) x
    ∙ has_from_Contains (roots_and_targets g (take k s)) x (o.earlier k h) in
    let found = number_has front x there in
    let placed = number_at front x found.0 found.1 in
    let before : number_of s x ≡ Some found.0 = ap (λ t. number_of t x) split
    ∙ number_front front rest x found.0 found.1 in
    let here : number_of s x ≡ Some k = number_of-member g s o k h in
    let same : found.0 ≡ k = cc in
    subst (λ j. j < length front) same placed.0

-- the first k + 1 members are determined by the first k
pub order_step : (g : Rooted) (s : List ℕ) → IsBreadthOrder g s → (k : ℕ)
    → take (suc k) s ≡ take (suc k) (first_occurrences (roots_and_targets g (take k s)))
order_step g s o k = go (cases_lt k (length s)) (order_front g s o k)
  where
    go : (k < length s) ⊎ (length s ≤ k) → (rest : List ℕ)
        × (s ≡ first_occurrences (roots_and_targets g (take k s)) ++ rest)
        → take (suc k) s ≡ take (suc k) (first_occurrences (roots_and_targets g (take k s)))
    go (inl h) front =
        ap (take (suc k)) front.1
        ∙ take-append-le (suc k) (first_occurrences (roots_and_targets g (take k s))) front.0
        (next_within g s o k h front.0 front.1)
    go (inr h) front = ap (take (suc k)) (o.first
        ∙ ap (λ t. first_occurrences (roots_and_targets g t)) (sym (take_all k s h)))

same_fronts : (g : Rooted) (s t : List ℕ) → IsBreadthOrder g s → IsBreadthOrder g t → (k : ℕ) → take k s ≡ take k t
same_fronts g s t o p zero = refl
same_fronts g s t o p (suc k) =
    order_step g s o k ∙ ap (λ u. take (suc k) (first_occurrences (roots_and_targets g u))) (same_fronts g s t o p k)
    ∙ sym (order_step g t p k)

pub order_unique : (g : Rooted) (s t : List ℕ) → IsBreadthOrder g s → IsBreadthOrder g t → s ≡ t
order_unique g s t o p =
    let n : ℕ = length s + length t in
    sym (take_all n s (omega arith)) ∙ same_fronts g s t o p n ∙ take_all n t (omega arith)
