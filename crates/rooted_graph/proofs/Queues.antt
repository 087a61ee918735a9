-- A queue that holds what the roots and its first members lead to grows into the breadth-first order.
use Rattle.std.proofs.Common.{◌≡◌, ℕ, zero, suc, ◌+◌, ◌<◌, ◌≤◌, ◌⊎◌, inl, inr, true, ◌||◌, Option, Some, List, [], ◌∷◌}
use Rattle.std.proofs.Common.{◌++◌, length, get_or, take, drop, nat_eq, sum, sym, ap, ◌∙◌, subst, add-one, arith}
use Rattle.std.specs.Prelude.{fold, Contains}
use Rattle.std.specs.List.{filter_map, flat_map, IsDistinct}
use Rattle.std.proofs.lemmas.Bool.{cases_lt, or_left, or_right, or_cases}
use Rattle.std.proofs.lemmas.List.{append-nil, take_all, take-append-le, take-append-drop, take-take, length-append}
use Rattle.std.proofs.lemmas.List.{get_or_append_left}
use Rattle.std.proofs.lemmas.List.Sums.{get_or-le-sum_by}
use Rattle.std.proofs.Math.Seq.{take-suc}
use Rattle.std.proofs.lemmas.Map.Steps.{length-le_from_distinct_below}
use Rattle.rooted_graph.specs.Rooted.{Rooted}
use Rattle.rooted_graph.specs.BreadthOrder.{has, added, first_occurrences, number_of, targets, roots_and_targets}
use Rattle.rooted_graph.specs.BreadthOrder.{IsBreadthOrder}
use Rattle.rooted_graph.proofs.Firsts.{has-append, has-first_occurrences, fold_front, first_occurrences_distinct}
use Rattle.rooted_graph.proofs.Firsts.{has_at}
use Rattle.rooted_graph.proofs.Places.{number_has, number_at, Contains_from_has}
use Rattle.rooted_graph.proofs.Orders.{first_occurrences_grow}
use Rattle.rooted_graph.proofs.Targets.{has_more, member_of_flat_map}

-- The queue s, of which the first i members have been taken: it has the roots and the targets of those, each once, and
-- each member comes after one that leads to it.
pub record IsQueue (g : Rooted) (s : List ℕ) (i : ℕ) : Type 0 where
  pub first : s ≡ first_occurrences (roots_and_targets g (take i s))
  pub earlier : (k : ℕ) → k < length s → Contains (roots_and_targets g (take k s)) (get_or s k 0)
  pub within : i ≤ length s

-- a member that the first i lead to, in a place from i on, comes after one that leads to it
later_member : (g : Rooted) (s : List ℕ) (i : ℕ) → s ≡ first_occurrences (roots_and_targets g (take i s)) → (k : ℕ)
    → i ≤ k → k < length s → Contains (roots_and_targets g (take k s)) (get_or s k 0)
later_member g s i first k behind h =
    let x : ℕ = get_or s k 0 in
    let here : has (roots_and_targets g (take i s)) x ≡ true =
    sym (has-first_occurrences (roots_and_targets g (take i s)) x) ∙ ap (λ t. has t x) (sym first) ∙ has_at s k 0 h in
    let split : take i s ++ drop i (take k s) ≡ take k s =
    ap (λ t. t ++ drop i (take k s)) (sym (take-take i k s behind)) ∙ take-append-drop i (take k s) in
    Contains_from_has (roots_and_targets g (take k s)) x (ap (λ t. has (roots_and_targets g t) x) (sym split)
    ∙ has_more g (take i s) (drop i (take k s)) x here)

queue_start : (g : Rooted) → IsQueue g (first_occurrences g.roots) 0
queue_start g =
    let first : first_occurrences g.roots ≡ first_occurrences (g.roots ++ []) =
    ap first_occurrences (sym (append-nil g.roots)) in
    record {
      first = first;
      earlier = λ k h. later_member g (first_occurrences g.roots) 0 first k (omega arith) h;
      within = omega arith;
    }

-- the same, as a loop begins
pub queue_of_roots : (g : Rooted) (empty s : List ℕ) → empty ≡ [] → s ≡ fold added empty g.roots → IsQueue g s 0
queue_of_roots g empty s nothing e =
    subst (λ t. IsQueue g t 0) (sym (e ∙ ap (λ t. fold added t g.roots) nothing)) (queue_start g)

-- the next member is taken, and its targets are added
queue_step : (g : Rooted) (s : List ℕ) (i : ℕ) → IsQueue g s i → i < length s
    → IsQueue g (fold added s (targets g (get_or s i 0))) (suc i)
queue_step g s i q h = record { first = first; earlier = earlier; within = longer }
  where
    x : ℕ
    x = get_or s i 0

    more : List ℕ
    more = (fold_front s (targets g x)).0

    grown : fold added s (targets g x) ≡ s ++ more
    grown = (fold_front s (targets g x)).1

    after : List ℕ
    after = fold added s (targets g x)

    longer : suc i ≤ length after
    longer = omega (arith, ap length grown, length-append s more)

    -- the members taken
    taken : take (suc i) after ≡ take i s ++ x ∷ []
    taken = ap (take (suc i)) grown ∙ take-append-le (suc i) s more h ∙ take-suc s i 0 h

    first : after ≡ first_occurrences (roots_and_targets g (take (suc i) after))
    first =
        ap (λ t. fold added t (targets g x)) q.first
        ∙ ap (λ t. fold added (first_occurrences (roots_and_targets g (take i s))) t) (sym (append-nil (targets g x)))
        ∙ sym (first_occurrences_grow g (take i s) (x ∷ []))
        ∙ ap (λ t. first_occurrences (roots_and_targets g t)) (sym taken)

    before : (k : ℕ) → k < suc i → Contains (roots_and_targets g (take k after)) (get_or after k 0)
    before k below =
        let within : k < length s = omega arith in
        let front : take k after ≡ take k s = ap (take k) grown ∙ take-append-le k s more (omega arith) in
        let place : get_or after k 0 ≡ get_or s k 0 = ap (λ t. get_or t k 0) grown
        ∙ get_or_append_left s more 0 k within in
        subst (λ t. Contains (roots_and_targets g t) (get_or after k 0)) (sym front)
        (subst (Contains (roots_and_targets g (take k s))) (sym place) (q.earlier k within))

    split : (k : ℕ) → k < length after → (k < suc i) ⊎ (suc i ≤ k)
        → Contains (roots_and_targets g (take k after)) (get_or after k 0)
    split k w (inl below) = before k below
    split k w (inr behind) = later_member g after (suc i) first k behind w

    earlier : (k : ℕ) → k < length after → Contains (roots_and_targets g (take k after)) (get_or after k 0)
    earlier k w = split k w (cases_lt k (suc i))

-- the same, as a loop goes on
pub queue_more : (g : Rooted) (s : List ℕ) (i n : ℕ) (t : List ℕ) → IsQueue g s i → i < length s → n ≡ get_or s i 0
    → t ≡ fold added s (targets g n) → IsQueue g t (i + 1)
queue_more g s i n t q h read e =
    rw (add-one, e, read) (queue_step g s i q h)

-- once each member has been taken, the queue is the order
pub queue_end : (g : Rooted) (s : List ℕ) (i : ℕ) → IsQueue g s i → length s ≤ i → IsBreadthOrder g s
queue_end g s i q h = record {
  first = q.first ∙ ap (λ t. first_occurrences (roots_and_targets g t)) (take_all i s h);
  earlier = q.earlier;
}

-- every node that the graph names
named : Rooted → List ℕ
named g = g.roots ++ flat_map (filter_map (λ link. link)) g.links

queue_distinct : (g : Rooted) (s : List ℕ) (i : ℕ) → IsQueue g s i → IsDistinct nat_eq s
queue_distinct g s i q =
    subst (IsDistinct nat_eq) (sym q.first) (first_occurrences_distinct (roots_and_targets g (take i s)))

named_target : (links : List (List (Option ℕ))) (m n : ℕ) → has (filter_map (λ link. link) (get_or links m [])) n ≡ true
    → has (flat_map (filter_map (λ link. link)) links) n ≡ true
named_target [] m n h = absurd (cc)
named_target (ls ∷ links) zero n h =
    has-append (filter_map (λ link. link) ls) (flat_map (filter_map (λ link. link)) links) n
    ∙ or_left (has (filter_map (λ link. link) ls) n) (has (flat_map (filter_map (λ link. link)) links) n) h
named_target (ls ∷ links) (suc m) n h =
    has-append (filter_map (λ link. link) ls) (flat_map (filter_map (λ link. link)) links) n
    ∙ or_right (has (filter_map (λ link. link) ls) n) (has (flat_map (filter_map (λ link. link)) links) n)
    (named_target links m n h)

queue_named : (g : Rooted) (s : List ℕ) (i : ℕ) → IsQueue g s i → (n : ℕ) → has s n ≡ true → has (named g) n ≡ true
unfolding named
queue_named g s i q n h = has-append g.roots (flat_map (filter_map (λ link. link)) g.links) n
    ∙ go (or_cases (has g.roots n) (has (flat_map (targets g) (take i s)) n) there)
  where
    there : (has g.roots n || has (flat_map (targets g) (take i s)) n) ≡ true
    there = sym (has-append g.roots (flat_map (targets g) (take i s)) n)
        ∙ sym (has-first_occurrences (roots_and_targets g (take i s)) n) ∙ ap (λ t. has t n) (sym q.first) ∙ h

    go : (has g.roots n ≡ true) ⊎ (has (flat_map (targets g) (take i s)) n ≡ true)
        → (has g.roots n || has (flat_map (filter_map (λ link. link)) g.links) n) ≡ true
    go (inl root) = or_left (has g.roots n) (has (flat_map (filter_map (λ link. link)) g.links) n) root
    go (inr target) =
        let found = member_of_flat_map (targets g) (take i s) n target in
        or_right (has g.roots n) (has (flat_map (filter_map (λ link. link)) g.links) n)
        (named_target g.links (get_or (take i s) found.0 0) n found.2)

-- a number in a list is at most the list's sum
at_most_sum : (xs : List ℕ) (n : ℕ) → has xs n ≡ true → n ≤ sum xs
at_most_sum xs n h = placed (number_has xs n h)
  where
    placed : (k : ℕ) × (number_of xs n ≡ Some k) → n ≤ sum xs
    placed found =
        let here = number_at xs n found.0 found.1 in
        subst (λ m. m ≤ sum xs) here.1 (get_or-le-sum_by (λ x. x) xs found.0 0 here.0)

-- no queue is longer than this
pub longest : Rooted → ℕ
longest g = suc (sum (named g))

pub queue_length : (g : Rooted) (s : List ℕ) (i : ℕ) → IsQueue g s i → length s ≤ longest g
unfolding longest
queue_length g s i q =
    length-le_from_distinct_below s (suc (sum (named g))) (queue_distinct g s i q)
    (λ n h. let w : n ≤ sum (named g) = at_most_sum (named g) n (queue_named g s i q n h) in omega arith)

run : (g : Rooted) (fuel : ℕ) (s : List ℕ) (i : ℕ) → IsQueue g s i → longest g ≤ fuel + i → (t : List ℕ)
    × IsBreadthOrder g t
run g zero s i q h = (s, queue_end g s i q (omega (arith, queue_length g s i q)))
run g (suc fuel) s i q h = go (cases_lt i (length s)) (run g fuel)
  where
    go : (i < length s) ⊎ (length s ≤ i)
        → ((u : List ℕ) (j : ℕ) → IsQueue g u j → longest g ≤ fuel + j → (t : List ℕ) × IsBreadthOrder g t)
        → (t : List ℕ)
        × IsBreadthOrder g t
    go (inl more) next = next (fold added s (targets g (get_or s i 0))) (suc i) (queue_step g s i q more) (omega arith)
    go (inr done) next = (s, queue_end g s i q done)

-- every graph has an order
pub order_exists : (g : Rooted) → (s : List ℕ) × IsBreadthOrder g s
order_exists g = run g (longest g) (first_occurrences g.roots) 0 (queue_start g) (omega arith)
