-- The members of an order are the nodes in which some path ends.
use Rattle.std.proofs.Common.{◌≡◌, ℕ, zero, suc, ◌<◌, ◌⊎◌, inl, inr, true, ◌||◌, ◌↔◌, Option, Some, None, List, [], ◌∷◌}
use Rattle.std.proofs.Common.{◌++◌, length, get_or, take, refl, sym, ap, ◌∙◌, subst, arith}
use Rattle.std.specs.Prelude.{fold, slice_get, Contains, IsSome, ⊤}
use Rattle.std.specs.List.{flat_map}
use Rattle.std.proofs.lemmas.Bool.{or_left, or_right, or_cases}
use Rattle.std.proofs.lemmas.List.{length-take, get_or-take}
use Rattle.std.proofs.lemmas.List.Sums.{fold-append}
use Rattle.rooted_graph.specs.Rooted.{Rooted, Path, End, Node, Null, Undefined, links_of, end_of_root, end_of_link}
use Rattle.rooted_graph.specs.Rooted.{follow, end_of, IsReached}
use Rattle.rooted_graph.specs.BreadthOrder.{has, number_of, targets, roots_and_targets, IsBreadthOrder}
use Rattle.rooted_graph.proofs.Firsts.{has-append, has-first_occurrences, has_from_Contains}
use Rattle.rooted_graph.proofs.Places.{number_has, number_at, Contains_from_has}
use Rattle.rooted_graph.proofs.Targets.{has_from_slice_get, slice_get_from_has, has_target, link_to_target}
use Rattle.rooted_graph.proofs.Targets.{has_flat_map, member_of_flat_map}

-- a path with one link more
pub step_path : Path → ℕ → Path
step_path p k = record { root = p.root; steps = p.steps ++ k ∷ [] }

pub end_of-step_path : (g : Rooted) (p : Path) (k : ℕ) → end_of g (step_path p k) ≡ follow g (end_of g p) k
unfolding step_path
end_of-step_path g p k = fold-append (follow g) (end_of_root (slice_get g.roots p.root)) p.steps (k ∷ [])

-- an order holds what its roots and members lead to
order_closed : (g : Rooted) (s : List ℕ) → IsBreadthOrder g s → (n : ℕ) → has (roots_and_targets g s) n ≡ true
    → has s n ≡ true
order_closed g s o n h = ap (λ t. has t n) o.first ∙ has-first_occurrences (roots_and_targets g s) n ∙ h

pub has_root : (g : Rooted) (s : List ℕ) → IsBreadthOrder g s → (k n : ℕ) → slice_get g.roots k ≡ Some n
    → has s n ≡ true
has_root g s o k n e =
    order_closed g s o n (has-append g.roots (flat_map (targets g) s) n
    ∙ or_left (has g.roots n) (has (flat_map (targets g) s) n) (has_from_slice_get g.roots k n e))

pub has_linked : (g : Rooted) (s : List ℕ) → IsBreadthOrder g s → (m k n : ℕ) → has s m ≡ true
    → slice_get (links_of g m) k ≡ Some (Some n) → has s n ≡ true
has_linked g s o m k n h e =
    order_closed g s o n (has-append g.roots (flat_map (targets g) s) n
    ∙ or_right (has g.roots n) (has (flat_map (targets g) s) n)
    (has_flat_map (targets g) s m n h (has_target (links_of g m) k n e)))

-- a node, if the end is one, stands in the order
abbrev EndsWithin : List ℕ → End → Type 0
EndsWithin s (Node n) = has s n ≡ true
EndsWithin s Null = ⊤
EndsWithin s Undefined = ⊤

step_within : (g : Rooted) (s : List ℕ) → IsBreadthOrder g s → (e : End) (k : ℕ) → EndsWithin s e
    → EndsWithin s (follow g e k)
step_within g s o Null k w = tt
step_within g s o Undefined k w = tt
step_within g s o (Node m) k w = go (slice_get (links_of g m) k) refl
  where
    go : (link : Option (Option ℕ)) → slice_get (links_of g m) k ≡ link → EndsWithin s (end_of_link link)
    go None e = tt
    go (Some None) e = tt
    go (Some (Some n)) e = has_linked g s o m k n w e

steps_within : (g : Rooted) (s : List ℕ) → IsBreadthOrder g s → (ks : List ℕ) (e : End) → EndsWithin s e
    → EndsWithin s (fold (follow g) e ks)
steps_within g s o [] e w = w
steps_within g s o (k ∷ ks) e w = steps_within g s o ks (follow g e k) (step_within g s o e k w)

path_within : (g : Rooted) (s : List ℕ) → IsBreadthOrder g s → (p : Path) → EndsWithin s (end_of g p)
path_within g s o p = steps_within g s o p.steps (end_of_root (slice_get g.roots p.root))
    (go (slice_get g.roots p.root) refl)
  where
    go : (root : Option ℕ) → slice_get g.roots p.root ≡ root → EndsWithin s (end_of_root root)
    go None e = tt
    go (Some n) e = has_root g s o p.root n e

pub has_reached : (g : Rooted) (s : List ℕ) → IsBreadthOrder g s → (n : ℕ) → IsReached g n → has s n ≡ true
has_reached g s o n r = subst (EndsWithin s) r.1 (path_within g s o r.0)

root_reached : (g : Rooted) (k n : ℕ) → slice_get g.roots k ≡ Some n → IsReached g n
root_reached g k n e = (record { root = k; steps = [] }, ap end_of_root e)

link_reached : (g : Rooted) (m k n : ℕ) → IsReached g m → slice_get (links_of g m) k ≡ Some (Some n) → IsReached g n
link_reached g m k n r e =
    (step_path r.0 k, end_of-step_path g r.0 k ∙ ap (λ end. follow g end k) r.1 ∙ ap end_of_link e)

-- paths to the members below place i, from paths to those before each of them
reached_below : (g : Rooted) (s : List ℕ) → IsBreadthOrder g s → (i k : ℕ) → k < i → k < length s
    → IsReached g (get_or s k 0)
reached_below g s o zero k below h = absurd (omega arith)
reached_below g s o (suc i) k below h =
    go (or_cases (has g.roots x) (has (flat_map (targets g) (take k s)) x) there) (reached_below g s o i)
  where
    x : ℕ
    x = get_or s k 0

    there : (has g.roots x || has (flat_map (targets g) (take k s)) x) ≡ true
    there = sym (has-append g.roots (flat_map (targets g) (take k s)) x)
        ∙ has_from_Contains (roots_and_targets g (take k s)) x (o.earlier k h)

    from_member : ((j : ℕ) → j < i → j < length s → IsReached g (get_or s j 0)) → (j : ℕ) × (j < length (take k s))
        × (has (targets g (get_or (take k s) j 0)) x ≡ true) → IsReached g x
    from_member earlier found =
        let m : ℕ = get_or (take k s) found.0 0 in
        let link = link_to_target (links_of g m) x found.2 in
        let before : found.0 < k = let w : found.0 < length (take k s) = found.1 in omega (arith, length-take k s) in
        let member : IsReached g m =
        subst (IsReached g) (sym (get_or-take k s found.0 0 before)) (earlier found.0 (omega arith) (omega arith)) in
        link_reached g m link.0 x member link.1

    go : (has g.roots x ≡ true) ⊎ (has (flat_map (targets g) (take k s)) x ≡ true)
        → ((j : ℕ) → j < i → j < length s → IsReached g (get_or s j 0)) → IsReached g x
    go (inl root) earlier = let found = slice_get_from_has g.roots x root in root_reached g found.0 x found.1
    go (inr target) earlier = from_member earlier (member_of_flat_map (targets g) (take k s) x target)

-- each member is reached
pub reached_member : (g : Rooted) (s : List ℕ) → IsBreadthOrder g s → (n : ℕ) → has s n ≡ true → IsReached g n
reached_member g s o n h = placed (number_has s n h)
  where
    placed : (k : ℕ) × (number_of s n ≡ Some k) → IsReached g n
    placed found =
        let here = number_at s n found.0 found.1 in
        subst (IsReached g) here.1 (reached_below g s o (suc found.0) found.0 (omega arith) here.0)

pub order_holds_reached : (g : Rooted) (s : List ℕ) → IsBreadthOrder g s → (n : ℕ) → Contains s n ↔ IsReached g n
order_holds_reached g s o n =
    (λ c. reached_member g s o n (has_from_Contains s n c), λ r. Contains_from_has s n (has_reached g s o n r))

-- a node has a number exactly where it is reached
pub numbered_where_reached : (g : Rooted) (s : List ℕ) → IsBreadthOrder g s → (n : ℕ) → IsSome (number_of s n)
    ↔ IsReached g n
numbered_where_reached g s o n = (there (number_of s n) refl, back)
  where
    there : (k : Option ℕ) → number_of s n ≡ k → IsSome k → IsReached g n
    there None e i = absurd (cc)
    there (Some k) e i = let here = number_at s n k e in
        subst (IsReached g) here.1 (reached_below g s o (suc k) k (omega arith) here.0)

    back : IsReached g n → IsSome (number_of s n)
    back r = let found = number_has s n (has_reached g s o n r) in subst IsSome (sym found.1) refl
