-- What the roots and the targets of a list of nodes hold.
use Rattle.std.proofs.Common.{◌≡◌, ℕ, zero, suc, ◌<◌, ◌⊎◌, inl, inr, true, ◌||◌, Option, Some, None, List, [], ◌∷◌}
use Rattle.std.proofs.Common.{◌++◌, length, get_or, take, drop, nat_eq, sym, ap, ◌∙◌, arith}
use Rattle.std.specs.Prelude.{slice_get}
use Rattle.std.specs.List.{filter_map, flat_map}
use Rattle.std.proofs.lemmas.Bool.{eqb-true, eq-eqb, or_left, or_right, or_cases}
use Rattle.std.proofs.lemmas.List.{take-append-drop}
use Rattle.std.proofs.lemmas.Option.{slice_get_within, get_or_from_slice_get, slice_get-get_or}
use Rattle.rooted_graph.specs.Rooted.{Rooted}
use Rattle.rooted_graph.specs.BreadthOrder.{has, number_of, targets, roots_and_targets}
use Rattle.rooted_graph.proofs.Firsts.{has-append, has_at}
use Rattle.rooted_graph.proofs.Places.{number_has, number_at}
use Rattle.rooted_graph.proofs.Orders.{roots_and_targets-append}

pub has_from_slice_get : (xs : List ℕ) (k n : ℕ) → slice_get xs k ≡ Some n → has xs n ≡ true
has_from_slice_get xs k n e =
    ap (has xs) (sym (get_or_from_slice_get xs k n 0 e)) ∙ has_at xs k 0 (slice_get_within xs k n e)

pub slice_get_from_has : (xs : List ℕ) (n : ℕ) → has xs n ≡ true → (k : ℕ) × (slice_get xs k ≡ Some n)
slice_get_from_has xs n h = placed (number_has xs n h)
  where
    placed : (k : ℕ) × (number_of xs n ≡ Some k) → (k : ℕ) × (slice_get xs k ≡ Some n)
    placed found =
        let here = number_at xs n found.0 found.1 in
        (found.0, slice_get-get_or xs found.0 0 here.0 ∙ ap Some here.1)

-- a link to a node makes the node a target
pub has_target : (links : List (Option ℕ)) (k n : ℕ) → slice_get links k ≡ Some (Some n)
    → has (filter_map (λ link. link) links) n ≡ true
has_target [] k n e = absurd (cc)
has_target (None ∷ links) zero n e = absurd (cc)
has_target (None ∷ links) (suc k) n e = has_target links k n e
has_target (Some m ∷ links) zero n e =
    let same : n ≡ m = cc in
    or_left (nat_eq n m) (has (filter_map (λ link. link) links) n) (eq-eqb n m same)
has_target (Some m ∷ links) (suc k) n e =
    or_right (nat_eq n m) (has (filter_map (λ link. link) links) n) (has_target links k n e)

-- and each target is one by a link
pub link_to_target : (links : List (Option ℕ)) (n : ℕ) → has (filter_map (λ link. link) links) n ≡ true → (k : ℕ)
    × (slice_get links k ≡ Some (Some n))
link_to_target [] n h = absurd (cc)
link_to_target (None ∷ links) n h = let found = link_to_target links n h in (suc found.0, found.1)
link_to_target (Some m ∷ links) n h =
    go (or_cases (nat_eq n m) (has (filter_map (λ link. link) links) n) h) (link_to_target links n)
  where
    go : (nat_eq n m ≡ true) ⊎ (has (filter_map (λ link. link) links) n ≡ true)
        → (has (filter_map (λ link. link) links) n ≡ true → (k : ℕ) × (slice_get links k ≡ Some (Some n))) → (k : ℕ)
        × (slice_get (Some m ∷ links) k ≡ Some (Some n))
    go (inl same) later = (0, ap (λ x. Some (Some x)) (sym (eqb-true n m same)))
    go (inr there) later = let found = later there in (suc found.0, found.1)

-- the members' parts, taken together
pub has_flat_map : (f : ℕ → List ℕ) (xs : List ℕ) (m n : ℕ) → has xs m ≡ true → has (f m) n ≡ true
    → has (flat_map f xs) n ≡ true
has_flat_map f [] m n h i = absurd (cc)
has_flat_map f (x ∷ xs) m n h i = has-append (f x) (flat_map f xs) n
    ∙ go (or_cases (nat_eq m x) (has xs m) h) (has_flat_map f xs m n)
  where
    go : (nat_eq m x ≡ true) ⊎ (has xs m ≡ true) → (has xs m ≡ true → has (f m) n ≡ true → has (flat_map f xs) n ≡ true)
        → (has (f x) n || has (flat_map f xs) n) ≡ true
    go (inl same) later = or_left (has (f x) n) (has (flat_map f xs) n)
        (ap (λ y. has (f y) n) (sym (eqb-true m x same)) ∙ i)
    go (inr there) later = or_right (has (f x) n) (has (flat_map f xs) n) (later there i)

pub member_of_flat_map : (f : ℕ → List ℕ) (xs : List ℕ) (n : ℕ) → has (flat_map f xs) n ≡ true → (i : ℕ)
    × (i < length xs) × (has (f (get_or xs i 0)) n ≡ true)
member_of_flat_map f [] n h = absurd (cc)
member_of_flat_map f (x ∷ xs) n h =
    go (or_cases (has (f x) n) (has (flat_map f xs) n) (sym (has-append (f x) (flat_map f xs) n) ∙ h))
    (member_of_flat_map f xs n)
  where
    go : (has (f x) n ≡ true) ⊎ (has (flat_map f xs) n ≡ true)
        → (has (flat_map f xs) n ≡ true → (i : ℕ) × (i < length xs) × (has (f (get_or xs i 0)) n ≡ true)) → (i : ℕ)
        × (i < suc (length xs)) × (has (f (get_or (x ∷ xs) i 0)) n ≡ true)
    go (inl here) later = (0, omega arith, here)
    go (inr there) later = let found = later there in
        let within : suc found.0 < suc (length xs) = let h : found.0 < length xs = found.1 in omega arith in
        (suc found.0, within, found.2)

-- what a front of the list leads to, the whole list leads to
pub has_more : (g : Rooted) (xs ys : List ℕ) (n : ℕ) → has (roots_and_targets g xs) n ≡ true
    → has (roots_and_targets g (xs ++ ys)) n ≡ true
has_more g xs ys n h =
    ap (λ zs. has zs n) (roots_and_targets-append g xs ys)
    ∙ has-append (roots_and_targets g xs) (flat_map (targets g) ys) n
    ∙ or_left (has (roots_and_targets g xs) n) (has (flat_map (targets g) ys) n) h

pub has_from_take : (g : Rooted) (k : ℕ) (xs : List ℕ) (n : ℕ) → has (roots_and_targets g (take k xs)) n ≡ true
    → has (roots_and_targets g xs) n ≡ true
has_from_take g k xs n h =
    ap (λ zs. has (roots_and_targets g zs) n) (sym (take-append-drop k xs)) ∙ has_more g (take k xs) (drop k xs) n h
