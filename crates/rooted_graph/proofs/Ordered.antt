-- A graph put into its order is equal to it, and its own order counts up.
use Rattle.std.proofs.Common.{◌≡◌, ℕ, suc, ◌<◌, ◌≤◌, ◌⊎◌, inl, inr, true, Option, Some, None, List, [], ◌∷◌, length}
use Rattle.std.proofs.Common.{get_or, take, map, refl, sym, ap, ◌∙◌, subst, arith}
use Rattle.std.specs.Prelude.{slice_get, Contains}
use Rattle.std.specs.List.{AllZip, filter_map, cons_option}
use Rattle.std.proofs.lemmas.Bool.{cases_lt}
use Rattle.std.proofs.lemmas.List.{get_or-map}
use Rattle.std.proofs.lemmas.List.FromFn.{length-range_with_len, get_or-range_with_len}
use Rattle.std.proofs.lemmas.Option.{slice_get-get_or, slice_get_past, same_Some}
use Rattle.rooted_graph.specs.Rooted.{Rooted, links_of}
use Rattle.rooted_graph.specs.SameGraph.{Labelled, SameGraph}
use Rattle.rooted_graph.specs.BreadthOrder.{has, number_of, first_occurrences, roots_and_targets, IsBreadthOrder}
use Rattle.rooted_graph.specs.InOrder.{renumbered, graph_in_order, in_order, counting_up}
use Rattle.rooted_graph.proofs.Firsts.{has_at, has_from_Contains}
use Rattle.rooted_graph.proofs.Places.{number_has, number_at, Contains_from_has}
use Rattle.rooted_graph.proofs.Orders.{number_of-member}
use Rattle.rooted_graph.proofs.Reached.{has_root, has_linked}
use Rattle.rooted_graph.proofs.Zips.{Both, zip_from_places, zip-take, functional_zip}
use Rattle.rooted_graph.proofs.Matchings.{IsMatching, has_zip, roots_and_targets_zip, first_occurrences_zip}
use Rattle.rooted_graph.proofs.Equality.{same_from_matching}

-- k is the number of n
abbrev IsNumber : List ℕ → ℕ → ℕ → Type 0
IsNumber s n k = number_of s n ≡ Some k

module _ (g : Rooted) (s : List ℕ) (o : IsBreadthOrder g s) where
  number_right : (n k k' : ℕ) → IsNumber s n k → IsNumber s n k' → k ≡ k'
  number_right n k k' e e' = same_Some k k' (sym e ∙ e')

  number_left : (n n' k : ℕ) → IsNumber s n k → IsNumber s n' k → n ≡ n'
  number_left n n' k e e' = sym (number_at s n k e).1 ∙ (number_at s n' k e').1

  roots_zip : (xs : List ℕ) → ((k n : ℕ) → slice_get xs k ≡ Some n → has s n ≡ true)
      → AllZip (IsNumber s) xs (filter_map (number_of s) xs)
  roots_zip [] members = tt
  roots_zip (x ∷ xs) members = numbered (number_has s x (members 0 x refl)) (roots_zip xs (λ k. members (suc k)))
    where
      numbered : (k : ℕ) × (number_of s x ≡ Some k) → AllZip (IsNumber s) xs (filter_map (number_of s) xs)
          → AllZip (IsNumber s) (x ∷ xs) (cons_option (number_of s x) (filter_map (number_of s) xs))
      numbered found z = subst (λ a. AllZip (IsNumber s) (x ∷ xs) (cons_option a (filter_map (number_of s) xs)))
          (sym found.1) (found.1, z)

  links_zip : (ls : List (Option ℕ)) → ((k n : ℕ) → slice_get ls k ≡ Some (Some n) → has s n ≡ true)
      → AllZip (Both (IsNumber s)) ls (map (renumbered s) ls)
  links_zip [] members = tt
  links_zip (None ∷ ls) members = (tt, links_zip ls (λ k. members (suc k)))
  links_zip (Some n ∷ ls) members = (numbered (number_has s n (members 0 n refl)), links_zip ls (λ k. members (suc k)))
    where
      numbered : (k : ℕ) × (number_of s n ≡ Some k) → Both (IsNumber s) (Some n) (number_of s n)
      numbered found = subst (Both (IsNumber s) (Some n)) (sym found.1) found.1

  -- the links of node k are those of the k-th member, renumbered
  links_of-graph_in_order : (n k : ℕ) → IsNumber s n k
      → links_of (graph_in_order g s) k ≡ map (renumbered s) (links_of g n)
  links_of-graph_in_order n k e =
      let here = number_at s n k e in
      get_or-map (λ m. map (renumbered s) (links_of g m)) s k 0 [] here.0
      ∙ ap (λ m. map (renumbered s) (links_of g m)) here.1

  member : (n k : ℕ) → IsNumber s n k → has s n ≡ true
  member n k e = let here = number_at s n k e in ap (has s) (sym here.1) ∙ has_at s k 0 here.0

  number_matching : IsMatching g (graph_in_order g s) (IsNumber s)
  number_matching =
      record {
        one_right = number_right;
        one_left = number_left;
        roots = roots_zip g.roots (has_root g s o);
        links = λ n k e. subst (AllZip (Both (IsNumber s)) (links_of g n)) (sym (links_of-graph_in_order n k e))
            (links_zip (links_of g n) (λ j m. has_linked g s o n j m (member n k e)));
      }

  counted : (k : ℕ) → (k < length s) ⊎ (length s ≤ k) → Both (IsNumber s) (slice_get s k) (slice_get (counting_up s) k)
  counted k (inl h) =
      let w : k < length (counting_up s) = omega (arith, length-range_with_len 0 (length s)) in
      let place : get_or (counting_up s) k 0 ≡ k = get_or-range_with_len 0 (length s) k 0 h ∙ (omega arith) in
      subst (λ a. Both (IsNumber s) a (slice_get (counting_up s) k)) (sym (slice_get-get_or s k 0 h))
      (subst (Both (IsNumber s) (Some (get_or s k 0))) (sym (slice_get-get_or (counting_up s) k 0 w ∙ ap Some place))
      (number_of-member g s o k h))
  counted k (inr h) =
      let w : length (counting_up s) ≤ k = omega (arith, length-range_with_len 0 (length s)) in
      subst (λ a. Both (IsNumber s) a (slice_get (counting_up s) k)) (sym (slice_get_past s k h))
      (subst (Both (IsNumber s) None) (sym (slice_get_past (counting_up s) k w)) tt)

  counted_zip : AllZip (IsNumber s) s (counting_up s)
  counted_zip = zip_from_places (IsNumber s) s (counting_up s) (λ k. counted k (cases_lt k (length s)))

  pub counts_up : IsBreadthOrder (graph_in_order g s) (counting_up s)
  counts_up = record { first = first; earlier = earlier }
    where
      first : counting_up s ≡ first_occurrences (roots_and_targets (graph_in_order g s) (counting_up s))
      first =
          functional_zip (IsNumber s) number_right s (counting_up s)
          (first_occurrences (roots_and_targets (graph_in_order g s) (counting_up s))) counted_zip
          (subst (λ u. AllZip (IsNumber s) u
          (first_occurrences (roots_and_targets (graph_in_order g s) (counting_up s)))) (sym o.first)
          (first_occurrences_zip g (graph_in_order g s) (IsNumber s) number_matching s (counting_up s) counted_zip))

      earlier : (k : ℕ) → k < length (counting_up s)
          → Contains (roots_and_targets (graph_in_order g s) (take k (counting_up s))) (get_or (counting_up s) k 0)
      earlier k w =
          let h : k < length s = omega (arith, length-range_with_len 0 (length s)) in
          let place : get_or (counting_up s) k 0 ≡ k = get_or-range_with_len 0 (length s) k 0 h ∙ (omega arith) in
          let number : number_of s (get_or s k 0) ≡ Some k = number_of-member g s o k h in
          let here = has_from_Contains (roots_and_targets g (take k s)) (get_or s k 0) (o.earlier k h) in
          let there = has_zip g (graph_in_order g s) (IsNumber s) number_matching (roots_and_targets g (take k s))
          (roots_and_targets (graph_in_order g s) (take k (counting_up s)))
          (roots_and_targets_zip g (graph_in_order g s) (IsNumber s) number_matching (take k s)
          (take k (counting_up s)) (zip-take (IsNumber s) k s (counting_up s) counted_zip)) (get_or s k 0) k number in
          Contains_from_has (roots_and_targets (graph_in_order g s) (take k (counting_up s)))
          (get_or (counting_up s) k 0)
          (ap (has (roots_and_targets (graph_in_order g s) (take k (counting_up s)))) place ∙ sym there ∙ here)

pub same_in_order : {L : Type 0} (f : Labelled L) (s : List ℕ) → IsBreadthOrder f.graph s → SameGraph f (in_order f s)
same_in_order f s o =
    same_from_matching f (in_order f s) (IsNumber s) (number_matching f.graph s o)
    (λ n k e. ap f.label (sym (number_at s n k e).1)) refl
