-- A matching relates the nodes of two graphs one to one, so that roots match roots and the links of matching nodes
-- match. Then paths end at matching nodes, and the orders match.
use Rattle.std.proofs.Common.{◌≡◌, ℕ, zero, suc, ◌+◌, Bool, true, false, ◌||◌, cond, Option, Some, None, List, [], ◌∷◌}
use Rattle.std.proofs.Common.{◌++◌, length, take, nat_eq, refl, sym, ap₂, subst, arith}
use Rattle.std.specs.Prelude.{fold, slice_get}
use Rattle.std.specs.Option.{option_map}
use Rattle.std.specs.List.{AllZip, filter_map, flat_map}
use Rattle.std.proofs.lemmas.Bool.{eqb-true, eq-eqb}
use Rattle.std.proofs.lemmas.Bool.Decides.{same_from_decides}
use Rattle.std.proofs.lemmas.List.{take_all}
use Rattle.rooted_graph.specs.Rooted.{Rooted, Path, End, Node, Null, Undefined, links_of, end_of_root, end_of_link}
use Rattle.rooted_graph.specs.Rooted.{follow, end_of}
use Rattle.rooted_graph.specs.SameGraph.{AlikeEnds}
use Rattle.rooted_graph.specs.BreadthOrder.{has, added, first_occurrences, targets, roots_and_targets, number_of}
use Rattle.rooted_graph.specs.BreadthOrder.{IsBreadthOrder}
use Rattle.rooted_graph.proofs.Orders.{order_step}
use Rattle.rooted_graph.proofs.Zips.{Both, places_from_zip, zip-append, zip-take, zip-flat_map}

pub record IsMatching (f g : Rooted) (R : ℕ → ℕ → Type 0) : Type 0 where
  pub one_right : (n m m' : ℕ) → R n m → R n m' → m ≡ m'
  pub one_left : (n n' m : ℕ) → R n m → R n' m → n ≡ n'
  pub roots : AllZip R f.roots g.roots
  pub links : (n m : ℕ) → R n m → AllZip (Both R) (links_of f n) (links_of g m)

module _ (f g : Rooted) (R : ℕ → ℕ → Type 0) (matching : IsMatching f g R) where
  -- paths end alike
  alike_root : (o o' : Option ℕ) → Both R o o' → AlikeEnds R (end_of_root o) (end_of_root o')
  alike_root None None b = tt
  alike_root None (Some m) b = absurd b
  alike_root (Some n) None b = absurd b
  alike_root (Some n) (Some m) b = b

  alike_link : (o o' : Option (Option ℕ)) → Both (Both R) o o' → AlikeEnds R (end_of_link o) (end_of_link o')
  alike_link None None b = tt
  alike_link None (Some link) b = absurd b
  alike_link (Some link) None b = absurd b
  alike_link (Some None) (Some None) b = tt
  alike_link (Some None) (Some (Some m)) b = absurd b
  alike_link (Some (Some n)) (Some None) b = absurd b
  alike_link (Some (Some n)) (Some (Some m)) b = b

  alike_step : (e e' : End) (k : ℕ) → AlikeEnds R e e' → AlikeEnds R (follow f e k) (follow g e' k)
  alike_step (Node n) (Node m) k a =
      alike_link (slice_get (links_of f n) k) (slice_get (links_of g m) k)
      (places_from_zip (Both R) (links_of f n) (links_of g m) (matching.links n m a) k)
  alike_step (Node n) Null k a = absurd a
  alike_step (Node n) Undefined k a = absurd a
  alike_step Null (Node m) k a = absurd a
  alike_step Null Null k a = tt
  alike_step Null Undefined k a = tt
  alike_step Undefined (Node m) k a = absurd a
  alike_step Undefined Null k a = tt
  alike_step Undefined Undefined k a = tt

  alike_steps : (ks : List ℕ) (e e' : End) → AlikeEnds R e e'
      → AlikeEnds R (fold (follow f) e ks) (fold (follow g) e' ks)
  alike_steps [] e e' a = a
  alike_steps (k ∷ ks) e e' a = alike_steps ks (follow f e k) (follow g e' k) (alike_step e e' k a)

  pub alike_paths : (p : Path) → AlikeEnds R (end_of f p) (end_of g p)
  alike_paths p =
      alike_steps p.steps (end_of_root (slice_get f.roots p.root)) (end_of_root (slice_get g.roots p.root))
      (alike_root (slice_get f.roots p.root) (slice_get g.roots p.root)
      (places_from_zip R f.roots g.roots matching.roots p.root))

  -- matching lists hold matching nodes
  same_test : (n m n' m' : ℕ) → R n m → R n' m' → nat_eq n n' ≡ nat_eq m m'
  same_test n m n' m' r r' =
      same_from_decides {P = n ≡ n'} (nat_eq n n') (nat_eq m m') (λ e. eqb-true n n' e, λ e. eq-eqb n n' e) (
        λ e. matching.one_left n n' m r (subst (R n') (sym (eqb-true m m' e)) r'),
        λ e. eq-eqb m m' (matching.one_right n m m' r (subst (λ x. R x m') (sym e) r')),
      )

  pub has_zip : (xs ys : List ℕ) → AllZip R xs ys → (n m : ℕ) → R n m → has xs n ≡ has ys m
  has_zip [] [] z n m r = refl
  has_zip [] (y ∷ ys) z n m r = absurd z
  has_zip (x ∷ xs) [] z n m r = absurd z
  has_zip (x ∷ xs) (y ∷ ys) z n m r = ap₂ (λ a b. a || b) (same_test n m x y r z.0) (has_zip xs ys z.1 n m r)

  -- and give them equal numbers
  pub number_zip : (xs ys : List ℕ) → AllZip R xs ys → (n m : ℕ) → R n m → number_of xs n ≡ number_of ys m
  number_zip [] [] z n m r = refl
  number_zip [] (y ∷ ys) z n m r = absurd z
  number_zip (x ∷ xs) [] z n m r = absurd z
  number_zip (x ∷ xs) (y ∷ ys) z n m r =
      ap₂ (λ b o. cond b (Some 0) (option_map (λ k. suc k) o)) (same_test n m x y r z.0) (number_zip xs ys z.1 n m r)

  added_zip : (xs ys : List ℕ) → AllZip R xs ys → (n m : ℕ) → R n m → AllZip R (added xs n) (added ys m)
  added_zip xs ys z n m r = go (has xs n) (has ys m) (has_zip xs ys z n m r)
    where
      go : (a b : Bool) → a ≡ b → AllZip R (cond a xs (xs ++ n ∷ [])) (cond b ys (ys ++ m ∷ []))
      go true true e = z
      go true false e = absurd (cc)
      go false true e = absurd (cc)
      go false false e = zip-append R xs ys (n ∷ []) (m ∷ []) z (r, tt)

  pub fold_zip : (us vs : List ℕ) → AllZip R us vs → (xs ys : List ℕ) → AllZip R xs ys
      → AllZip R (fold added xs us) (fold added ys vs)
  fold_zip [] [] w xs ys z = z
  fold_zip [] (v ∷ vs) w xs ys z = absurd w
  fold_zip (u ∷ us) [] w xs ys z = absurd w
  fold_zip (u ∷ us) (v ∷ vs) w xs ys z = fold_zip us vs w.1 (added xs u) (added ys v) (added_zip xs ys z u v w.0)

  link_targets_zip : (ls ms : List (Option ℕ)) → AllZip (Both R) ls ms
      → AllZip R (filter_map (λ link. link) ls) (filter_map (λ link. link) ms)
  link_targets_zip [] [] z = tt
  link_targets_zip [] (m ∷ ms) z = absurd z
  link_targets_zip (l ∷ ls) [] z = absurd z
  link_targets_zip (None ∷ ls) (None ∷ ms) z = link_targets_zip ls ms z.1
  link_targets_zip (None ∷ ls) (Some m ∷ ms) z = absurd z.0
  link_targets_zip (Some n ∷ ls) (None ∷ ms) z = absurd z.0
  link_targets_zip (Some n ∷ ls) (Some m ∷ ms) z = (z.0, link_targets_zip ls ms z.1)

  pub roots_and_targets_zip : (s t : List ℕ) → AllZip R s t → AllZip R (roots_and_targets f s) (roots_and_targets g t)
  roots_and_targets_zip s t z =
      zip-append R f.roots g.roots (flat_map (targets f) s) (flat_map (targets g) t) matching.roots
      (zip-flat_map R R (targets f) (targets g)
      (λ n m r. link_targets_zip (links_of f n) (links_of g m) (matching.links n m r)) s t z)

  pub first_occurrences_zip : (s t : List ℕ) → AllZip R s t
      → AllZip R (first_occurrences (roots_and_targets f s)) (first_occurrences (roots_and_targets g t))
  first_occurrences_zip s t z =
      fold_zip (roots_and_targets f s) (roots_and_targets g t) (roots_and_targets_zip s t z) [] [] tt

  -- so the orders match, front by front
  fronts_zip : (s t : List ℕ) → IsBreadthOrder f s → IsBreadthOrder g t → (k : ℕ) → AllZip R (take k s) (take k t)
  fronts_zip s t o p zero = tt
  fronts_zip s t o p (suc k) =
      let grown : AllZip R (take (suc k) (first_occurrences (roots_and_targets f (take k s))))
      (take (suc k) (first_occurrences (roots_and_targets g (take k t)))) =
      zip-take R (suc k) (first_occurrences (roots_and_targets f (take k s)))
      (first_occurrences (roots_and_targets g (take k t)))
      (first_occurrences_zip (take k s) (take k t) (fronts_zip s t o p k)) in
      subst (λ u. AllZip R u (take (suc k) t)) (sym (order_step f s o k))
      (subst (AllZip R (take (suc k) (first_occurrences (roots_and_targets f (take k s)))))
      (sym (order_step g t p k)) grown)

  pub orders_zip : (s t : List ℕ) → IsBreadthOrder f s → IsBreadthOrder g t → AllZip R s t
  orders_zip s t o p =
      let n : ℕ = length s + length t in
      subst (λ u. AllZip R u t) (take_all n s (omega arith))
      (subst (AllZip R (take n s)) (take_all n t (omega arith)) (fronts_zip s t o p n))
