-- The number of a node in an order: where it is, and that the nodes behind change nothing.
use Rattle.std.proofs.Common.{◌≡◌, ℕ, zero, suc, ◌<◌, Bool, true, false, ◌||◌, cond, Option, Some, None, List, [], ◌∷◌}
use Rattle.std.proofs.Common.{◌++◌, length, get_or, nat_eq, refl, sym, ap, ◌∙◌, subst, arith}
use Rattle.std.specs.Prelude.{Contains}
use Rattle.std.specs.Option.{option_map}
use Rattle.std.specs.List.{IsDistinct}
use Rattle.std.proofs.lemmas.Bool.{eqb-true, eqb-false, eq-eqb, ne_eqb}
use Rattle.std.proofs.lemmas.List.{get_or_default}
use Rattle.std.proofs.lemmas.List.Elements.{All-from_recursion, All-get_or}
use Rattle.rooted_graph.specs.BreadthOrder.{has, number_of}

-- a node that stands in the list has a number
pub number_has : (xs : List ℕ) (n : ℕ) → has xs n ≡ true → (k : ℕ) × (number_of xs n ≡ Some k)
number_has [] n h = absurd (cc)
number_has (x ∷ xs) n h = go (nat_eq n x) h (number_has xs n)
  where
    go : (b : Bool) → (b || has xs n) ≡ true → (has xs n ≡ true → (k : ℕ) × (number_of xs n ≡ Some k)) → (k : ℕ)
        × (cond b (Some 0) (option_map (λ i. suc i) (number_of xs n)) ≡ Some k)
    go true e later = (0, refl)
    go false e later = let found = later e in (suc found.0, ap (option_map (λ i. suc i)) found.1)

-- and one that does not stand there has none
pub number_none : (xs : List ℕ) (n : ℕ) → has xs n ≡ false → number_of xs n ≡ None
number_none [] n h = refl
number_none (x ∷ xs) n h = go (nat_eq n x) h (number_none xs n)
  where
    go : (b : Bool) → (b || has xs n) ≡ false → (has xs n ≡ false → number_of xs n ≡ None)
        → cond b (Some 0) (option_map (λ i. suc i) (number_of xs n)) ≡ None
    go true e later = absurd (cc)
    go false e later = ap (option_map (λ i. suc i)) (later e)

-- the number of a node is its place
pub number_at : (xs : List ℕ) (n k : ℕ) → number_of xs n ≡ Some k → (k < length xs) × (get_or xs k 0 ≡ n)
number_at [] n k e = absurd (cc)
number_at (x ∷ xs) n k e = go (nat_eq n x) refl (number_of xs n) e (number_at xs n)
  where
    go : (b : Bool) → nat_eq n x ≡ b → (o : Option ℕ) → cond b (Some 0) (option_map (λ i. suc i) o) ≡ Some k
        → ((j : ℕ) → o ≡ Some j → (j < length xs) × (get_or xs j 0 ≡ n)) → (k < suc (length xs))
        × (get_or (x ∷ xs) k 0 ≡ n)
    go true same o e later =
        let zero_is : 0 ≡ k = cc in
        subst (λ j. (j < suc (length xs)) × (get_or (x ∷ xs) j 0 ≡ n)) zero_is (omega arith, sym (eqb-true n x same))
    go false differ None e later = absurd (cc)
    go false differ (Some j) e later =
        let suc_is : suc j ≡ k = cc in
        let found = later j refl in
        subst (λ i. (i < suc (length xs)) × (get_or (x ∷ xs) i 0 ≡ n)) suc_is (omega arith, found.1)

-- more nodes behind leave the numbers as they are
pub number_front : (xs ys : List ℕ) (n k : ℕ) → number_of xs n ≡ Some k → number_of (xs ++ ys) n ≡ Some k
number_front [] ys n k e = absurd (cc)
number_front (x ∷ xs) ys n k e = go (nat_eq n x) (number_of xs n) e (number_front xs ys n)
  where
    go : (b : Bool) (o : Option ℕ) → cond b (Some 0) (option_map (λ i. suc i) o) ≡ Some k
        → ((j : ℕ) → o ≡ Some j → number_of (xs ++ ys) n ≡ Some j)
        → cond b (Some 0) (option_map (λ i. suc i) (number_of (xs ++ ys) n)) ≡ Some k
    go true o e later = e
    go false None e later = absurd (cc)
    go false (Some j) e later = ap (option_map (λ i. suc i)) (later j refl) ∙ e

-- in a list of distinct nodes each one's place is its number
pub number_distinct : (xs : List ℕ) (k : ℕ) → IsDistinct nat_eq xs → k < length xs
    → number_of xs (get_or xs k 0) ≡ Some k
unfolding IsDistinct
number_distinct [] k d h = absurd (omega arith)
number_distinct (x ∷ xs) zero d h =
    ap (λ b. cond b (Some 0) (option_map (λ i. suc i) (number_of xs x))) (eq-eqb x x refl)
number_distinct (x ∷ xs) (suc k) d h =
    let within : k < length xs = omega arith in
    let y : ℕ = get_or xs k 0 in
    let differ : nat_eq x y ≡ false =
    All-get_or (λ z. nat_eq x z ≡ false) xs k 0 within (All-from_recursion (λ z. nat_eq x z ≡ false) xs d.0) in
    let other : nat_eq y x ≡ false = ne_eqb y x (λ e. eqb-false x y differ (sym e)) in
    ap (λ b. cond b (Some 0) (option_map (λ i. suc i) (number_of xs y))) other
    ∙ ap (option_map (λ i. suc i)) (number_distinct xs k d.1 within)

pub Contains_from_has : (xs : List ℕ) (n : ℕ) → has xs n ≡ true → Contains xs n
Contains_from_has xs n h = placed (number_has xs n h)
  where
    placed : (k : ℕ) × (number_of xs n ≡ Some k) → Contains xs n
    placed found =
        let here = number_at xs n found.0 found.1 in
        (found.0, here.0, get_or_default xs found.0 n 0 here.0 ∙ here.1)

-- a node at the end of a list that lacks it has the list's length as its number
pub number_push_same : (xs : List ℕ) (n : ℕ) → has xs n ≡ false → number_of (xs ++ n ∷ []) n ≡ Some (length xs)
number_push_same [] n h = ap (λ b. cond b (Some 0) None) (eq-eqb n n refl)
number_push_same (x ∷ xs) n h = go (nat_eq n x) h (number_push_same xs n)
  where
    go : (b : Bool) → (b || has xs n) ≡ false → (has xs n ≡ false → number_of (xs ++ n ∷ []) n ≡ Some (length xs))
        → cond b (Some 0) (option_map (λ i. suc i) (number_of (xs ++ n ∷ []) n)) ≡ Some (suc (length xs))
    go true e later = absurd (cc)
    go false e later = ap (option_map (λ i. suc i)) (later e)

-- and no other number changes
pub number_push_other : (xs : List ℕ) (n m : ℕ) → (m ≡ n → ⊥) → number_of (xs ++ n ∷ []) m ≡ number_of xs m
number_push_other [] n m differ = ap (λ b. cond b (Some 0) None) (ne_eqb m n differ)
number_push_other (x ∷ xs) n m differ =
    ap (λ o. cond (nat_eq m x) (Some 0) (option_map (λ i. suc i) o)) (number_push_other xs n m differ)
