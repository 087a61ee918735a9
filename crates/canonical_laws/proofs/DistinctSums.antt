-- A sum over distinct numbers is no more than that over all numbers below a bound: so the records of an order weigh no
-- more than those of the frame.
use Rattle.std.proofs.Common.{◌≡◌, ℕ, zero, suc, ◌+◌, ◌<◌, ◌≤◌, Bool, true, false, not, cond, List, [], ◌∷◌, ◌++◌}
use Rattle.std.proofs.Common.{sum_by}
use Rattle.std.proofs.Common.{filter, nat_eq, refl, sym, ap, ◌∙◌, subst, arith}
use Rattle.std.specs.List.{AllByRecursion, IsDistinct, range_with_len}
use Rattle.std.proofs.lemmas.Bool.{eqb-true, eqb-false}
use Rattle.std.proofs.lemmas.List.Sums.{sum_by-cons, sum_by_push}

-- whether a number is another
abbrev differs : ℕ → ℕ → Bool
differs n x = not (nat_eq n x)

-- those that are not n
abbrev without : ℕ → List ℕ → List ℕ
without n s = filter (differs n) s

without-distinct : (n : ℕ) (s : List ℕ) → AllByRecursion (λ y. nat_eq n y ≡ false) s → without n s ≡ s
without-distinct n [] all = refl
without-distinct n (x ∷ xs) all =
    ap (λ b. cond (not b) (x ∷ without n xs) (without n xs)) all.0 ∙ ap (λ ys. x ∷ ys) (without-distinct n xs all.1)

sum-without : (g : ℕ → ℕ) (n : ℕ) (s : List ℕ) → IsDistinct nat_eq s → sum_by g s ≤ sum_by g (without n s) + g n
unfolding IsDistinct
sum-without g n [] distinct = omega arith
sum-without g n (x ∷ xs) distinct = by (nat_eq n x) refl (sum-without g n xs distinct.1)
  where
    by : (b : Bool) → nat_eq n x ≡ b → sum_by g xs ≤ sum_by g (without n xs) + g n
        → sum_by g (x ∷ xs) ≤ sum_by g (cond (not b) (x ∷ without n xs) (without n xs)) + g n
    by true same later =
        let is : n ≡ x = eqb-true n x same in
        let none : without n xs ≡ xs =
        without-distinct n xs (subst (λ m. AllByRecursion (λ y. nat_eq m y ≡ false) xs) (sym is) distinct.0) in
        omega (arith, sum_by-cons g x xs, ap g is, ap (sum_by g) none)
    by false differ later = omega (arith, sum_by-cons g x xs, sum_by-cons g x (without n xs), later)

all-without : (P : ℕ → Type 0) (n : ℕ) (s : List ℕ) → AllByRecursion P s → AllByRecursion P (without n s)
all-without P n [] all = tt
all-without P n (x ∷ xs) all = by (differs n x) (all-without P n xs all.1)
  where
    by : (b : Bool) → AllByRecursion P (without n xs) → AllByRecursion P (cond b (x ∷ without n xs) (without n xs))
    by true later = (all.0, later)
    by false later = later

distinct-without : (n : ℕ) (s : List ℕ) → IsDistinct nat_eq s → IsDistinct nat_eq (without n s)
unfolding IsDistinct
distinct-without n [] distinct = tt
distinct-without n (x ∷ xs) distinct = by (differs n x) (distinct-without n xs distinct.1)
  where
    by : (b : Bool) → IsDistinct nat_eq (without n xs) → IsDistinct nat_eq (cond b (x ∷ without n xs) (without n xs))
    by true later = (all-without (λ y. nat_eq x y ≡ false) n xs distinct.0, later)
    by false later = later

below-without : (n : ℕ) (s : List ℕ) → AllByRecursion (λ x. x < suc n) s → AllByRecursion (λ x. x < n) (without n s)
below-without n [] all = tt
below-without n (x ∷ xs) all = by (nat_eq n x) refl (below-without n xs all.1)
  where
    by : (b : Bool) → nat_eq n x ≡ b → AllByRecursion (λ x. x < n) (without n xs)
        → AllByRecursion (λ x. x < n) (cond (not b) (x ∷ without n xs) (without n xs))
    by true same later = later
    by false differ later = (below x (λ is. eqb-false n x differ is) all.0, later)
      where
        below : (m : ℕ) → (n ≡ m → ⊥) → m < suc n → m < n
        below m apart less = omega (arith, apart, less)

pub range-push : (a n : ℕ) → range_with_len a (suc n) ≡ range_with_len a n ++ (a + n) ∷ []
range-push a zero = ap (λ m. m ∷ []) (omega arith)
range-push a (suc n) =
    ap (λ (xs : List ℕ). a ∷ xs) (range-push (a + 1) n ∙ ap (λ m. range_with_len (a + 1) n ++ m ∷ []) (omega arith))

pub distinct-sum : (g : ℕ → ℕ) (n : ℕ) (s : List ℕ) → IsDistinct nat_eq s → AllByRecursion (λ x. x < n) s
    → sum_by g s ≤ sum_by g (range_with_len 0 n)
distinct-sum g zero [] distinct below = omega arith
distinct-sum g zero (x ∷ xs) distinct below = absurd (omega (arith, below.0))
distinct-sum g (suc n) s distinct below =
    let first = sum-without g n s distinct in
    let rest = distinct-sum g n (without n s) (distinct-without n s distinct) (below-without n s below) in
    let last : sum_by g (range_with_len 0 (suc n)) ≡ sum_by g (range_with_len 0 n) + g (0 + n) =
    ap (sum_by g) (range-push 0 n) ∙ sum_by_push g (range_with_len 0 n) (0 + n) in
    let same : g (0 + n) ≡ g n = ap g (omega arith) in
    omega (arith, first, rest, last, same)
