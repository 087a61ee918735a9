-- The first occurrences in a list: what they hold, that each stands there once, and that a longer list only adds to
-- them.
use Rattle.std.proofs.Common.{◌≡◌, ℕ, zero, suc, ◌+◌, ◌<◌, Bool, true, false, ◌||◌, cond, List, [], ◌∷◌, ◌++◌, length}
use Rattle.std.proofs.Common.{get_or, take, nat_eq, Some, refl, sym, ap, ◌∙◌, append_assoc, arith}
use Rattle.std.specs.Prelude.{fold, slice_get, Contains}
use Rattle.std.specs.Cmp.{nat_eq_equiv}
use Rattle.std.specs.List.{IsDistinct}
use Rattle.std.proofs.lemmas.Bool.{eqb-true, eq-eqb, or_left, or_right}
use Rattle.std.proofs.lemmas.List.{append-nil, take_more}
use Rattle.std.proofs.lemmas.List.Folds.{list_any-append}
use Rattle.std.proofs.lemmas.List.Sums.{fold-append}
use Rattle.std.proofs.lemmas.Option.{slice_get_within, get_or_from_slice_get}
use Rattle.std.proofs.lemmas.Map.Keys.{IsDistinct-push}
use Rattle.rooted_graph.specs.BreadthOrder.{has, added, first_occurrences}

pub or-false : (b : Bool) → (b || false) ≡ b
or-false true = refl
or-false false = refl

or_assoc : (a b c : Bool) → ((a || b) || c) ≡ (a || (b || c))
or_assoc true b c = refl
or_assoc false b c = refl

pub has-append : (xs ys : List ℕ) (n : ℕ) → has (xs ++ ys) n ≡ (has xs n || has ys n)
has-append xs ys n = list_any-append (nat_eq n) xs ys

pub has-push : (xs : List ℕ) (m n : ℕ) → has (xs ++ m ∷ []) n ≡ (has xs n || nat_eq n m)
has-push xs m n = has-append xs (m ∷ []) n ∙ ap (λ b. has xs n || b) (or-false (nat_eq n m))

-- a number that stands there already adds nothing
has_kept : (xs : List ℕ) (m n : ℕ) → has xs m ≡ true → (b : Bool) → nat_eq n m ≡ b → has xs n ≡ (has xs n || b)
has_kept xs m n there true same =
    let here : has xs n ≡ true = ap (has xs) (eqb-true n m same) ∙ there in
    here ∙ sym (or_left (has xs n) true here)
has_kept xs m n there false differ = sym (or-false (has xs n))

pub has-added : (xs : List ℕ) (m n : ℕ) → has (added xs m) n ≡ (has xs n || nat_eq n m)
has-added xs m n = go (has xs m) refl
  where
    go : (b : Bool) → has xs m ≡ b → has (cond b xs (xs ++ m ∷ [])) n ≡ (has xs n || nat_eq n m)
    go true there = has_kept xs m n there (nat_eq n m) refl
    go false new = has-push xs m n

pub has-fold : (xs ys : List ℕ) (n : ℕ) → has (fold added xs ys) n ≡ (has xs n || has ys n)
has-fold xs [] n = sym (or-false (has xs n))
has-fold xs (y ∷ ys) n =
    has-fold (added xs y) ys n ∙ ap (λ b. b || has ys n) (has-added xs y n)
    ∙ or_assoc (has xs n) (nat_eq n y) (has ys n)

-- the first occurrences hold what the list holds
pub has-first_occurrences : (xs : List ℕ) (n : ℕ) → has (first_occurrences xs) n ≡ has xs n
has-first_occurrences xs n = has-fold [] xs n

added_front : (xs : List ℕ) (n : ℕ) → (rest : List ℕ) × (added xs n ≡ xs ++ rest)
added_front xs n = go (has xs n)
  where
    go : (b : Bool) → (rest : List ℕ) × (cond b xs (xs ++ n ∷ []) ≡ xs ++ rest)
    go true = ([], sym (append-nil xs))
    go false = (n ∷ [], refl)

-- what is added stands behind what was there
pub fold_front : (xs ys : List ℕ) → (rest : List ℕ) × (fold added xs ys ≡ xs ++ rest)
fold_front xs [] = ([], sym (append-nil xs))
fold_front xs (y ∷ ys) = joined (added_front xs y) (fold_front (added xs y) ys)
  where
    joined : (rest : List ℕ) × (added xs y ≡ xs ++ rest) → (rest : List ℕ)
        × (fold added (added xs y) ys ≡ added xs y ++ rest) → (rest : List ℕ)
        × (fold added (added xs y) ys ≡ xs ++ rest)
    joined a b = (a.0 ++ b.0, b.1 ∙ ap (λ zs. zs ++ b.0) a.1 ∙ append_assoc xs a.0 b.0)

added_distinct : (xs : List ℕ) (n : ℕ) → IsDistinct nat_eq xs → IsDistinct nat_eq (added xs n)
added_distinct xs n d = go (has xs n) refl
  where
    go : (b : Bool) → has xs n ≡ b → IsDistinct nat_eq (cond b xs (xs ++ n ∷ []))
    go true there = d
    go false new = IsDistinct-push nat_eq_equiv xs n d new

pub fold_distinct : (xs ys : List ℕ) → IsDistinct nat_eq xs → IsDistinct nat_eq (fold added xs ys)
fold_distinct xs [] d = d
fold_distinct xs (y ∷ ys) d = fold_distinct (added xs y) ys (added_distinct xs y d)

-- no number stands twice among the first occurrences
pub first_occurrences_distinct : (xs : List ℕ) → IsDistinct nat_eq (first_occurrences xs)
unfolding IsDistinct
first_occurrences_distinct xs = fold_distinct [] xs tt

pub has_at : (xs : List ℕ) (k d : ℕ) → k < length xs → has xs (get_or xs k d) ≡ true
has_at [] k d h = absurd (omega arith)
has_at (x ∷ xs) zero d h = or_left (nat_eq x x) (has xs x) (eq-eqb x x refl)
has_at (x ∷ xs) (suc k) d h =
    or_right (nat_eq (get_or xs k d) x) (has xs (get_or xs k d)) (has_at xs k d (omega arith))

pub has_from_Contains : (xs : List ℕ) (n : ℕ) → Contains xs n → has xs n ≡ true
has_from_Contains xs n c = ap (has xs) (sym c.2) ∙ has_at xs c.0 n c.1

-- one element of the list more
pub fold_more : (s xs t u : List ℕ) (k n : ℕ) → slice_get xs k ≡ Some n → t ≡ fold added s (take k xs) → u ≡ added t n
    → u ≡ fold added s (take (k + 1) xs)
fold_more s xs t u k n here before after =
    let taken : take (k + 1) xs ≡ take k xs ++ n ∷ [] = take_more xs k 0 (slice_get_within xs k n here)
    ∙ ap (λ m. take k xs ++ m ∷ []) (get_or_from_slice_get xs k n 0 here) in
    after ∙ ap (λ v. added v n) before ∙ sym (fold-append added s (take k xs) (n ∷ [])) ∙ ap (fold added s) (sym taken)
