-- Sums over the rest of a list.
use Rattle.std.proofs.Common.{◌≡◌, ℕ, suc, ◌+◌, ◌<◌, List, length, drop, get_or, sum_by, add-one}
use Rattle.std.proofs.Math.Seq.{drop-cons}
use Rattle.std.proofs.lemmas.List.Sums.{sum_by-cons}

-- the sum over the rest of a list is its first element's and the sum over what comes after it
pub rest_more : {X : Type 0} (f : X → ℕ) (xs : List X) (i : ℕ) (d x : X) → i < length xs → x ≡ get_or xs i d
    → sum_by f (drop i xs) ≡ f x + sum_by f (drop (i + 1) xs)
rest_more f xs i d x within is =
    rw (add-one, drop-cons xs i d, is) (sum_by-cons f (get_or xs i d) (drop (suc i) xs))
