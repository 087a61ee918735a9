-- The first place of a list, with one more element behind it.
use Rattle.std.proofs.Common.{◌≡◌, ℕ, ◌+◌, Bool, true, false, cond, List, [], ◌∷◌, ◌++◌, length, position}
use Rattle.std.proofs.Common.{Some, None, refl, sym, ap, ◌∙◌, arith}
use Rattle.std.specs.Option.{option_or}
use Rattle.std.specs.List.{position_from}
use Rattle.std.proofs.lemmas.Iterator.Adapters.{position_from-zero}

from-push : {X : Type 0} (p : X → Bool) (i : ℕ) (xs : List X) (y : X) →
    position_from p i (xs ++ y ∷ []) ≡ option_or (position_from p i xs)
    (cond (p y) (Some (i + length xs)) None)
from-push p i [] y = ap (λ n. cond (p y) (Some n) None) (omega arith)
from-push {X} p i (x ∷ xs) y = by (p x) (from-push p (i + 1) xs y)
  where
    by : (b : Bool) → position_from p (i + 1) (xs ++ y ∷ []) ≡ option_or (position_from p (i + 1) xs)
        (cond (p y) (Some (i + 1 + length xs)) None) →
        cond b (Some i) (position_from p (i + 1) (xs ++ y ∷ [])) ≡ option_or
        (cond b (Some i) (position_from p (i + 1) xs)) (cond (p y) (Some (i + length (x ∷ xs))) None)
    by true rest = refl
    by false rest = rest ∙ ap (λ n. option_or (position_from p (i + 1) xs) (cond (p y) (Some n) None))
        (omega arith)

pub position-push : {X : Type 0} (p : X → Bool) (xs : List X) (y : X) →
    position p (xs ++ y ∷ []) ≡ option_or (position p xs) (cond (p y) (Some (length xs)) None)
position-push p xs y =
    let count : 0 + length xs ≡ length xs = omega arith in
    position_from-zero p (xs ++ y ∷ []) ∙ from-push p 0 xs y
    ∙ ap (λ n. option_or (position_from p 0 xs) (cond (p y) (Some n) None)) count
    ∙ ap (λ found. option_or found (cond (p y) (Some (length xs)) None)) (sym (position_from-zero p xs))
