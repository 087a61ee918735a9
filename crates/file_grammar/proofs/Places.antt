-- Elements of a list that pass a test.
use Rattle.std.proofs.Common.{◌≡◌, suc, Bool, true, false, ◌||◌, cond, List, [], ◌∷◌, Some, is_some, refl, sym, ◌∙◌}
use Rattle.std.proofs.Common.{arith}
use Rattle.std.specs.List.{All, Any, find, list_any}
use Rattle.std.proofs.lemmas.List.Folds.{Any-from_list_any, list_any-from_Any}

-- an element is found where some element passes
pub is_some-find : {X : Type 0} (p : X → Bool) (xs : List X) → is_some (find p xs) ≡ list_any p xs
is_some-find p [] = refl
is_some-find {X} p (x ∷ xs) = by (p x) (is_some-find p xs)
  where
    by : (b : Bool) → is_some (find p xs) ≡ list_any p xs
        → is_some {T = X} (cond b (Some x) (find p xs)) ≡ (b || list_any p xs)
    by true others = refl
    by false others = others

-- some element has what the test tells
pub found-Any : {X : Type 0} (p : X → Bool) (P : X → Type 0) (xs : List X) → ((x : X) → p x ≡ true → P x)
    → is_some (find p xs) ≡ true → Any P xs
found-Any p P xs tells e =
    let some = Any-from_list_any p xs (sym (is_some-find p xs) ∙ e) in
    (some.0, some.1, some.2, some.3, tells some.1 some.4)

pub Any-found : {X : Type 0} (p : X → Bool) (P : X → Type 0) (xs : List X) → ((x : X) → P x → p x ≡ true) → Any P xs
    → is_some (find p xs) ≡ true
Any-found p P xs tells (k, x, within, is, holds) =
    is_some-find p xs ∙ list_any-from_Any p xs (k, x, within, is, tells x holds)

-- what holds of each element holds of the first and of each of the others
pub All-first : {X : Type 0} (P : X → Type 0) (x : X) (xs : List X) → All P (x ∷ xs) → P x
All-first P x xs h = h 0 x (omega arith)

pub All-others : {X : Type 0} (P : X → Type 0) (x : X) (xs : List X) → All P (x ∷ xs) → All P xs
All-others P x xs h = λ k d lt. h (suc k) d (omega arith)
