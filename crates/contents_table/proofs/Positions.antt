-- The first element that passes, looked for from the front, and looked for among others.
use Rattle.std.proofs.Common.{◌≡◌, ℕ, suc, ◌+◌, ◌≤◌, Bool, true, false, cond, List, [], ◌∷◌, length, drop, map}
use Rattle.std.proofs.Common.{position, Some, None, refl, sym, ap, ◌∙◌, subst, arith}
use Rattle.std.specs.Prelude.{nat_lt, not, All, slice_get}
use Rattle.std.specs.List.{position_or_len, position_from}
use Rattle.std.proofs.lemmas.Bool.{cond-true, cond-false}
use Rattle.std.proofs.lemmas.Iterator.Adapters.{position_from-zero}
use Rattle.std.proofs.lemmas.List.{at_drop_more, at_drop_all, length-map}
use Rattle.std.proofs.lemmas.List.Elements.{All-head, All-tail}
use Rattle.std.proofs.lemmas.Option.{same_Some, none-some, slice_get_within, get_or_from_slice_get}

-- the search goes on behind an element that does not pass
pub position-more : {X : Type 0} (p : X → Bool) (xs : List X) (i : ℕ) (x : X) → slice_get xs i ≡ Some x
    → p x ≡ false
    → position_from p i (drop i xs) ≡ position_from p (i + 1) (drop (i + 1) xs)
position-more {X} p xs i x is other =
    at_drop_more (position_from p i) xs i x (slice_get_within xs i x is)
    ∙ ap (λ (x : X). position_from p i (x ∷ drop (i + 1) xs)) (get_or_from_slice_get xs i x x is)
    ∙ cond-false (p x) (Some i) (position_from p (i + 1) (drop (i + 1) xs)) other

-- one at which it has arrived passes
pub position-here : {X : Type 0} (p : X → Bool) (xs : List X) (i : ℕ) (x : X) → slice_get xs i ≡ Some x → p x ≡ true
    → position_from p i (drop i xs) ≡ position_from p 0 xs → Some i ≡ position p xs
position-here {X} p xs i x is passes searched =
    let found : position_from p i (drop i xs) ≡ Some i =
    at_drop_more (position_from p i) xs i x (slice_get_within xs i x is)
    ∙ ap (λ (x : X). position_from p i (x ∷ drop (i + 1) xs)) (get_or_from_slice_get xs i x x is)
    ∙ cond-true (p x) (Some i) (position_from p (i + 1) (drop (i + 1) xs)) passes in
    sym found ∙ searched ∙ sym (position_from-zero p xs)

-- none did
pub position-none : {X : Type 0} (p : X → Bool) (xs : List X) (i : ℕ) → length xs ≤ i
    → position_from p i (drop i xs) ≡ position_from p 0 xs → None ≡ position p xs
position-none p xs i le searched =
    sym (at_drop_all (position_from p i) xs i le) ∙ searched ∙ sym (position_from-zero p xs)

-- the element that is found
pub record IsFound {X : Type 0} (p : X → Bool) (xs : List X) (k : ℕ) : Type 0 where
  pub element : X
  pub is : slice_get xs k ≡ Some element
  pub passes : p element ≡ true

found-from : {X : Type 0} (p : X → Bool) (i : ℕ) (xs : List X) (k : ℕ) → position_from p i xs ≡ Some k
    → (j : ℕ) × (k ≡ i + j) × IsFound p xs j
found-from p i [] k e = absurd (none-some k e)
found-from {X} p i (x ∷ xs) k e = by (p x) refl (found-from p (i + 1) xs k) e
  where
    by : (b : Bool) → p x ≡ b
        → (position_from p (i + 1) xs ≡ Some k → (j : ℕ) × (k ≡ (i + 1) + j) × IsFound p xs j)
        → cond b (Some i) (position_from p (i + 1) xs) ≡ Some k → (j : ℕ) × (k ≡ i + j) × IsFound p (x ∷ xs) j
    by true passes later e =
        let same = same_Some i k e in
        (0, omega (arith, same), record { element = x; is = refl; passes = passes })
    by false passes later e =
        let found = later e in (
          suc found.0,
          omega (arith, found.1),
          record { element = found.2.element; is = found.2.is; passes = found.2.passes },
        )

pub position-found : {X : Type 0} (p : X → Bool) (xs : List X) (k : ℕ) → position p xs ≡ Some k → IsFound p xs k
position-found p xs k e =
    let found = found-from p 0 xs k (sym (position_from-zero p xs) ∙ e) in
    let same : found.0 ≡ k = omega (arith, found.1) in
    subst (IsFound p xs) same found.2

-- one that passes in a list that is made of another
pub position-map : {X Y : Type 0} (q : Y → Bool) (f : X → Y) (xs : List X)
    → position q (map f xs) ≡ position (λ x. q (f x)) xs
position-map {X} q f xs =
    let same = len xs in
    let size = length-map xs f in
    λ i. cond (nat_lt (same i) (size i)) (Some (same i)) None
  where
    len : (xs : List X) → position_or_len q (map f xs) ≡ position_or_len (λ x. q (f x)) xs
    len [] = refl
    len (x ∷ xs) = ap (λ n. cond (not (q (f x))) (1 + n) 0) (len xs)

-- two tests that agree on each element
pub position-same : {X : Type 0} (p q : X → Bool) (xs : List X) → All (λ x. p x ≡ q x) xs
    → position p xs ≡ position q xs
position-same {X} p q xs same =
    let at = len xs same in
    λ i. cond (nat_lt (at i) (length xs)) (Some (at i)) None
  where
    len : (xs : List X) → All (λ x. p x ≡ q x) xs → position_or_len p xs ≡ position_or_len q xs
    len [] same = refl
    len (x ∷ xs) same =
        let here = All-head (λ x. p x ≡ q x) x xs same in
        let later = len xs (All-tail (λ x. p x ≡ q x) x xs same) in
        λ i. cond (not (here i)) (1 + later i) 0

-- none passes
pub position-never : {X : Type 0} (p : X → Bool) (xs : List X) → All (λ x. p x ≡ false) xs → position p xs ≡ None
position-never {X} p xs never = position_from-zero p xs ∙ from 0 xs never
  where
    from : (i : ℕ) (xs : List X) → All (λ x. p x ≡ false) xs → position_from p i xs ≡ None
    from i [] never = refl
    from i (x ∷ xs) never =
        cond-false (p x) (Some i) (position_from p (i + 1) xs) (All-head (λ x. p x ≡ false) x xs never)
        ∙ from (i + 1) xs (All-tail (λ x. p x ≡ false) x xs never)
