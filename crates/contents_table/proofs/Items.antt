-- Items that are spelled one list after another.
use Rattle.std.proofs.Common.{◌≡◌, ℕ, zero, suc, ◌+◌, ◌<◌, List, [], ◌∷◌, ◌++◌, length, map, take, get_or, refl, sym}
use Rattle.std.proofs.Common.{ap}
use Rattle.std.proofs.Common.{◌∙◌, append_assoc, append-nil, add-one, arith}
use Rattle.std.specs.List.{flat_map}
use Rattle.std.proofs.Math.Seq.{take-suc}
use Rattle.std.proofs.lemmas.Grind.{flat_map-append}
use Rattle.std.proofs.lemmas.List.{length-append, map-append}
use Rattle.record_values.specs.Spelling.{AreItems}
use Rattle.layout_plan.specs.Appends.{Appends}
use Rattle.layout_plan.proofs.AppendLemmas.{Appends-none, Appends-more}
use Rattle.contents_table.specs.Built.{numbers_below}

pub AreItems-append : {X : Type 0} (R : X → List ℕ → Type 0) (xs ys : List X) (front back : List ℕ)
    → AreItems R xs front → AreItems R ys back → AreItems R (xs ++ ys) (front ++ back)
AreItems-append R [] ys front back none more = rw none more
AreItems-append R (x ∷ xs) ys front back (first, rest, split, r, items) more = (
  first,
  rest ++ back,
  ap (λ f. f ++ back) split ∙ append_assoc first rest back,
  r,
  AreItems-append R xs ys rest back items more,
)

pub AreItems-one : {X : Type 0} (R : X → List ℕ → Type 0) (x : X) (bytes : List ℕ) → R x bytes
    → AreItems R (x ∷ []) bytes
AreItems-one R x bytes r = (bytes, [], sym (append-nil bytes), r, refl)

-- more items are appended
pub list_more : {X : Type 0} (R : X → List ℕ → Type 0) (xs ys zs : List X) (old mid new : List ℕ)
    → zs ≡ xs ++ ys
    → Appends (AreItems R xs) old mid → Appends (AreItems R ys) mid new → Appends (AreItems R zs) old new
list_more R xs ys zs old mid new all before more =
    Appends-more (AreItems R xs) (AreItems R ys) (AreItems R zs) old mid new before more
    (λ front back items others. rw all (AreItems-append R xs ys front back items others))

-- one more item is appended
pub list_push : {X : Type 0} (R : X → List ℕ → Type 0) (xs : List X) (x : X) (zs : List X)
    (old mid new : List ℕ)
    → zs ≡ xs ++ x ∷ [] → Appends (AreItems R xs) old mid → Appends (R x) mid new
    → Appends (AreItems R zs) old new
list_push R xs x zs old mid new all before one =
    Appends-more (AreItems R xs) (R x) (AreItems R zs) old mid new before one
    (λ front back items r. rw all (AreItems-append R xs (x ∷ []) front back items (AreItems-one R x back r)))

-- there are as many numbers below a bound as it says
pub length-numbers_below : (n : ℕ) → length (numbers_below n) ≡ n
unfolding numbers_below
length-numbers_below zero = refl
length-numbers_below (suc n) = omega (arith, length-append (numbers_below n) (n ∷ []), length-numbers_below n)

-- one more number below a bound
pub numbers_below-more : (n : ℕ) → numbers_below (n + 1) ≡ numbers_below n ++ n ∷ []
unfolding numbers_below
numbers_below-more n = rw add-one refl

pub map-below : {X : Type 0} (f : ℕ → X) (n : ℕ)
    → map f (numbers_below (n + 1)) ≡ map f (numbers_below n) ++ f n ∷ []
map-below f n = ap (map f) (numbers_below-more n) ∙ map-append f (numbers_below n) (n ∷ [])

pub flat_map-below : {X : Type 0} (f : ℕ → List X) (n : ℕ)
    → flat_map f (numbers_below (n + 1)) ≡ flat_map f (numbers_below n) ++ f n
flat_map-below f n =
    ap (flat_map f) (numbers_below-more n)
    ∙ flat_map-append f (numbers_below n) (n ∷ [])
    ∙ ap (λ xs. flat_map f (numbers_below n) ++ xs) (append-nil (f n))

-- one more element
pub flat_map-more : {X Y : Type 0} (f : X → List Y) (xs : List X) (i : ℕ) (d : X) → i < length xs
    → flat_map f (take (i + 1) xs) ≡ flat_map f (take i xs) ++ f (get_or xs i d)
flat_map-more f xs i d within =
    rw (add-one, take-suc xs i d)
    (flat_map-append f (take i xs) (get_or xs i d ∷ [])
    ∙ ap (λ ys. flat_map f (take i xs) ++ ys) (append-nil (f (get_or xs i d))))

-- nothing is appended yet
pub map-none : {X : Type 0} (R : X → List ℕ → Type 0) (f : ℕ → X) (old : List ℕ)
    → Appends (AreItems R (map f (numbers_below 0))) old old
unfolding numbers_below
map-none R f old = Appends-none (AreItems R []) old refl

pub flat_map-none : {X : Type 0} (R : X → List ℕ → Type 0) (f : ℕ → List X) (old : List ℕ)
    → Appends (AreItems R (flat_map f (numbers_below 0))) old old
unfolding numbers_below
flat_map-none R f old = Appends-none (AreItems R []) old refl
