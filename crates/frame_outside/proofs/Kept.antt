-- Slots that are seen through a function of what a shelf keeps of them.
use Rattle.std.proofs.Common.{◌≡◌, ℕ, zero, suc, ◌<◌, ◌≤◌, List, [], ◌∷◌, ◌++◌, length, get_or, slice_get}
use Rattle.std.proofs.Common.{map, Option, Some, IsTrue, refl, sym, ap, ◌∙◌, subst, arith}
use Rattle.std.proofs.Math.ListN.{set}
use Rattle.frame_outside.specs.Shelf.{Reading, Slot, Told, IsSource, IsTarget, is_source, is_target}
use Rattle.frame_outside.specs.Shelf.{reading_of, reading_at, slot_passed, pass, slot_wrote, write}
use Rattle.frame_outside.specs.Shelf.{slot_released, without_slot}

pub IsSource-within : {X : Type 0} (seen : X → Slot) (xs : List X) (slot : ℕ) →
    IsSource (map seen xs) slot → slot < length xs
IsSource-within seen [] slot h = cc
IsSource-within seen (x ∷ xs) zero h = omega arith
IsSource-within seen (x ∷ xs) (suc slot) h = let e = IsSource-within seen xs slot h in omega arith

-- one of them gave n bytes
pub map-set-pass : {X : Type 0} (seen : X → Slot) (xs : List X) (slot n : ℕ) (old new : X) →
    old ≡ get_or xs slot old →
    seen new ≡ slot_passed n (seen old) → map seen (set xs slot new) ≡ pass (map seen xs) slot n
map-set-pass seen [] slot n old new same h = refl
map-set-pass seen (x ∷ xs) zero n old new same h =
    ap (λ s. s ∷ map seen xs) (h ∙ ap (λ y. slot_passed n (seen y)) same)
map-set-pass seen (x ∷ xs) (suc slot) n old new same h =
    ap (λ ss. seen x ∷ ss) (map-set-pass seen xs slot n old new same h)

-- the slot of a number
pub slot_at : {X : Type 0} (seen : X → Slot) (xs : List X) (slot : ℕ) (x : X) → slot < length xs →
    x ≡ get_or xs slot x → slice_get (map seen xs) slot ≡ Some (seen x)
slot_at seen [] slot x lt same = absurd (omega arith)
slot_at seen (y ∷ ys) zero x lt same = ap (λ z. Some (seen z)) (sym same)
slot_at seen (y ∷ ys) (suc slot) x lt same = let e : slot < length ys = omega arith in
    slot_at seen ys slot x e same

-- what holds of what is kept holds of what is told
pub told_at : {X : Type 0} (seen : X → Slot) (P : Reading → Type 0) (xs : List X) (slot : ℕ) (x : X) →
    slot < length xs → x ≡ get_or xs slot x →
    Told (reading_of (Some (seen x))) P → Told (reading_at (map seen xs) slot) P
told_at seen P xs slot x lt same h =
    let Q : Option Slot → Type 0 = λ s. Told (reading_of s) P in
    subst Q (sym (slot_at seen xs slot x lt same)) h

pub is_source_at : {X : Type 0} (seen : X → Slot) (xs : List X) (slot : ℕ) (x : X) → slot < length xs →
    x ≡ get_or xs slot x →
    IsSource (map seen xs) slot → IsTrue (is_source (Some (seen x)))
is_source_at seen xs slot x lt same h =
    let Q : Option Slot → Type 0 = λ s. IsTrue (is_source s) in subst Q (slot_at seen xs slot x lt same) h

pub is_target_at : {X : Type 0} (seen : X → Slot) (xs : List X) (slot : ℕ) (x : X) → slot < length xs →
    x ≡ get_or xs slot x →
    IsTarget (map seen xs) slot → IsTrue (is_target (Some (seen x)))
is_target_at seen xs slot x lt same h =
    let Q : Option Slot → Type 0 = λ s. IsTrue (is_target s) in subst Q (slot_at seen xs slot x lt same) h

pub IsTarget-within : {X : Type 0} (seen : X → Slot) (xs : List X) (slot : ℕ) →
    IsTarget (map seen xs) slot → slot < length xs
IsTarget-within seen [] slot h = cc
IsTarget-within seen (x ∷ xs) zero h = omega arith
IsTarget-within seen (x ∷ xs) (suc slot) h = let e = IsTarget-within seen xs slot h in omega arith

-- one of them wrote bytes
pub map-set-write : {X : Type 0} (seen : X → Slot) (xs : List X) (slot : ℕ) (bytes : List ℕ) (old new : X) →
    old ≡ get_or xs slot old →
    seen new ≡ slot_wrote bytes (seen old) → map seen (set xs slot new) ≡ write (map seen xs) slot bytes
map-set-write seen [] slot bytes old new same h = refl
map-set-write seen (x ∷ xs) zero bytes old new same h =
    ap (λ s. s ∷ map seen xs) (h ∙ ap (λ y. slot_wrote bytes (seen y)) same)
map-set-write seen (x ∷ xs) (suc slot) bytes old new same h =
    ap (λ ss. seen x ∷ ss) (map-set-write seen xs slot bytes old new same h)

-- one of them is seen as before
pub map-set-same : {X S : Type 0} (seen : X → S) (xs : List X) (slot : ℕ) (old new : X) →
    old ≡ get_or xs slot old →
    seen new ≡ seen old → map seen (set xs slot new) ≡ map seen xs
map-set-same seen [] slot old new same h = refl
map-set-same seen (x ∷ xs) zero old new same h = ap (λ s. s ∷ map seen xs) (h ∙ ap seen same)
map-set-same seen (x ∷ xs) (suc slot) old new same h =
    ap (λ ss. seen x ∷ ss) (map-set-same seen xs slot old new same h)

-- one more
pub map-given : {X : Type 0} (seen : X → Slot) (xs : List X) (x : X) →
    map seen (xs ++ x ∷ []) ≡ map seen xs ++ seen x ∷ []
map-given seen [] x = refl
map-given seen (y ∷ ys) x = ap (λ ss. seen y ∷ ss) (map-given seen ys x)

pub given_slots : {X : Type 0} (seen : X → Slot) (xs ys : List X) (x : X) (slots : List Slot)
    (slot : Slot) → ys ≡ xs ++ x ∷ [] → map seen xs ≡ slots → seen x ≡ slot → map seen ys ≡ slots ++ slot ∷ []
given_slots seen xs ys x slots slot given same is =
    ap (map seen) given ∙ map-given seen xs x ∙ ap (λ ss. ss ++ seen x ∷ []) same
    ∙ ap (λ s. slots ++ s ∷ []) is

-- the first so many released
pub released_to : List ℕ → ℕ → List Slot → List Slot
released_to name n [] = []
released_to name zero (first ∷ others) = first ∷ others
released_to name (suc n) (first ∷ others) = slot_released name first ∷ released_to name n others

pub released_to-none : (name : List ℕ) (slots : List Slot) → slots ≡ released_to name 0 slots
unfolding released_to
released_to-none name [] = refl
released_to-none name (first ∷ others) = refl

pub released_to-all : (name : List ℕ) (n : ℕ) (slots : List Slot) → length slots ≤ n →
    released_to name n slots ≡ without_slot name slots
unfolding released_to
released_to-all name n [] h = refl
released_to-all name zero (first ∷ others) h = absurd (omega arith)
released_to-all name (suc n) (first ∷ others) h = let e : length others ≤ n = omega arith in
    ap (λ ss. slot_released name first ∷ ss) (released_to-all name n others e)

pub released_to-more : {X : Type 0} (seen : X → Slot) (name : List ℕ) (n : ℕ) (xs : List X)
    (slots : List Slot) (old new : X) → n < length xs → old ≡ get_or xs n old →
    map seen xs ≡ released_to name n slots → seen new ≡ slot_released name (seen old) →
    map seen (set xs n new) ≡ released_to name (suc n) slots
unfolding released_to
released_to-more seen name n [] slots old new lt same so is = absurd (omega arith)
released_to-more seen name n (x ∷ xs) [] old new lt same so is = cc
released_to-more seen name zero (x ∷ xs) (first ∷ others) old new lt same so is =
    let e : seen x ≡ first = cc in
    let rest : map seen xs ≡ others = cc in
    ap (λ s. s ∷ map seen xs) (is ∙ ap (λ y. slot_released name (seen y)) same ∙ ap (slot_released name) e)
    ∙ ap (λ ss. slot_released name first ∷ ss) (rest ∙ released_to-none name others)
released_to-more seen name (suc n) (x ∷ xs) (first ∷ others) old new lt same so is =
    let e : seen x ≡ slot_released name first = cc in
    let rest : map seen xs ≡ released_to name n others = cc in
    let below : n < length xs = omega arith in
    ap (λ s. s ∷ map seen (set xs n new)) e
    ∙ ap (λ ss. slot_released name first ∷ ss)
    (released_to-more seen name n xs others old new below same rest is)
