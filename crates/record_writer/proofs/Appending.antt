-- Bytes that grow at the end, item by item.
use Rattle.std.proofs.Common.{◌≡◌, ℕ, ◌+◌, ◌<◌, ◌≤◌, List, [], ◌∷◌, ◌++◌, length, take, get_or, refl, sym, ap, ◌∙◌}
use Rattle.std.proofs.Common.{subst, add-one, append_assoc, append-nil}
use Rattle.std.proofs.lemmas.List.{take_all}
use Rattle.std.proofs.Math.Seq.{take-suc}
use Rattle.record_values.specs.Spelling.{AreItems}
use Rattle.layout_plan.specs.Appends.{Appends}
use Rattle.layout_plan.proofs.AppendLemmas.{Appends-none, Appends-more, Appends-as}

-- one more item
AreItems-push : {X : Type 0} (R : X → List ℕ → Type 0) (xs : List X) (x : X) (front back : List ℕ) → AreItems R xs front
    → R x back → AreItems R (xs ++ x ∷ []) (front ++ back)
AreItems-push R [] x front back none r =
    (back, [], ap (λ f. f ++ back) none ∙ sym (append-nil back), r, refl)
AreItems-push R (y ∷ ys) x front back (first, rest, split, s, items) r = (
  first,
  rest ++ back,
  ap (λ f. f ++ back) split ∙ append_assoc first rest back,
  s,
  AreItems-push R ys x rest back items r,
)

-- nothing is appended yet
pub items_none : {X : Type 0} (R : X → List ℕ → Type 0) (xs : List X) (old : List ℕ)
    → Appends (AreItems R (take 0 xs)) old old
items_none R xs old = Appends-none (AreItems R (take 0 xs)) old refl

-- one more item of a list is appended
pub items_more : {X : Type 0} (R : X → List ℕ → Type 0) (xs : List X) (i : ℕ) (d x : X) (old mid new : List ℕ)
    → i < length xs → x ≡ get_or xs i d → Appends (AreItems R (take i xs)) old mid → Appends (R x) mid new
    → Appends (AreItems R (take (i + 1) xs)) old new
items_more R xs i d x old mid new within is before one =
    Appends-more (AreItems R (take i xs)) (R x) (AreItems R (take (i + 1) xs)) old mid new before one
    (λ front back items r. rw (add-one, take-suc xs i d, ← is) (AreItems-push R (take i xs) x front back items r))

-- all items are appended
pub items_all : {X : Type 0} (R : X → List ℕ → Type 0) (xs : List X) (i : ℕ) (old new : List ℕ) → length xs ≤ i
    → Appends (AreItems R (take i xs)) old new → Appends (AreItems R xs) old new
items_all R xs i old new all before =
    Appends-as (AreItems R (take i xs)) (AreItems R xs) old new before
    (λ bytes items. subst (λ ys. AreItems R ys bytes) (take_all i xs all) items)
