-- The class under each name after one more.
use Rattle.std.proofs.Common.{◌≡◌, ℕ, Bool, true, false, cond, List, Some, Vec, refl, sym, ◌∙◌, ap}
use Rattle.std.proofs.lemmas.Slice.Eq.{bytes_eq-Decides}
use Rattle.std.specs.Str.{bytes_eq}
use Rattle.std.specs.HashMap.{HashMap, Updates}
use Rattle.std.specs.Map.{KeepsOthers}
use Rattle.dictionary.specs.Names.{class_at, Puts}

bytes_eq-other : (a b c : List ℕ) → bytes_eq a b ≡ true → bytes_eq a c ≡ bytes_eq b c
bytes_eq-other a b c e = ap (λ x. bytes_eq x c) ((bytes_eq-Decides a b).0 e)

apart : (a b c : List ℕ) → bytes_eq a b ≡ false → bytes_eq b c ≡ true → bytes_eq a c ≡ false
apart a b c other same = sym (ap (bytes_eq a) ((bytes_eq-Decides b c).0 same)) ∙ other

pub Puts-from_updates : {A S : Type 0} (old new : HashMap (Vec ℕ A) ℕ S) (key : Vec ℕ A) (name : List ℕ) (class : ℕ)
    → key.items ≡ name → Updates (λ x y. bytes_eq x.items y.items) old new key (Some class) → Puts old new name class
unfolding KeepsOthers
Puts-from_updates old new key name class same updates other = by (bytes_eq other name) refl
  where
    by : (b : Bool) → bytes_eq other name ≡ b → class_at new other ≡ cond b (Some class) (class_at old other)
    by true is = ap (class_at new) ((bytes_eq-Decides other name).0 is ∙ sym same) ∙ updates.1
    by false is =
        updates.3 (λ k. bytes_eq other k.items) (λ x y e. bytes_eq-other other x.items y.items e)
        (λ k e. apart other key.items k.items (ap (bytes_eq other) same ∙ is) e)
