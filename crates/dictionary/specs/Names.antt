-- Classes by structure names.
use Rattle.std.specs.Prelude.{◌≡◌, ℕ, List, Option, Some, cond, Vec}
use Rattle.std.specs.Str.{bytes_eq}
use Rattle.std.specs.HashMap.{HashMap, get_by}

-- the class under a name
abbrev pub class_at : {A S : Type 0} → HashMap (Vec ℕ A) ℕ S → List ℕ → Option ℕ
class_at names name = get_by (λ key. bytes_eq name key.items) names

-- the name has the class, and the other names have what they had
abbrev pub Puts : {A S : Type 0} → HashMap (Vec ℕ A) ℕ S → HashMap (Vec ℕ A) ℕ S → List ℕ → ℕ → Type 0
Puts old new name class = (other : List ℕ)
    → class_at new other ≡ cond (bytes_eq other name) (Some class) (class_at old other)

-- each name has what it had
abbrev pub Leaves : {A S : Type 0} → HashMap (Vec ℕ A) ℕ S → HashMap (Vec ℕ A) ℕ S → Type 0
Leaves old new = (name : List ℕ) → class_at new name ≡ class_at old name
