-- Of the inside. Readings that give just what a relation has.
use Rattle.std.specs.Prelude.{◌≡◌, List, ◌++◌, Result, Ok, ℕ}

-- What is found stands at the front in the relation; and what stands at the front in the relation is found, whatever
-- comes after it.
pub record IsExact {X E : Type 0} (item : List ℕ → Result (X × List ℕ) E) (R : X → List ℕ → Type 0) : Type 0 where
  pub found : (bytes : List ℕ) (x : X × List ℕ) → item bytes ≡ Ok x → (front : List ℕ)
      × (bytes ≡ front ++ x.1) × R x.0 front
  pub again : (x : X) (front rest : List ℕ) → R x front → item (front ++ rest) ≡ Ok (x, rest)
