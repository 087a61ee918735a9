-- What is found of an entry before anything changes.
use Rattle.std.specs.Prelude.{◌≡◌, ℕ, ◌≤◌, List, length, None, ◌++◌, ◌∷◌, [], Ok, Err}
use Rattle.dictionary.specs.declared.entries.Entry.{Entry}
use Rattle.dictionary.specs.declared.held.Verdict.{Verdict}
use Rattle.dictionary.specs.declared.held.Verdict.TheVariants.{Refused, Known, New}
use Rattle.dictionary.specs.Dictionary.{entry_of, class_named, step, step_new}

-- the entry may be held beside the others
pub record IsNew (held : List Entry) (e : Entry) : Type 0 where
  pub low : 3 ≤ e.class
  pub high : e.class ≤ 255
  pub short : length e.elements ≤ 4096
  pub class : entry_of held e.class ≡ None
  pub name : class_named held e.name ≡ None

-- the verdict tells the step
abbrev pub IsVerdict : List Entry → Entry → Verdict → Type 0
IsVerdict held e (Refused fault) = step held e ≡ Err fault
IsVerdict held e Known = step held e ≡ Ok held
IsVerdict held e (New class) = (step held e ≡ Ok (held ++ e ∷ [])) × IsNew held e × (class ≡ e.class)

-- and on an entry of a class that is not held
abbrev pub IsVerdictOnNew : List Entry → Entry → ℕ → Verdict → Type 0
IsVerdictOnNew held e class (Refused fault) = step_new held e ≡ Err fault
IsVerdictOnNew held e class Known = ⊥
IsVerdictOnNew held e class (New c) =
    (step_new held e ≡ Ok (held ++ e ∷ [])) × (length e.elements ≤ 4096) × (class_named held e.name ≡ None)
    × (c ≡ class)
