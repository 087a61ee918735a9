-- What was taken from the front of some bytes.
use Rattle.std.specs.Prelude.{◌≡◌, ℕ, List, Result, Ok, Err, ⊤}
use Rattle.layout_plan.specs.declared.faults.BodyReason.{BodyReason}
use Rattle.layout_plan.specs.Reading.{Found}
use Rattle.record_reader.specs.declared.cursor.Stop.{Stop}
use Rattle.record_reader.specs.declared.cursor.Stop.TheVariants.{At, NoMemory}

-- what is found was taken, and the rest is left
abbrev pub Takes : {X : Type 0} → Found X → Result X BodyReason → List ℕ → Type 0
Takes found (Ok x) rest = found ≡ Ok (x, rest)
Takes found (Err reason) rest = found ≡ Err reason

-- the same where memory may be wanting
abbrev pub TakesOrStops : {X : Type 0} → Found X → Result X Stop → List ℕ → Type 0
TakesOrStops found (Ok x) rest = found ≡ Ok (x, rest)
TakesOrStops found (Err (At reason)) rest = found ≡ Err reason
TakesOrStops found (Err NoMemory) rest = ⊤
