-- What the file of a name holds where bytes were to be written to it.
use Rattle.std.specs.Prelude.{◌≡◌, ℕ, ◌<◌, ◌⊎◌, ⊤, Bool, true, false, List, length, take, Option, Some}
use Rattle.frame_outside.specs.Shelf.{Files, holding}

-- so many bytes are a part of these: where they are a whole file, they are not all of it
abbrev pub IsPart : Bool → ℕ → List ℕ → Type 0
IsPart true count bytes = count < length bytes
IsPart false count bytes = ⊤

-- the file holds a part, and all other files are as they were
pub record LeavesPart (files : Files) (new : Option Files) (to : List ℕ) (whole : Bool) (bytes : List ℕ) : Type 0 where
  pub count : ℕ
  pub part : IsPart whole count bytes
  pub files_are : new ≡ Some (holding to (take count bytes) files)

-- The file holds these bytes; where the shelf or memory failed, it is as it was, or holds a part of them. All other
-- files are as they were.
abbrev pub LeavesFile : Bool → Files → Option Files → List ℕ → Bool → List ℕ → Type 0
LeavesFile true files new to whole bytes = (new ≡ Some files) ⊎ LeavesPart files new to whole bytes
LeavesFile false files new to whole bytes = new ≡ Some (holding to bytes files)
