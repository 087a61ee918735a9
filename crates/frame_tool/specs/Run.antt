-- What a run does, by the reply that is due: the clauses that all commands share.
use Rattle.std.specs.Prelude.{◌≡◌, ℕ, ◌+◌, ◌<◌, ◌≤◌, ◌⊎◌, ⊤, Bool, true, false, List, length, take, Option, Some, None}
use Rattle.frame_outside.specs.Counts.{Rose}
use Rattle.frame_outside.specs.Shelf.{Files, Outside, Told, holding}
use Rattle.frame_outside.specs.Sink.{Output as Printed}
use Rattle.splicer.specs.Left.{LeavesFile}
use Rattle.frame_reader.specs.Gives.{HoldBytes}
use Rattle.splicer.specs.Made.{KeepsSlots, KeepsFiles}
use Rattle.splicer.specs.Drawn.{DrawsInAll}
use Rattle.frame_tool.specs.declared.outcome.Outcome.{Outcome}
use Rattle.frame_tool.specs.declared.outcome.Outcome.TheVariants.{Usage, Device, NoMemory}
use Rattle.frame_tool.specs.Words.{Form, SpliceFiles, command_of, output_of}
use Rattle.sample_file.specs.Made.{LeavesPrefix}
use Rattle.frame_tool.specs.Due.{Reply, Output, Nothing, Bytes, Made, IsDue, IsAnswer, IsAmong, Prints}

-- the outside or memory failed
abbrev pub has_failed : Outcome → Bool
has_failed Device = true
has_failed NoMemory = true
has_failed outcome = false

-- what the files are then; after a refusal a file that is made is as it was, or holds a prefix of the bytes
abbrev pub LeavesMade : Bool → Files → Option Files → List ℕ → List ℕ → Type 0
LeavesMade true files new to bytes = (new ≡ Some files) ⊎ LeavesPrefix files new to bytes
LeavesMade false files new to bytes = new ≡ Some (holding to bytes files)

abbrev pub Leaves : Files → Option Files → Outcome → Output → Type 0
Leaves files new outcome Nothing = new ≡ Some files
Leaves files new outcome (Bytes to whole bytes) = LeavesFile (has_failed outcome) files new to whole bytes
Leaves files new outcome (Made to bytes) = LeavesMade (has_failed outcome) files new to bytes

-- The slots that were given before and the files stay, but for the file that is written: no such slot writes it any
-- more.
abbrev pub Keeps : Option (List ℕ) → Outside → Outside → Type 0
Keeps None old new = (take (length old.slots) new.slots ≡ old.slots) × (new.files ≡ old.files)
Keeps (Some to) old new = KeepsSlots old new to × KeepsFiles old new to

-- how far inputs are drawn, where that is bounded
abbrev pub DrawsNoFurther : Option Form → Files → Outside → Outside → Type 0
DrawsNoFurther (Some (SpliceFiles to from)) files old new = HoldBytes files → DrawsInAll files from old new
DrawsNoFurther command files old new = ⊤

-- A command of so many words, to which this is due, was run from an outside and a sink to those after it, and answered.
pub record Replies (IsDueTo : Files → Reply → Type 0) (command : Option Form) (words : ℕ) (old new : Outside)
    (before after : Printed) (outcome : Outcome) : Type 0 where
  -- over a shelf that tells its files: the answer is the due one, or Device or NoMemory; the text is printed, and the
  -- file is written, as they are due; a name that is not held is asked for only where Device is due; and reading ahead
  -- is bounded
  pub answer : Told old.files (λ files. (reply : Reply) → IsDueTo files reply → IsAnswer outcome reply.outcome)
  pub text : Told old.files (λ files. (reply : Reply) → IsDueTo files reply → Prints outcome reply.text before after)
  pub output : Told old.files (λ files. (reply : Reply) → IsDueTo files reply
      → Leaves files new.files outcome reply.output)
  pub misses : Told old.files (λ files. old.misses < new.misses → (reply : Reply) → IsDueTo files reply
      → reply.outcome ≡ Device)
  pub taken : Told old.files (λ files. DrawsNoFurther command files old new)
  -- over every shelf
  pub among : IsAmong outcome command
  pub usage : command ≡ None → IsAnswer outcome Usage
  pub device : outcome ≡ Device → Rose old.faults new.faults ⊎ Rose before.faults after.faults
  pub faults : old.faults ≤ new.faults
  pub missed : old.misses ≤ new.misses
  pub sink : before.faults ≤ after.faults
  pub keeps : Keeps (output_of command) old new
  pub given : length new.slots ≤ length old.slots + words

-- The words were run.
abbrev pub Runs : List (List ℕ) → Outside → Outside → Printed → Printed → Outcome → Type 0
Runs words old new before after outcome =
    Replies (λ files reply. IsDue files words reply) (command_of words) (length words) old new before after outcome
