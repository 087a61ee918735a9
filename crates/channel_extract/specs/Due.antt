-- What is due of an extraction: the answer, and what is written.
use Rattle.std.specs.Prelude.{◌≡◌, ◌⊎◌, ℕ, Bool, true, false, List, length, Option, Result, Ok, Err}
use Rattle.frame_outside.specs.Shelf.{Files}
use Rattle.frame_content.specs.Frames.{Frame}
use Rattle.canonical_file.specs.declared.closing.Closing.{Closing}
use Rattle.canonical_file.specs.Written.{canonical_head, canonical_file}
use Rattle.canonical_writer.specs.declared.writer.Summary.{Summary}
use Rattle.splicer.specs.Left.{LeavesFile}
use Rattle.channel_extract.specs.declared.errors.ExtractError.{ExtractError}
use Rattle.channel_extract.specs.declared.errors.ExtractError.TheVariants as extract

-- The canonical file of these cuts, each in its order; or an error, after the canonical head of the cuts before it.
pub data Due : Type 0 where
  Writes : (closing : Closing) → (cuts : List Frame) → Due
  Stops : (error : ExtractError) → (cuts : List Frame) → Due

-- ---- the answer

abbrev pub answer_of : Due → Result Summary ExtractError
answer_of (Writes closing cuts) =
    Ok (record { frames = length cuts; bytes = length (canonical_file closing cuts) })
answer_of (Stops error cuts) = Err error

-- the answer is the due one, or the shelf or memory failed
abbrev pub IsAnswer : Result Summary ExtractError → Due → Type 0
IsAnswer result due = (result ≡ answer_of due) ⊎ ((result ≡ Err extract.Device) ⊎ (result ≡ Err extract.NoMemory))

-- ---- what is written

abbrev pub output_of : Due → List ℕ
output_of (Writes closing cuts) = canonical_file closing cuts
output_of (Stops error cuts) = canonical_head cuts

-- whether that is a whole file
abbrev pub is_whole : Due → Bool
is_whole (Writes closing cuts) = true
is_whole (Stops error cuts) = false

-- the shelf or memory failed
abbrev pub has_failed : Result Summary ExtractError → Bool
has_failed (Err extract.Device) = true
has_failed (Err extract.NoMemory) = true
has_failed result = false

-- What the file of the name holds then, and no other file changed: what is due, or where the shelf or memory failed
-- what it held or a part of that.
abbrev pub Leaves : Files → Option Files → List ℕ → Result Summary ExtractError → Due → Type 0
Leaves files new to result due = LeavesFile (has_failed result) files new to (is_whole due) (output_of due)
