-- What is due of a splice: the frames of all inputs in order, each frame in its order, one input after another, up to
-- what comes first of a fault, a frame that is refused, and a file that is not held.
use Rattle.std.specs.Prelude.{◌≡◌, ℕ, ◌+◌, ◌⊎◌, Bool, true, false, List, [], ◌∷◌, ◌++◌, length, Option, Some, None}
use Rattle.std.specs.Prelude.{Result, Ok, Err}
use Rattle.std.specs.List.{AllZip}
use Rattle.frame_outside.specs.Shelf.{Files}
use Rattle.frame_content.specs.Frames.{Frame}
use Rattle.canonical_file.specs.declared.closing.Closing.{Closing}
use Rattle.canonical_file.specs.Ordered.{IsInOrder}
use Rattle.canonical_file.specs.Written.{header_alone, after_frames, canonical_head, canonical_file}
use Rattle.frame_reader.specs.Gives.{Ending, Closes, Breaks, Gives, HoldBytes}
use Rattle.canonical_writer.specs.declared.errors.WriteError.{WriteError}
use Rattle.canonical_writer.specs.declared.writer.Summary.{Summary}
use Rattle.canonical_writer.specs.Writer.{frame_due, closing_due}
use Rattle.splicer.specs.declared.errors.SpliceError.{SpliceError}
use Rattle.splicer.specs.declared.errors.SpliceError.TheVariants as splice
use Rattle.splicer.specs.Errors.{unwritten}
use Rattle.splicer.specs.Left.{LeavesFile}

-- ---- frames after those that stand

-- what comes of frames: all of them stand then, or one is refused where these stand
pub data Course : Type 0 where
  Passes : (stood : List Frame) → Course
  Refuses : (error : WriteError) → (stood : List Frame) → Course

abbrev pub course_by : Result Unit WriteError → List Frame → Course → Course
course_by (Ok x) stood next = next
course_by (Err error) stood next = Refuses error stood

-- Frames in their orders come after those that stand: each is taken, or refused as a writer refuses it.
abbrev pub course : Option Closing → List Frame → List Frame → Course
course closing stood [] = Passes stood
course closing stood (f ∷ fs) =
    course_by (frame_due closing (after_frames header_alone stood) f) stood (course closing (stood ++ f ∷ []) fs)

-- ---- what is due

-- the canonical file of these frames; or an error, after the canonical head of the frames before it
pub data Due : Type 0 where
  Writes : (closing : Closing) → (frames : List Frame) → Due
  Stops : (error : SpliceError) → (frames : List Frame) → Due

-- the closing that is held after one more input: that of the first
abbrev pub held_then : Option Closing → Closing → Option Closing
held_then None closing = Some closing
held_then (Some first) closing = Some first

-- at the end of all inputs, of which there is one at least
abbrev pub closed_due : Result Summary WriteError → Closing → List Frame → Due
closed_due (Ok summary) closing stood = Writes closing stood
closed_due (Err error) closing stood = Stops (unwritten 0 error) stood

abbrev pub IsDueAtEnd : Option Closing → List Frame → Due → Type 0
IsDueAtEnd None stood due = ⊥
IsDueAtEnd (Some closing) stood due =
    due ≡ closed_due (closing_due (after_frames header_alone stood) closing) closing stood

-- what is due of the inputs after one, by the closing that is held and the frames that stand then
abbrev pub Next : Type 1
Next = Option Closing → List Frame → Due → Type 0

-- after the frames of an input that ends so
abbrev pub IsDueAfter : Course → Ending → Option Closing → ℕ → Next → Due → Type 0
IsDueAfter (Refuses error stood) ending closing number next due = due ≡ Stops (unwritten number error) stood
IsDueAfter (Passes stood) (Breaks fault) closing number next due = due ≡ Stops (splice.Fault number fault) stood
IsDueAfter (Passes stood) (Closes c) closing number next due = next (held_then closing c) stood due

-- an input, with its number
pub record IsDueOf (file : List ℕ) (closing : Option Closing) (stood : List Frame) (number : ℕ) (next : Next)
    (due : Due) : Type 0 where
  pub frames : List Frame
  pub ordered : List Frame
  pub ending : Ending
  pub gives : Gives file frames ending
  pub in_order : AllZip IsInOrder frames ordered
  pub is : IsDueAfter (course closing stood ordered) ending closing number next due

abbrev pub IsDueOfHeld : Option (List ℕ) → Option Closing → List Frame → ℕ → Next → Due → Type 0
IsDueOfHeld None closing stood number next due = due ≡ Stops splice.Device stood
IsDueOfHeld (Some file) closing stood number next due = IsDueOf file closing stood number next due

-- The inputs from a number on, by the closing that is held and the frames that stand before them.
abbrev pub IsDueFrom : Files → Option Closing → List Frame → ℕ → List (List ℕ) → Due → Type 0
IsDueFrom files closing stood number [] due = IsDueAtEnd closing stood due
IsDueFrom files closing stood number (name ∷ names) due =
    IsDueOfHeld (files name) closing stood number
    (λ closing stood due. IsDueFrom files closing stood (number + 1) names due) due

-- What is due of a splice of the files of these names. The files hold bytes.
pub record IsDue (files : Files) (names : List (List ℕ)) (due : Due) : Type 0 where
  pub bytes : HoldBytes files
  pub from : IsDueFrom files None [] 0 names due

-- ---- the answer, and what is written

abbrev pub answer_of : Due → Result Summary SpliceError
answer_of (Writes closing frames) =
    Ok (record { frames = length frames; bytes = length (canonical_file closing frames) })
answer_of (Stops error frames) = Err error

-- the answer is the due one, or the shelf or memory failed
abbrev pub IsAnswer : Result Summary SpliceError → Due → Type 0
IsAnswer result due = (result ≡ answer_of due) ⊎ ((result ≡ Err splice.Device) ⊎ (result ≡ Err splice.NoMemory))

abbrev pub output_of : Due → List ℕ
output_of (Writes closing frames) = canonical_file closing frames
output_of (Stops error frames) = canonical_head frames

-- whether that is a whole file
abbrev pub is_whole : Due → Bool
is_whole (Writes closing frames) = true
is_whole (Stops error frames) = false

-- the shelf or memory failed
abbrev pub has_failed : Result Summary SpliceError → Bool
has_failed (Err splice.Device) = true
has_failed (Err splice.NoMemory) = true
has_failed result = false

-- What the file of the name holds then, and no other file changed.
abbrev pub Leaves : Files → Option Files → List ℕ → Result Summary SpliceError → Due → Type 0
Leaves files new to result due = LeavesFile (has_failed result) files new to (is_whole due) (output_of due)
