-- What is written of a splice, input after input.
use Rattle.std.specs.Prelude.{◌≡◌, ◌≢◌, ℕ, ◌+◌, ◌<◌, ◌≤◌, List, [], ◌∷◌, length, drop, All, Some, None, IfSome, Result}
use Rattle.std.specs.Prelude.{Ok, Err}
use Rattle.frame_outside.specs.Counts.{Rose}
use Rattle.frame_outside.specs.Shelf.{Outside, Files}
use Rattle.item_reader.specs.Reader.{file_of}
use Rattle.frame_content.specs.Frames.{Frame}
use Rattle.canonical_file.specs.declared.closing.Closing.{Closing}
use Rattle.canonical_writer.specs.declared.writer.Summary.{Summary}
use Rattle.canonical_writer.specs.Parts.{IsShortClosing}
use Rattle.canonical_writer.specs.Writer.{Writer}
use Rattle.splicer.specs.declared.errors.SpliceError.{SpliceError}
use Rattle.splicer.specs.declared.errors.SpliceError.TheVariants as splice
use Rattle.frame_reader.specs.Gives.{HoldBytes}
use Rattle.splicer.specs.Due.{Due, IsDueFrom, IsAnswer, Leaves, answer_of}
use Rattle.splicer.specs.Made.{IsMade, WritesOneFile}
use Rattle.splicer.specs.Drawn.{HasDrawn}
use Rattle.splicer.specs.Put.{HasWritten}

-- ---- on a shelf that tells its files

-- The shelf tells its files, which hold bytes, and none of the inputs is the file that is written.
pub record TellsFiles (files : Files) (names : List (List ℕ)) (old : Outside) (to : List ℕ) : Type 0 where
  pub told : old.files ≡ Some files
  pub bytes : HoldBytes files
  pub apart : All (λ name. name ≢ to) names

-- The input of a number was opened in a slot, and those before it are written, which are none where no closing is held:
-- what is due of all is due of it and those after it, by the closing that is held and the frames that stand.
pub record HasOpened (files : Files) (names : List (List ℕ)) (old now : Outside) (to : List ℕ) (number slot : ℕ)
    (w : Writer) : Type 0 where
  pub tells : TellsFiles files names old to
  pub name : List ℕ
  pub others : List (List ℕ)
  pub names_are : drop number names ≡ name ∷ others
  pub input : List ℕ
  pub held : files name ≡ Some input
  pub opened : file_of now slot ≡ Some input
  pub past : length old.slots ≤ slot
  pub stood : List Frame
  pub first : number ≡ 0 → w.closing ≡ None
  pub none_stood : w.closing ≡ None → stood ≡ []
  pub written : HasWritten old now to (number + 1) stood w
  pub short : IfSome w.closing IsShortClosing
  pub due : (due : Due) → IsDueFrom files None [] 0 names due
      → IsDueFrom files w.closing stood number (drop number names) due
  pub draws : HasDrawn files names old now w.closing stood (drop number names)

-- So many inputs are written, and the closing of the first is held.
pub record HasSpliced (files : Files) (names : List (List ℕ)) (old now : Outside) (to : List ℕ) (number : ℕ)
    (w : Writer) : Type 0 where
  pub tells : TellsFiles files names old to
  pub closing : Closing
  pub closing_is : w.closing ≡ Some closing
  pub short : IsShortClosing closing
  pub stood : List Frame
  pub written : HasWritten old now to number stood w
  pub due : (due : Due) → IsDueFrom files None [] 0 names due
      → IsDueFrom files (Some closing) stood number (drop number names) due
  pub draws : HasDrawn files names old now (Some closing) stood (drop number names)

-- The splice has ended with this answer: it is the due one, or the shelf or memory failed, and the file holds what it
-- holds then. A name that is not held is missed only where that is due.
pub record Ends (files : Files) (old new : Outside) (to : List ℕ) (due : Due) (result : Result Summary SpliceError)
    : Type 0 where
  pub answer : IsAnswer result due
  pub leaves : Leaves files new.files to result due
  pub misses : old.misses < new.misses → answer_of due ≡ Err splice.Device

-- What is written of all inputs, by the answer.
abbrev pub PutsInputs : Files → List (List ℕ) → Outside → Outside → List ℕ → Writer → Result Unit SpliceError → Type 0
PutsInputs files names old new to w (Ok x) = HasSpliced files names old new to (length names) w
PutsInputs files names old new to w (Err error) =
    (due : Due) → IsDueFrom files None [] 0 names due → Ends files old new to due (Err error)

-- ---- on any shelf

-- The splice has ended with this answer: but for the counts, the inputs opened and the one file the shelf is as it was,
-- and it is said to have failed only where it has.
pub record LeavesShelf (old new : Outside) (to : List ℕ) (inputs : ℕ) (result : Result Summary SpliceError)
    : Type 0 where
  pub shelf : WritesOneFile old new to inputs
  pub device : result ≡ Err splice.Device → Rose old.faults new.faults

-- the same of all inputs, after which the file can be ended
abbrev pub KeepsShelf : Outside → Outside → List ℕ → ℕ → ℕ → Result Unit SpliceError → Type 0
KeepsShelf old new to inputs slot (Ok x) = IsMade old new to inputs slot
KeepsShelf old new to inputs slot (Err error) = LeavesShelf old new to inputs (Err error)
