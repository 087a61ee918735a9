-- Two files read side by side.
use Rattle.std.specs.Prelude.{◌≡◌, ℕ, zero, suc, ◌+◌, ◌≤◌, ⊤, Bool, true, false, List, ◌++◌, length, take, slice_get}
use Rattle.std.specs.Prelude.{Option, None, Some, Result, Ok, Err}
use Rattle.std.specs.List.{AllZip}
use Rattle.frame_outside.specs.Shelf.{Outside}
use Rattle.frame_content.specs.Frames.{Frame}
use Rattle.item_reader.specs.Reader.{Reader, Reads, file_of}
use Rattle.canonical_file.specs.declared.closing.Closing.{Closing}
use Rattle.canonical_file.specs.Ordered.{SameFrame}
use Rattle.canonical_file.specs.Contents.{Differ}
use Rattle.frame_reader.specs.Gives.{Closes, Breaks, Gives}
use Rattle.frame_reader.specs.Given.{Frames, HasGiven, GivesFrame, GivesAll}
use Rattle.content_compare.specs.declared.answers.CompareError.{CompareError}
use Rattle.content_compare.specs.declared.answers.CompareError.TheVariants as error

-- At most two slots were given, and beside them and the counts the shelf is as it was.
pub record ReadsTwoFiles (old new : Outside) : Type 0 where
  pub faults : old.faults ≤ new.faults
  pub misses : old.misses ≤ new.misses
  pub slots : take (length old.slots) new.slots ≡ old.slots
  pub given : length new.slots ≤ length old.slots + 2
  pub files : new.files ≡ old.files

-- Of the shelf only bytes of slots from a number on were drawn.
pub record OnlyDraws (old new : Outside) (from : ℕ) : Type 0 where
  pub faults : old.faults ≤ new.faults
  pub misses : new.misses ≡ old.misses
  pub slots : take from new.slots ≡ take from old.slots
  pub given : length new.slots ≡ length old.slots
  pub files : new.files ≡ old.files
  pub opened : (slot : ℕ) → file_of new slot ≡ file_of old slot

-- Two readers have read on.
pub record ReadOn (old new : Outside) (r s now_r now_s : Reader) : Type 0 where
  pub first : Reads new now_r
  pub second : Reads new now_s
  pub first_slot : now_r.position.slot ≡ r.position.slot
  pub second_slot : now_s.position.slot ≡ s.position.slot
  pub draws : (from : ℕ) → from ≤ r.position.slot → from ≤ s.position.slot → OnlyDraws old new from

-- a reader has given these frames of a file, and where it is at the end these are all
pub record IsSide (file : List ℕ) (frames : List Frame) (r : Frames) : Type 0 where
  pub given : HasGiven file frames r
  pub ended : r.reader.before.closed ≡ true → GivesAll file frames r

-- Both files have given equal frames.
pub record AreAbreast (file second : List ℕ) (r s : Frames) : Type 0 where
  pub frames : List Frame
  pub others : List Frame
  pub first : IsSide file frames r
  pub also : IsSide second others s
  pub same : AllZip SameFrame frames others

-- They first differ in the frame of this number, from 1; where one of them has none it has ended.
pub record FirstDiffer (file second : List ℕ) (place : ℕ) (r s : Frames) : Type 0 where
  pub frames : List Frame
  pub others : List Frame
  pub first : IsSide file frames r
  pub also : IsSide second others s
  pub number : ℕ
  pub place_is : place ≡ suc number
  pub same : AllZip SameFrame (take number frames) (take number others)
  pub differ : Differ (slice_get frames number) (slice_get others number)
  pub first_ended : slice_get frames number ≡ None → r.reader.before.closed ≡ true
  pub also_ended : slice_get others number ≡ None → s.reader.before.closed ≡ true

-- why two files are not compared: the fault of the first; or that of the second, where the first is well-formed
abbrev pub Stops : List ℕ → List ℕ → CompareError → Type 0
Stops file second (error.Fault zero fault) = (frames : List Frame) × Gives file frames (Breaks fault)
Stops file second (error.Fault (suc n) fault) =
    (n ≡ 0) × (frames others : List Frame) × (closing : Closing) × Gives file frames (Closes closing)
    × Gives second others (Breaks fault)
Stops file second error.Device = ⊤
Stops file second error.NoMemory = ⊤

-- what is found of two files frame by frame
abbrev pub Finds : List ℕ → List ℕ → Frames → Frames → Result (Option ℕ) CompareError → Type 0
Finds file second r s (Ok None) =
    (r.reader.before.closed ≡ true) × (s.reader.before.closed ≡ true) × AreAbreast file second r s
Finds file second r s (Ok (Some place)) = FirstDiffer file second place r s
Finds file second r s (Err error) = Stops file second error

-- what is found of the next frame of a file that has given these: it is lent, or the file has ended
abbrev pub Moves : List ℕ → List Frame → Frames → Bool → Type 0
Moves file frames r true = (r.reader.before.closed ≡ false) × (frame : Frame) × GivesFrame file frames frame r
Moves file frames r false = (r.reader.before.closed ≡ true) × GivesAll file frames r

-- the same of both files
abbrev pub BothMove : List ℕ → List ℕ → List Frame → List Frame → Frames → Frames → Result (Bool × Bool) CompareError
    → Type 0
BothMove file second frames others r s (Ok more) = Moves file frames r more.0 × Moves second others s more.1
BothMove file second frames others r s (Err error) = Stops file second error

-- a file that is read to its end, and has this number
abbrev pub EndsAs : ℕ → List ℕ → List Frame → Frames → Result Unit CompareError → Type 0
EndsAs number file frames r (Ok x) = (more : List Frame) × GivesAll file (frames ++ more) r
EndsAs number file frames r (Err (error.Fault other fault)) =
    (other ≡ number) × (all : List Frame) × Gives file all (Breaks fault)
EndsAs number file frames r (Err error) = ⊤
