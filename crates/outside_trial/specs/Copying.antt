-- What was copied from a source slot of a shelf to a target slot.
use Rattle.std.specs.Prelude.{◌≡◌, ℕ, ◌-◌, ◌^◌, ◌≤◌, ◌⊎◌, List, [], length, take, Option, Some}
use Rattle.frame_outside.specs.Counts.{counted_by, count_end}
use Rattle.frame_outside.specs.Shelf.{Files, Outside, Told, reading_at, writing_at, left_of, pass, write}
use Rattle.frame_outside.specs.Shelf.{files_written, holding}

-- one slot gave `count` bytes and another wrote `bytes`, which are the first of these, and nothing else
-- changed beside the count of faults
pub record Moves (old new : Outside) (from to count : ℕ) (bytes : List ℕ) : Type 0 where
  pub faults : old.faults ≤ new.faults
  pub misses : new.misses ≡ old.misses
  pub taken : new.taken ≡ counted_by old.taken count
  pub slots : new.slots ≡ write (pass old.slots from count) to bytes
  pub files : (new.files ≡ files_written (writing_at new.slots to) old.files)
      ⊎ ((bytes ≡ []) × (new.files ≡ old.files))
  pub within : Told (reading_at old.slots from) (λ reading. count ≤ length reading.opened - reading.at)
  pub front : length bytes ≤ count
  pub next : Told (reading_at old.slots from) (λ reading. bytes ≡ take (length bytes) (left_of reading))

-- all that the one slot had left was copied to the other, and it was so many bytes
pub record CopiesAll (old new : Outside) (from to n : ℕ) : Type 0 where
  pub bytes : List ℕ
  pub count : length bytes ≡ n
  pub moves : Moves old new from to n bytes
  pub all : Told (reading_at old.slots from) (λ reading. bytes ≡ left_of reading)

-- a front of what the one slot had left was copied to the other
pub record CopiesFront (old new : Outside) (from to : ℕ) : Type 0 where
  pub count : ℕ
  pub bytes : List ℕ
  pub moves : Moves old new from to count bytes

-- more bytes were copied than can be counted
pub record CopiesTooMany (old new : Outside) (from to : ℕ) : Type 0 where
  pub count : ℕ
  pub bytes : List ℕ
  pub moves : Moves old new from to count bytes
  pub many : 2 ^ 64 ≤ length bytes

-- the file of one name was held, and now that of the other holds the same bytes, which are so many; all
-- other files are as they were
pub record IsCopied (files : Files) (new : Option Files) (from to : List ℕ) (n : ℕ) : Type 0 where
  pub bytes : List ℕ
  pub held : files from ≡ Some bytes
  pub count : length bytes ≡ n
  pub copied : new ≡ Some (holding to bytes files)

-- the file of one name was held, and now that of the other holds a front of its bytes; all other files
-- are as they were
pub record IsCopiedInPart (files : Files) (new : Option Files) (from to : List ℕ) : Type 0 where
  pub bytes : List ℕ
  pub count : ℕ
  pub held : files from ≡ Some bytes
  pub copied : new ≡ Some (holding to (take count bytes) files)

-- the files are as they were, but for that of the other name, which may hold a front of the bytes of the one
abbrev pub KeepsOthers : Outside → Outside → List ℕ → List ℕ → Type 0
KeepsOthers old new from to = Told old.files
    (λ files. (new.files ≡ Some files) ⊎ IsCopiedInPart files new.files from to)

-- the file of that name holds more bytes than can be counted
pub record HoldsTooMany (files : Files) (name : List ℕ) : Type 0 where
  pub bytes : List ℕ
  pub held : files name ≡ Some bytes
  pub many : 2 ^ 64 ≤ length bytes

-- more bytes of the file of that name were taken than can be counted
pub record TakesTooMany (old new : Outside) (name : List ℕ) : Type 0 where
  pub taken : count_end ≤ new.taken
  pub held : Told old.files (λ files. HoldsTooMany files name)
