-- What is made of the sample file.
use Rattle.std.specs.Prelude.{◌≡◌, ◌⊎◌, ℕ, ◌+◌, ◌≤◌, List, length, take, Option, Some, Result, Ok, Err}
use Rattle.std.specs.Option.{option_map}
use Rattle.frame_outside.specs.Shelf.{Outside, Files, holding, without_slot}
use Rattle.canonical_writer.specs.declared.writer.Summary.{Summary}
use Rattle.sample_file.specs.Whole.{sample_bytes}

-- The file holds a part of these bytes, perhaps all, and all other files are as they were.
pub record LeavesPrefix (files : Files) (new : Option Files) (to bytes : List ℕ) : Type 0 where
  pub count : ℕ
  pub files_are : new ≡ Some (holding to (take count bytes) files)

-- What the files are after the making of n frames: the file holds the bytes, and the summary tells its frames and its
-- length; after a refusal the file is as it was, or holds a part of them.
abbrev pub Makes : {E : Type 0} → Files → Option Files → List ℕ → ℕ → Result Summary E → Type 0
Makes files new to n (Ok summary) = (new ≡ Some (holding to (sample_bytes n) files))
    × (summary ≡ record { frames = n; bytes = length (sample_bytes n) })
Makes files new to n (Err error) = (new ≡ Some files) ⊎ LeavesPrefix files new to (sample_bytes n)

-- At most the file of the name was opened, in one slot, and beside it and the counts the shelf is as it was.
pub record MakesOneFile (old new : Outside) (name : List ℕ) : Type 0 where
  pub faults : old.faults ≤ new.faults
  pub misses : new.misses ≡ old.misses
  pub taken : new.taken ≡ old.taken
  pub slots : (take (length old.slots) new.slots ≡ old.slots)
      ⊎ (take (length old.slots) new.slots ≡ without_slot name old.slots)
  pub given : length new.slots ≤ length old.slots + 1
  pub files : (new.files ≡ old.files) ⊎ ((bytes : List ℕ) × (new.files ≡ option_map (holding name bytes) old.files))
