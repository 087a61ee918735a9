-- What a shelf is while one of its slots writes the file of a name.
use Rattle.std.specs.Prelude.{◌≡◌, ℕ, ◌+◌, ◌≤◌, List, length, take, Some, ◌⊎◌}
use Rattle.frame_outside.specs.Shelf.{Outside, Told, IsTarget, writing_at, without_slot, holding}
use Rattle.std.specs.Option.{option_map}

-- The file of the name was made after `old`, in this slot, and these bytes were written to it; so many inputs were
-- opened before or after it, and bytes of inputs were drawn. Beside that and the counts nothing changed.
pub record HasMade (old new : Outside) (name : List ℕ) (inputs slot : ℕ) (bytes : List ℕ) : Type 0 where
  pub faults : old.faults ≤ new.faults
  pub misses : new.misses ≡ old.misses
  pub kept : take (length old.slots) new.slots ≡ without_slot name old.slots
  pub given : length new.slots ≡ length old.slots + inputs + 1
  pub fresh : length old.slots ≤ slot
  pub target : IsTarget new.slots slot
  pub writing : Told old.files
      (λ files. writing_at new.slots slot ≡ Some (record { written = bytes; name = Some name }))
  pub files : new.files ≡ option_map (holding name bytes) old.files

-- the same of some bytes
pub record IsMade (old new : Outside) (name : List ℕ) (inputs slot : ℕ) : Type 0 where
  pub bytes : List ℕ
  pub made : HasMade old new name inputs slot bytes

-- the slots that were given before: as they were, or none of them writes the file of the name any more
abbrev pub KeepsSlots : Outside → Outside → List ℕ → Type 0
KeepsSlots old new name = (take (length old.slots) new.slots ≡ old.slots)
    ⊎ (take (length old.slots) new.slots ≡ without_slot name old.slots)

-- the files: as they were, or that of the name holds other bytes
abbrev pub KeepsFiles : Outside → Outside → List ℕ → Type 0
KeepsFiles old new name = (new.files ≡ old.files)
    ⊎ ((bytes : List ℕ) × (new.files ≡ option_map (holding name bytes) old.files))

-- At most so many inputs and the file of the name were opened, and beside it and the counts the shelf is as it was.
pub record WritesOneFile (old new : Outside) (name : List ℕ) (inputs : ℕ) : Type 0 where
  pub faults : old.faults ≤ new.faults
  pub misses : old.misses ≤ new.misses
  pub slots : KeepsSlots old new name
  pub given : length new.slots ≤ length old.slots + inputs + 1
  pub files : KeepsFiles old new name
