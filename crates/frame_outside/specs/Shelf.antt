-- What callers know of a shelf: its counts, its slots and, where it tells them, its files. Each call of
-- the trait has one relation between what is known before and after, and a step by several calls has
-- the same relation.
use Rattle.std.specs.Prelude.{◌≡◌, ℕ, zero, suc, ◌+◌, ◌-◌, ◌<◌, ◌≤◌, Bool, true, false, IsTrue, List, []}
use Rattle.std.specs.Prelude.{◌∷◌, ◌++◌, length, map, take, drop, slice_get, Option, Some, None, is_none}
use Rattle.std.specs.Prelude.{option_map, option_and_then, if◌then◌else◌}
use Rattle.std.specs.Option.{option_map_or}
use Rattle.std.specs.Str.{bytes_eq}
use Rattle.frame_outside.specs.Counts.{next_count, counted_by}

-- the bytes held under each name; None where the name is not held
abbrev pub Files : Type 0
Files = List ℕ → Option (List ℕ)

-- what a source slot reads: the bytes that its file held when it was opened, and how many it has given
pub record Reading : Type 0 where
  pub opened : List ℕ
  pub at : ℕ

-- what a target slot has written, and the name whose file it still writes
pub record Writing : Type 0 where
  pub written : List ℕ
  pub name : Option (List ℕ)

-- a slot by its use; None where the shelf does not tell its content
pub data Slot : Type 0 where
  Source : Option Reading → Slot
  Target : Option Writing → Slot

-- what is known of a shelf; the number of a slot is its place among the slots
pub record Outside : Type 0 where
  pub faults : ℕ
  pub misses : ℕ
  pub taken : ℕ
  pub slots : List Slot
  pub files : Option Files

-- a fact of what is told, where it is told
abbrev pub Told : {A : Type 0} → Option A → (A → Type 0) → Type 0
Told {A} told P = (a : A) → told ≡ Some a → P a

-- what is told of a slot: the bytes that it was opened on, and how many of them it gave
abbrev pub reading_of : Option Slot → Option Reading
reading_of (Some (Source reading)) = reading
reading_of (Some (Target writing)) = None
reading_of None = None

-- the same of the slot of that number
abbrev pub reading_at : List Slot → ℕ → Option Reading
reading_at slots slot = reading_of (slice_get slots slot)

-- the bytes that a reading has left
abbrev pub left_of : Reading → List ℕ
left_of reading = drop reading.at reading.opened

-- whether there is a slot and `source` gave it
abbrev pub is_source : Option Slot → Bool
is_source (Some (Source reading)) = true
is_source (Some (Target writing)) = false
is_source None = false

-- the slot was given by `source`
abbrev pub IsSource : List Slot → ℕ → Type 0
IsSource slots slot = IsTrue (is_source (slice_get slots slot))

-- a reading that gave n bytes more
abbrev pub reading_past : ℕ → Reading → Reading
reading_past n reading = record { opened = reading.opened; at = reading.at + n }

-- a slot that gave n bytes more
abbrev pub slot_passed : ℕ → Slot → Slot
slot_passed n (Source reading) = Source (option_map (reading_past n) reading)
slot_passed n (Target writing) = Target writing

-- the slots after one of them gave n bytes
abbrev pub pass : List Slot → ℕ → ℕ → List Slot
pass [] slot n = []
pass (first ∷ others) zero n = slot_passed n first ∷ others
pass (first ∷ others) (suc slot) n = first ∷ pass others slot n

-- a slot gave n bytes, and nothing else changed beside the count of faults
pub record Passes (old new : Outside) (slot n : ℕ) : Type 0 where
  pub faults : old.faults ≤ new.faults
  pub misses : new.misses ≡ old.misses
  pub taken : new.taken ≡ counted_by old.taken n
  pub slots : new.slots ≡ pass old.slots slot n
  pub files : new.files ≡ old.files
  pub within : Told (reading_at old.slots slot) (λ reading. n ≤ length reading.opened - reading.at)

-- the n bytes at the front of `into` are the next ones of the slot, and n is 0 only at the end or for no room
pub record Gives (old : Outside) (slot n : ℕ) (into : List ℕ) : Type 0 where
  pub bytes : Told (reading_at old.slots slot) (λ reading. take n into ≡ take n (left_of reading))
  pub end : n ≡ 0 → 0 < length into → Told (reading_at old.slots slot)
      (λ reading. length reading.opened ≤ reading.at)

-- what a target slot has written once the file of that name is no longer its own
abbrev pub writing_released : List ℕ → Writing → Writing
writing_released name writing =
    record {
      written = writing.written;
      name = option_and_then (λ held. if bytes_eq name held then None else Some held) writing.name;
    }

-- a slot once the file of that name has come from elsewhere
abbrev pub slot_released : List ℕ → Slot → Slot
slot_released name (Source reading) = Source reading
slot_released name (Target writing) = Target (option_map (writing_released name) writing)

-- the slots once the file of that name has come from elsewhere: none of them writes it
abbrev pub without_slot : List ℕ → List Slot → List Slot
without_slot name slots = map (slot_released name) slots

-- a file at its beginning
abbrev pub beginning : List ℕ → Reading
beginning bytes = record { opened = bytes; at = 0 }

-- the file of that name at its beginning, where the shelf tells its files
abbrev pub beginning_of : Option Files → List ℕ → Option Reading
beginning_of files name = option_map beginning (option_and_then (λ held. held name) files)

-- the file of that name was opened in a new slot, and nothing else changed beside the count of faults
pub record Opens (old new : Outside) (name : List ℕ) (slot : ℕ) : Type 0 where
  pub faults : old.faults ≤ new.faults
  pub misses : new.misses ≡ old.misses
  pub taken : new.taken ≡ old.taken
  pub number : slot ≡ length old.slots
  pub slots : new.slots ≡ old.slots ++ Source (beginning_of old.files name) ∷ []
  pub files : new.files ≡ old.files

-- no file was opened, and nothing changed beside the counts; a miss is a name that is not held
pub record Refuses (old new : Outside) (name : List ℕ) : Type 0 where
  pub faults : old.faults ≤ new.faults
  pub misses : old.misses ≤ new.misses
  pub missed : Told old.files (λ held. new.misses
      ≡ (if is_none (held name) then next_count old.misses else old.misses))
  pub taken : new.taken ≡ old.taken
  pub slots : new.slots ≡ old.slots
  pub files : new.files ≡ old.files

-- n bytes were handed out, and nothing else changed beside the count of faults
pub record HandsOut (old new : Outside) (n : ℕ) : Type 0 where
  pub faults : old.faults ≤ new.faults
  pub misses : new.misses ≡ old.misses
  pub taken : new.taken ≡ counted_by old.taken n
  pub slots : new.slots ≡ old.slots
  pub files : new.files ≡ old.files

-- the n bytes at the front of `into` are those from the place `at` on of what the slot was opened on, and
-- n is 0 only at or past the end or for no room
pub record GivesFrom (old : Outside) (slot at n : ℕ) (into : List ℕ) : Type 0 where
  pub within : Told (reading_at old.slots slot) (λ reading. n ≤ length reading.opened - at)
  pub bytes : Told (reading_at old.slots slot) (λ reading. take n into ≡ take n (drop at reading.opened))
  pub end : n ≡ 0 → 0 < length into → Told (reading_at old.slots slot) (λ reading. length reading.opened ≤ at)

-- whether there is a slot and `target` gave it
abbrev pub is_target : Option Slot → Bool
is_target (Some (Source reading)) = false
is_target (Some (Target writing)) = true
is_target None = false

-- the slot was given by `target`
abbrev pub IsTarget : List Slot → ℕ → Type 0
IsTarget slots slot = IsTrue (is_target (slice_get slots slot))

-- what is told of a slot: the bytes that it has written, and the name whose file it still writes
abbrev pub writing_of : Option Slot → Option Writing
writing_of (Some (Source reading)) = None
writing_of (Some (Target writing)) = writing
writing_of None = None

-- the same of the slot of that number
abbrev pub writing_at : List Slot → ℕ → Option Writing
writing_at slots slot = writing_of (slice_get slots slot)

-- a writing that wrote these bytes more
abbrev pub wrote : List ℕ → Writing → Writing
wrote bytes writing = record { written = writing.written ++ bytes; name = writing.name }

-- a slot that wrote these bytes more
abbrev pub slot_wrote : List ℕ → Slot → Slot
slot_wrote bytes (Source reading) = Source reading
slot_wrote bytes (Target writing) = Target (option_map (wrote bytes) writing)

-- the slots after one of them wrote these bytes
abbrev pub write : List Slot → ℕ → List ℕ → List Slot
write [] slot bytes = []
write (first ∷ others) zero bytes = slot_wrote bytes first ∷ others
write (first ∷ others) (suc slot) bytes = first ∷ write others slot bytes

-- the files once one of that name holds these bytes
abbrev pub holding : List ℕ → List ℕ → Files → Files
holding name bytes files q = if bytes_eq name q then Some bytes else files q

-- the files once a slot has written: the file that it still writes is all that it wrote
abbrev pub files_written : Option Writing → Option Files → Option Files
files_written None files = files
files_written (Some writing) files = option_map_or (λ name. option_map (holding name writing.written) files)
    writing.name files

-- a slot wrote these bytes at its end, and nothing else changed beside the count of faults
pub record Writes (old new : Outside) (slot : ℕ) (bytes : List ℕ) : Type 0 where
  pub faults : old.faults ≤ new.faults
  pub misses : new.misses ≡ old.misses
  pub taken : new.taken ≡ old.taken
  pub slots : new.slots ≡ write old.slots slot bytes
  pub files : new.files ≡ files_written (writing_at new.slots slot) old.files

-- a slot wrote a proper prefix of these bytes; of no bytes it wrote nothing
pub record WritesPart (old new : Outside) (slot : ℕ) (bytes : List ℕ) : Type 0 where
  pub count : ℕ
  pub short : count ≤ length bytes - 1
  pub writes : Writes old new slot (take count bytes)

-- a writing of the file of that name from its beginning, where the shelf tells its files
abbrev pub writing_begun : Option Files → List ℕ → Option Writing
writing_begun files name = option_map (λ _. record { written = []; name = Some name }) files

-- the file of that name was made or emptied, a new slot writes it and no other does, and nothing else
-- changed beside the count of faults
pub record Makes (old new : Outside) (name : List ℕ) (slot : ℕ) : Type 0 where
  pub faults : old.faults ≤ new.faults
  pub misses : new.misses ≡ old.misses
  pub taken : new.taken ≡ old.taken
  pub number : slot ≡ length old.slots
  pub slots : new.slots ≡ without_slot name old.slots ++ Target (writing_begun old.files name) ∷ []
  pub files : new.files ≡ option_map (holding name []) old.files

-- a slot of which nothing is told
abbrev pub untold_slot : Bool → Slot
untold_slot true = Target None
untold_slot false = Source None

-- the slots of open files of which nothing is told
abbrev pub untold_slots : {A : Type 0} → (A → Bool) → List A → List Slot
untold_slots is_written open_files = map (λ open_file. untold_slot (is_written open_file)) open_files

-- a shelf that tells nothing, with a slot for each open file
abbrev pub untold : {A : Type 0} → (A → Bool) → ℕ → ℕ → List A → Outside
untold is_written faults taken open_files =
    record {
      faults = faults;
      misses = 0;
      taken = taken;
      slots = untold_slots is_written open_files;
      files = None;
    }

-- a shelf that tells nothing and has done nothing
abbrev pub empty_outside : Outside
empty_outside = record { faults = 0; misses = 0; taken = 0; slots = []; files = None }
