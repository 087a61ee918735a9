-- What is put of the sample file, frame after frame.
use Rattle.std.specs.Prelude.{◌≡◌, ◌⊎◌, ℕ, ◌+◌, ◌≤◌, List, length, take, ◌++◌, Some, None, Result, Ok, Err, IfErr, OnOk}
use Rattle.std.specs.Option.{option_map}
use Rattle.frame_outside.specs.Shelf.{Outside, Told, IsTarget, writing_at, without_slot, holding}
use Rattle.canonical_file.specs.Written.{header_alone, after_frames, canonical_head}
use Rattle.canonical_writer.specs.declared.errors.WriteError.{WriteError}
use Rattle.canonical_writer.specs.declared.errors.WriteError.TheVariants as write
use Rattle.canonical_writer.specs.declared.writer.Summary.{Summary}
use Rattle.canonical_writer.specs.Parts.{IsReady}
use Rattle.canonical_writer.specs.Writer.{Writer, Puts}
use Rattle.sample_file.specs.Entries.{sample_entries}
use Rattle.sample_file.specs.Whole.{sample_frames, sample_bytes}
use Rattle.sample_file.specs.Made.{Makes, MakesOneFile}

-- ---- bytes

-- the bytes before frame k
unfoldable pub sample_head : ℕ → List ℕ
sample_head k = canonical_head (sample_frames k)

-- ---- a shelf of which one slot writes the file

-- The file of the name was made after `old`, in this slot, and these bytes were written to it. Beside that and the
-- count of faults nothing changed.
pub record HasMade (old new : Outside) (name : List ℕ) (slot : ℕ) (bytes : List ℕ) : Type 0 where
  pub faults : old.faults ≤ new.faults
  pub misses : new.misses ≡ old.misses
  pub taken : new.taken ≡ old.taken
  pub kept : take (length old.slots) new.slots ≡ without_slot name old.slots
  pub given : length new.slots ≡ length old.slots + 1
  pub fresh : length old.slots ≤ slot
  pub target : IsTarget new.slots slot
  pub writing : Told old.files
      (λ files. writing_at new.slots slot ≡ Some (record { written = bytes; name = Some name }))
  pub files : new.files ≡ option_map (holding name bytes) old.files

-- a part of the bytes of n frames was written
pub record HasPart (old new : Outside) (name : List ℕ) (n : ℕ) : Type 0 where
  pub slot : ℕ
  pub count : ℕ
  pub made : HasMade old new name slot (take count (sample_bytes n))

-- what was written of frame k, by the answer: the bytes by which the head goes on
pub record PutsFrame (k : ℕ) (old new : Outside) (slot : ℕ) (result : Result Unit WriteError) : Type 0 where
  pub bytes : List ℕ
  pub more : sample_head (k + 1) ≡ sample_head k ++ bytes
  pub puts : Puts old new slot bytes result

-- what was written of n frames, by the answer
abbrev pub PutsFrames : Outside → Outside → List ℕ → ℕ → ℕ → Result Unit WriteError → Type 0
PutsFrames old new name slot n (Ok x) = HasMade old new name slot (sample_head n)
PutsFrames old new name slot n (Err error) = HasPart old new name n

-- ---- a writer

-- it may write frames of the sample file
unfoldable pub IsWriterReady : Writer → Type 0
IsWriterReady w = IsReady w.met w.closing w.written.entries sample_entries

-- A writer has written the first k frames, and may write more of them.
pub record HasWritten (k : ℕ) (w : Writer) : Type 0 where
  pub written : w.written ≡ after_frames header_alone (sample_frames k)
  pub closing : w.closing ≡ None
  pub error : w.error ≡ None
  pub ready : IsWriterReady w

-- the shelf failed, or memory
abbrev pub IsOutside : WriteError → Type 0
IsOutside error = (error ≡ write.Device) ⊎ (error ≡ write.NoMemory)

-- What is written of frame k, and how the writer stands then, by the answer.
pub record IsPut (k : ℕ) (old new : Outside) (w v : Writer) (result : Result Unit WriteError) : Type 0 where
  pub puts : PutsFrame k old new w.slot result
  pub outside : IfErr result IsOutside
  pub written : OnOk result (HasWritten (k + 1) v)

-- ---- at the end

-- What is left of the shelf after the making of n frames, by the answer.
pub record IsLeft (old new : Outside) (name : List ℕ) (n : ℕ) (result : Result Summary WriteError) : Type 0 where
  pub makes : Told old.files (λ files. Makes files new.files name n result)
  pub shelf : MakesOneFile old new name
  pub outside : IfErr result IsOutside
