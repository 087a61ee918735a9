-- What callers know of a writer, and what its calls do.
use Rattle.std.specs.Prelude.{◌≡◌, ℕ, ◌+◌, ◌⊎◌, nat_le, nat_lt, false, Bool, if◌then◌else◌, List, length, replicate}
use Rattle.std.specs.Prelude.{Option, Some, None, Result, Ok, Err, IsOk}
use Rattle.frame_head.specs.Header.{header_bytes}
use Rattle.frame_outside.specs.Shelf.{Outside, HandsOut, Makes, Writes, WritesPart}
use Rattle.file_grammar.specs.Structure.{file_limit}
use Rattle.file_grammar.specs.MayStand.{frames_limit}
use Rattle.frame_content.specs.Frames.{Frame}
use Rattle.canonical_file.specs.declared.closing.Closing.{Closing}
use Rattle.canonical_file.specs.Splices.{clash_of}
use Rattle.canonical_file.specs.Written.{Written, header_alone, after_frame, closing_part}
use Rattle.canonical_writer.specs.declared.errors.WriteError.{WriteError}
use Rattle.canonical_writer.specs.declared.errors.WriteError.TheVariants as error
use Rattle.canonical_writer.specs.declared.writer.Summary.{Summary}

-- What callers know of a writer: its slot, what stands in the file, the closing once it is held, the classes met of the
-- source, and the error once there was one.
pub record Writer : Type 0 where
  pub slot : ℕ
  pub written : Written
  pub closing : Option Closing
  pub met : List Bool
  pub error : Option WriteError

abbrev pub none_met : List Bool
none_met = replicate 256 false

-- a writer that has written the header
abbrev pub fresh : ℕ → Writer
fresh slot = record { slot = slot; written = header_alone; closing = None; met = none_met; error = None }

-- nothing but the counts changed
abbrev pub Stays : Outside → Outside → Type 0
Stays old new = HandsOut old new 0

-- ---- the header

-- the file of a name was made, and this much of the header was written
pub record BeginsFile (old new : Outside) (name : List ℕ) (slot : ℕ) : Type 0 where
  pub middle : Outside
  pub makes : Makes old middle name slot
  pub writes : Writes middle new slot header_bytes

pub record BeginsInPart (old new : Outside) (name : List ℕ) : Type 0 where
  pub middle : Outside
  pub slot : ℕ
  pub makes : Makes old middle name slot
  pub part : Stays middle new ⊎ WritesPart middle new slot header_bytes

-- ---- frames

-- The answer that is due for a frame: at the limit of frames, at the first entry that clashes, or past the limit of
-- bytes it is refused.
abbrev pub clash_or_limit : Option ℕ → ℕ → Result Unit WriteError
clash_or_limit (Some class) size = Err (error.Clash class)
clash_or_limit None size = if nat_lt file_limit size then Err error.OutputLimit else Ok tt

abbrev pub frame_due : Option Closing → Written → Frame → Result Unit WriteError
frame_due closing w f =
    if nat_le frames_limit w.frames then Err error.FramesLimit
    else clash_or_limit (clash_of closing w.entries f) (after_frame w f).size

-- the answer is the due one, or memory failed, or the shelf where something was to be written
abbrev pub IsAnswer : {X : Type 0} → Result X WriteError → Result X WriteError → Type 0
IsAnswer answer due = (answer ≡ due) ⊎ ((answer ≡ Err error.NoMemory) ⊎ ((answer ≡ Err error.Device) × IsOk due))

-- what a shelf is after such an answer to bytes that were to be written
abbrev pub Puts : {X : Type 0} → Outside → Outside → ℕ → List ℕ → Result X WriteError → Type 0
Puts old new slot bytes (Ok x) = Writes old new slot bytes
Puts old new slot bytes (Err error.Device) = WritesPart old new slot bytes
Puts old new slot bytes (Err error.NoMemory) = Stays old new
Puts old new slot bytes (Err error.FramesLimit) = Stays old new
Puts old new slot bytes (Err (error.Clash class)) = Stays old new
Puts old new slot bytes (Err error.OutputLimit) = Stays old new

-- ---- the end

-- the bytes of the whole file, and the answer that is due at its end
abbrev pub size_with : Written → Closing → ℕ
size_with w c = w.size + length (closing_part w c)

abbrev pub closing_due : Written → Closing → Result Summary WriteError
closing_due w c =
    if nat_lt file_limit (size_with w c) then Err error.OutputLimit
    else Ok (record { frames = w.frames; bytes = size_with w c })
