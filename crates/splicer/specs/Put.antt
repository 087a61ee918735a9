-- What is written of an input, frame after frame.
use Rattle.std.specs.Prelude.{◌≡◌, ℕ, ◌≤◌, ◌⊎◌, Bool, List, [], take, Option, None, is_none, Result, Ok, Err}
use Rattle.std.specs.List.{AllZip}
use Rattle.frame_outside.specs.Shelf.{Outside, IsTarget}
use Rattle.file_grammar.specs.declared.fault.Fault.{Fault}
use Rattle.frame_content.specs.Frames.{Frame}
use Rattle.canonical_file.specs.declared.closing.Closing.{Closing}
use Rattle.canonical_file.specs.Ranges.{AreBytes}
use Rattle.canonical_file.specs.Ordered.{IsInOrder}
use Rattle.canonical_file.specs.Splices.{entries_used}
use Rattle.canonical_file.specs.Written.{header_alone, after_frames, canonical_head}
use Rattle.canonical_laws.specs.Content.{HasContent}
use Rattle.canonical_writer.specs.declared.errors.WriteError.{WriteError}
use Rattle.canonical_writer.specs.declared.errors.WriteError.TheVariants as write
use Rattle.canonical_writer.specs.Parts.{AreConsistent, AreMet}
use Rattle.canonical_writer.specs.Writer.{Writer}
use Rattle.item_reader.specs.Reader.{Reader, Reads, file_of}
use Rattle.frame_reader.specs.Gives.{Breaks, Gives}
use Rattle.frame_reader.specs.Given.{Frames, HasGiven, GivesFrame, GivesAll, AreFirst}
use Rattle.splicer.specs.declared.errors.InputError.{InputError}
use Rattle.splicer.specs.declared.errors.InputError.TheVariants as input
use Rattle.splicer.specs.Due.{Passes, Refuses, course, held_then}
use Rattle.splicer.specs.Made.{HasMade}

-- A writer has written these frames, and no others, to the file of a name.
pub record HasWritten (old new : Outside) (name : List ℕ) (inputs : ℕ) (frames : List Frame) (w : Writer) : Type 0 where
  pub made : HasMade old new name inputs w.slot (canonical_head frames)
  pub written : w.written ≡ after_frames header_alone frames
  pub error : w.error ≡ None
  pub agree : AreConsistent (entries_used w.written.entries w.closing)

-- ---- how an input is left

-- all of it is written, after frames that stood, and its closing is held where none was
pub record PutsAll (file : List ℕ) (closing : Option Closing) (stood : List Frame) (old new : Outside) (name : List ℕ)
    (inputs : ℕ) (w : Writer) : Type 0 where
  pub own : Closing
  pub frames : List Frame
  pub ordered : List Frame
  pub then_stand : List Frame
  pub content : HasContent file (record { closing = own; frames = frames })
  pub in_order : AllZip IsInOrder frames ordered
  pub passes : course closing stood ordered ≡ Passes then_stand
  pub written : HasWritten old new name inputs then_stand w
  pub closing_is : w.closing ≡ held_then closing own

-- it has a fault, and all frames before that are written
pub record PutsUntilFault (file : List ℕ) (closing : Option Closing) (stood : List Frame) (old new : Outside)
    (name : List ℕ) (inputs slot : ℕ) (fault : Fault) : Type 0 where
  pub frames : List Frame
  pub ordered : List Frame
  pub then_stand : List Frame
  pub gives : Gives file frames (Breaks fault)
  pub in_order : AllZip IsInOrder frames ordered
  pub passes : course closing stood ordered ≡ Passes then_stand
  pub made : HasMade old new name inputs slot (canonical_head then_stand)

-- a frame is refused, and all frames before that are written
pub record PutsUntilRefusal (file : List ℕ) (closing : Option Closing) (stood : List Frame) (old new : Outside)
    (name : List ℕ) (inputs slot : ℕ) (error : WriteError) : Type 0 where
  pub ordered : List Frame
  pub then_stand : List Frame
  pub first : AreFirst file ordered
  pub refuses : course closing stood ordered ≡ Refuses error then_stand
  pub made : HasMade old new name inputs slot (canonical_head then_stand)

-- the shelf or memory failed, and some bytes of its frames are written; there are none where its header was not read
pub record PutsPart (file : List ℕ) (closing : Option Closing) (stood : List Frame) (old new : Outside) (name : List ℕ)
    (inputs slot : ℕ) : Type 0 where
  pub ordered : List Frame
  pub then_stand : List Frame
  pub count : ℕ
  pub first : (ordered ≡ []) ⊎ AreFirst file ordered
  pub passes : course closing stood ordered ≡ Passes then_stand
  pub made : HasMade old new name inputs slot (take count (canonical_head then_stand))

-- What is written of an input after frames that stood, by the answer.
abbrev pub Puts : List ℕ → Option Closing → List Frame → Outside → Outside → List ℕ → ℕ → Writer
    → Result Unit InputError → Type 0
Puts file closing stood old new name inputs w (Ok x) = PutsAll file closing stood old new name inputs w
Puts file closing stood old new name inputs w (Err (input.Fault fault)) =
    PutsUntilFault file closing stood old new name inputs w.slot fault
Puts file closing stood old new name inputs w (Err (input.Write write.Device)) =
    PutsPart file closing stood old new name inputs w.slot
Puts file closing stood old new name inputs w (Err (input.Write write.NoMemory)) =
    PutsPart file closing stood old new name inputs w.slot
Puts file closing stood old new name inputs w (Err (input.Write error)) =
    PutsUntilRefusal file closing stood old new name inputs w.slot error

-- ---- on the way

-- the reader has given all frames of a file that is well-formed
abbrev pub IsEnded : List ℕ → Frames → Type 0
IsEnded file r = (frames : List Frame) × GivesAll file frames r

-- The frames that a reader has given of a file are written after those that stood, and the classes met of it are used
-- as its dictionary has them.
pub record HasPut (file : List ℕ) (r : Frames) (closing : Option Closing) (stood : List Frame) (old new : Outside)
    (name : List ℕ) (inputs : ℕ) (w : Writer) : Type 0 where
  pub frames : List Frame
  pub ordered : List Frame
  pub then_stand : List Frame
  pub given : HasGiven file frames r
  pub in_order : AllZip IsInOrder frames ordered
  pub passes : course closing stood ordered ≡ Passes then_stand
  pub written : HasWritten old new name inputs then_stand w
  pub closing_is : w.closing ≡ closing
  pub met : AreMet w.met w.written.entries r.reader.before.dictionary
  pub none_stood : closing ≡ None → stood ≡ []

-- The same before a frame that the reader has given after them.
pub record PutsNext (file : List ℕ) (frame : Frame) (r : Frames) (closing : Option Closing) (stood : List Frame)
    (old new : Outside) (name : List ℕ) (inputs : ℕ) (w : Writer) : Type 0 where
  pub frames : List Frame
  pub ordered : List Frame
  pub then_stand : List Frame
  pub gives : GivesFrame file frames frame r
  pub in_order : AllZip IsInOrder frames ordered
  pub passes : course closing stood ordered ≡ Passes then_stand
  pub written : HasWritten old new name inputs then_stand w
  pub closing_is : w.closing ≡ closing
  pub met : AreMet w.met w.written.entries r.reader.before.dictionary
  pub none_stood : closing ≡ None → stood ≡ []

-- An input of these bytes comes after frames that are written; it is the first where no closing is held.
pub record Comes (file : List ℕ) (stood : List Frame) (old new : Outside) (name : List ℕ) (inputs : ℕ) (is_first : Bool)
    (w : Writer) : Type 0 where
  pub bytes : AreBytes file
  pub written : HasWritten old new name inputs stood w
  pub first : is_first ≡ is_none w.closing
  pub none_stood : w.closing ≡ None → stood ≡ []

-- what is written then, by the answer to the frame
abbrev pub PutsFrame : List ℕ → Frames → Option Closing → List Frame → Outside → Outside → List ℕ → ℕ → Writer
    → Result Unit WriteError → Type 0
PutsFrame file r closing stood old new name inputs w (Ok x) = HasPut file r closing stood old new name inputs w
PutsFrame file r closing stood old new name inputs w (Err error) =
    Puts file closing stood old new name inputs w (Err (input.Write error))

-- what is written of all frames of an input, by the answer
abbrev pub PutsFrames : List ℕ → Frames → Option Closing → List Frame → Outside → Outside → List ℕ → ℕ → Writer
    → Result Unit InputError → Type 0
PutsFrames file r closing stood old new name inputs w (Ok x) =
    HasPut file r closing stood old new name inputs w × IsEnded file r
PutsFrames file r closing stood old new name inputs w (Err error) =
    Puts file closing stood old new name inputs w (Err error)

-- Of the slots only what was written changed, and nothing was taken: each reader reads on.
pub record OnlyWrites (old new : Outside) : Type 0 where
  pub reads : (r : Reader) → Reads old r → Reads new r
  pub targets : (slot : ℕ) → IsTarget old.slots slot → IsTarget new.slots slot
  pub files : (slot : ℕ) → file_of new slot ≡ file_of old slot
  pub faults : old.faults ≤ new.faults
  pub taken : new.taken ≡ old.taken
