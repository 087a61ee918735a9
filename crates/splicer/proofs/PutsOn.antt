-- What is put of a file while its frames are read, on the way from the first to a later one.
use Rattle.std.proofs.Common.{◌≡◌, ℕ, ◌≤◌, Bool, true, false, List, length, Option, Some, Result, Ok, Err, sym, subst}
use Rattle.frame_outside.specs.Shelf.{Outside, Told}
use Rattle.frame_outside.specs.SlotReader.{Draws}
use Rattle.frame_content.specs.Frames.{Frame}
use Rattle.canonical_file.specs.declared.closing.Closing.{Closing}
use Rattle.canonical_file.specs.Ranges.{AreBytes}
use Rattle.canonical_writer.specs.declared.errors.WriteError.{WriteError}
use Rattle.canonical_writer.specs.Writer.{Writer}
use Rattle.item_reader.specs.declared.item.ReadError.{ReadError}
use Rattle.item_reader.specs.Reader.{file_of}
use Rattle.frame_reader.specs.Given.{Frames, HasGiven, GoesOn, Keeps}
use Rattle.splicer.specs.Errors.{error_of_read}
use Rattle.splicer.specs.Made.{IsMade}
use Rattle.splicer.specs.Put.{HasPut, IsEnded, Puts, PutsFrame, PutsNext}
use Rattle.splicer.proofs.Making.{made-draws}
use Rattle.splicer.proofs.PutFrames.{puts-next, puts-ended}
use Rattle.splicer.proofs.Unread.{puts-unread}

-- ---- the file that is written

-- the file that was made before is made still
unfoldable pub MadeOn : Outside → Outside → ℕ → Writer → Writer → Type 0
MadeOn first now read w v =
    (old : Outside) (name : List ℕ) (inputs : ℕ) → length old.slots ≤ read → IsMade old first name inputs w.slot
    → IsMade old now name inputs v.slot

pub made_on-init : (o : Outside) (read : ℕ) (w : Writer) → MadeOn o o read w w
unfolding MadeOn
made_on-init o read w = λ old name inputs past made. made

-- bytes of a further slot were drawn
pub is_made-drawn : (old now middle : Outside) (name : List ℕ) (inputs slot read : ℕ) → length old.slots ≤ read
    → Draws now middle read → IsMade old now name inputs slot → IsMade old middle name inputs slot
is_made-drawn old now middle name inputs slot read past draws made = record {
  bytes = made.bytes;
  made = made-draws old now middle name inputs slot read made.bytes made.made past draws;
}

pub made_on-drawn : (first now middle : Outside) (read : ℕ) (w v : Writer) → MadeOn first now read w v
    → Draws now middle read → MadeOn first middle read w v
unfolding MadeOn
made_on-drawn first now middle read w v on draws = λ old name inputs past made.
    is_made-drawn old now middle name inputs v.slot read past draws (on old name inputs past made)

-- a frame was written
pub made_on-frame : (first now last : Outside) (read : ℕ) (w v u : Writer) → MadeOn first now read w v
    → ((old : Outside) (name : List ℕ) (inputs : ℕ) → IsMade old now name inputs v.slot
    → IsMade old last name inputs u.slot)
    → MadeOn first last read w u
unfolding MadeOn
made_on-frame first now last read w v u on frame = λ old name inputs past made.
    frame old name inputs (on old name inputs past made)

-- ---- what is put

-- after draws of the slot that is read
pub puts-drawn : (file : List ℕ) (r : Frames) (closing : Option Closing) (stood : List Frame) (old now middle : Outside)
    (name : List ℕ) (inputs read : ℕ) (w : Writer) → length old.slots ≤ read → Draws now middle read
    → HasPut file r closing stood old now name inputs w → HasPut file r closing stood old middle name inputs w
puts-drawn file r closing stood old now middle name inputs read w past draws put = record {
  frames = put.frames;
  ordered = put.ordered;
  then_stand = put.then_stand;
  given = put.given;
  in_order = put.in_order;
  passes = put.passes;
  written = record {
    made = made-draws old now middle name inputs w.slot read _ put.written.made past draws;
    written = put.written.written;
    error = put.written.error;
    agree = put.written.agree;
  };
  closing_is = put.closing_is;
  met = put.met;
  none_stood = put.none_stood;
}

-- what was put of the file before the first frame is put with the frames up to now
unfoldable pub PutsOn : Outside → Outside → Frames → Frames → Writer → Writer → Type 0
PutsOn first now before r w v =
    (old : Outside) (name : List ℕ) (inputs : ℕ) (stood : List Frame) (file : List ℕ)
    → file_of first before.reader.position.slot ≡ Some file → length old.slots ≤ before.reader.position.slot
    → AreBytes file → HasPut file before w.closing stood old first name inputs w
    → HasPut file r w.closing stood old now name inputs v

pub puts_on-init : (o : Outside) (r : Frames) (w : Writer) → PutsOn o o r r w w
unfolding PutsOn
puts_on-init o r w = λ old name inputs stood file told past bytes put. put

pub puts_on-drawn : (first now middle : Outside) (before r : Frames) (w v : Writer) → PutsOn first now before r w v
    → Draws now middle before.reader.position.slot → PutsOn first middle before r w v
unfolding PutsOn
puts_on-drawn first now middle before r w v on draws = λ old name inputs stood file told past bytes put.
    puts-drawn file r w.closing stood old now middle name inputs before.reader.position.slot v past draws
    (on old name inputs stood file told past bytes put)

pub puts_on-put : (first now : Outside) (before r : Frames) (w v : Writer) → PutsOn first now before r w v
    → (old : Outside) (name : List ℕ) (inputs : ℕ) (stood : List Frame) (file : List ℕ)
    → file_of first before.reader.position.slot ≡ Some file → length old.slots ≤ before.reader.position.slot
    → AreBytes file → HasPut file before w.closing stood old first name inputs w
    → HasPut file r w.closing stood old now name inputs v
unfolding PutsOn
puts_on-put first now before r w v on = on

-- ---- a call of the reader

-- what a call of the reader does with what it had given of the file that was there first
abbrev pub GoesFrom : Outside → Frames → Frames → Frames → Result Bool ReadError → Type 0
GoesFrom first before r new result =
    (file : List ℕ) (frames : List Frame) → file_of first before.reader.position.slot ≡ Some file → AreBytes file
    → HasGiven file frames r → GoesOn file frames new result

-- the entries that were held stay, in the same file
abbrev pub KeepsFrom : Outside → Frames → Frames → Frames → Type 0
KeepsFrom first before r new =
    Told (file_of first before.reader.position.slot)
    (λ file. Keeps r.reader.before.dictionary new.reader.before.dictionary)

-- no frame was given
pub puts_on-unread : (first now : Outside) (before r new : Frames) (w v : Writer) (error : ReadError)
    → PutsOn first now before r w v → GoesFrom first before r new (Err error)
    → (old : Outside) (name : List ℕ) (inputs : ℕ) (stood : List Frame) (file : List ℕ)
    → file_of first before.reader.position.slot ≡ Some file → length old.slots ≤ before.reader.position.slot
    → AreBytes file → HasPut file before w.closing stood old first name inputs w
    → Puts file w.closing stood old now name inputs v (Err (error_of_read error))
unfolding PutsOn
puts_on-unread first now before r new w v error on goes old name inputs stood file told past bytes put =
    puts-unread file r new w.closing stood old now name inputs v error
    (λ frames given. goes file frames told bytes given) (on old name inputs stood file told past bytes put)

-- the file has ended
pub puts_on-ended : (first now : Outside) (before r new : Frames) (w v : Writer) → PutsOn first now before r w v
    → GoesFrom first before r new (Ok false) → KeepsFrom first before r new
    → (old : Outside) (name : List ℕ) (inputs : ℕ) (stood : List Frame) (file : List ℕ)
    → file_of first before.reader.position.slot ≡ Some file → length old.slots ≤ before.reader.position.slot
    → AreBytes file → HasPut file before w.closing stood old first name inputs w
    → HasPut file new w.closing stood old now name inputs v × IsEnded file new
unfolding PutsOn
puts_on-ended first now before r new w v on goes keeps old name inputs stood file told past bytes put =
    let so_far = on old name inputs stood file told past bytes put in
    puts-ended file r new w.closing stood old now name inputs v so_far (keeps file told)
    (goes file so_far.frames told bytes so_far.given)

-- what is put of the frame that the reader has given then
abbrev pub PutsGiven : Outside → Outside → Frames → Writer → Writer → Result Unit WriteError → Type 0
PutsGiven now last new v u result =
    (old : Outside) (name : List ℕ) (inputs : ℕ) (stood : List Frame) (file : List ℕ) (frame : Frame)
    → PutsNext file frame new v.closing stood old now name inputs v
    → PutsFrame file new v.closing stood old last name inputs u result

-- a frame comes after those that were put
pub puts_on-next : (first now : Outside) (before r new : Frames) (w v : Writer) → PutsOn first now before r w v
    → GoesFrom first before r new (Ok true) → KeepsFrom first before r new
    → (old : Outside) (name : List ℕ) (inputs : ℕ) (stood : List Frame) (file : List ℕ)
    → file_of first before.reader.position.slot ≡ Some file → length old.slots ≤ before.reader.position.slot
    → AreBytes file → HasPut file before w.closing stood old first name inputs w
    → (frame : Frame) × PutsNext file frame new w.closing stood old now name inputs v
unfolding PutsOn
puts_on-next first now before r new w v on goes keeps old name inputs stood file told past bytes put =
    let so_far = on old name inputs stood file told past bytes put in
    let given = goes file so_far.frames told bytes so_far.given in (
      given.0,
      puts-next file given.0 r new w.closing stood old now name inputs v so_far (keeps file told) given.1,
    )

-- and is put
pub puts_on-given : (first now last : Outside) (before r new : Frames) (w v u : Writer)
    (result : Result Unit WriteError) → PutsOn first now before r w v → v.closing ≡ w.closing
    → GoesFrom first before r new (Ok true) → KeepsFrom first before r new → PutsGiven now last new v u result
    → (old : Outside) (name : List ℕ) (inputs : ℕ) (stood : List Frame) (file : List ℕ)
    → file_of first before.reader.position.slot ≡ Some file → length old.slots ≤ before.reader.position.slot
    → AreBytes file → HasPut file before w.closing stood old first name inputs w
    → PutsFrame file new w.closing stood old last name inputs u result
puts_on-given first now last before r new w v u result on closing goes keeps given old name inputs stood file told past
    bytes put =
    let next = puts_on-next first now before r new w v on goes keeps old name inputs stood file told past bytes put in
    subst (λ closing. PutsFrame file new closing stood old last name inputs u result) closing
    (given old name inputs stood file next.0
    (subst (λ closing. PutsNext file next.0 new closing stood old now name inputs v) (sym closing) next.1))

pub puts_on-more : (first now last : Outside) (before r new : Frames) (w v u : Writer) → PutsOn first now before r w v
    → v.closing ≡ w.closing → GoesFrom first before r new (Ok true) → KeepsFrom first before r new
    → PutsGiven now last new v u (Ok tt) → PutsOn first last before new w u
unfolding PutsOn
puts_on-more first now last before r new w v u on closing goes keeps given =
    puts_on-given first now last before r new w v u (Ok tt) on closing goes keeps given
