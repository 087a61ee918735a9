-- A shelf of which one slot writes the file of a name: what each call leaves of that, and what is left at the end.
use Rattle.std.proofs.Common.{◌≡◌, ℕ, zero, suc, ◌+◌, ◌-◌, ◌≤◌, Bool, true, false, cond, List, [], ◌∷◌, ◌++◌, length}
use Rattle.std.proofs.Common.{take, Option, Some, None, option_map, Result, Ok, Err, inl, inr, refl, sym, ap, ◌∙◌}
use Rattle.std.proofs.Common.{subst, arith}
use Rattle.std.proofs.Math.Seq.{take-append-add}
use Rattle.std.proofs.lemmas.List.{length-append, length-map, take-append-le, take_all}
use Rattle.std.proofs.lemmas.Slice.Eq.{bytes_eq-Decides}
use Rattle.std.specs.Str.{bytes_eq}
use Rattle.frame_head.specs.Header.{header_bytes}
use Rattle.frame_outside.specs.Shelf.{Outside, Files, Reading, Writing, Slot, Source, Target, Told, IsTarget, Opens}
use Rattle.frame_outside.specs.Shelf.{Refuses, Makes, Writes, WritesPart, beginning, beginning_of, writing_begun}
use Rattle.frame_outside.specs.Shelf.{writing_at, reading_at, pass, wrote, write, slot_released, without_slot, holding}
use Rattle.frame_outside.specs.Shelf.{files_written}
use Rattle.frame_outside.specs.SlotReader.{Draws}
use Rattle.frame_outside.proofs.Slots.{length-pass, reading_at-given, IsTarget-pass, IsTarget-write, IsTarget-makes}
use Rattle.frame_outside.proofs.Slots.{IsTarget-more, writing_at-pass, writing_at-more, writing_at-made}
use Rattle.frame_outside.proofs.Writing.{writing_at-write, holding-holding}
use Rattle.item_reader.specs.Reader.{file_of}
use Rattle.canonical_writer.specs.declared.errors.WriteError.{WriteError}
use Rattle.canonical_writer.specs.declared.errors.WriteError.TheVariants as error
use Rattle.canonical_writer.specs.Writer.{Stays, BeginsFile, BeginsInPart, Puts}
use Rattle.splicer.specs.Made.{HasMade, IsMade, WritesOneFile}

-- ---- the slots that were given before

-- one after them gave bytes
take-pass : (n : ℕ) (slots : List Slot) (slot given : ℕ) → n ≤ slot → take n (pass slots slot given) ≡ take n slots
take-pass zero slots slot given few = refl
take-pass (suc n) [] slot given few = refl
take-pass (suc n) (first ∷ others) zero given few = absurd (omega arith)
take-pass (suc n) (first ∷ others) (suc slot) given few =
    let less : n ≤ slot = omega arith in
    ap (λ ss. first ∷ ss) (take-pass n others slot given less)

-- or wrote some
take-write : (n : ℕ) (slots : List Slot) (slot : ℕ) (bytes : List ℕ) → n ≤ slot
    → take n (write slots slot bytes) ≡ take n slots
take-write zero slots slot bytes few = refl
take-write (suc n) [] slot bytes few = refl
take-write (suc n) (first ∷ others) zero bytes few = absurd (omega arith)
take-write (suc n) (first ∷ others) (suc slot) bytes few =
    let less : n ≤ slot = omega arith in
    ap (λ ss. first ∷ ss) (take-write n others slot bytes less)

-- or more were given, of which the last writes the file of a name
take-made : (name : List ℕ) (slots more : List Slot) (made : Slot)
    → take (length slots) (without_slot name (slots ++ more) ++ made ∷ []) ≡ without_slot name slots
take-made name [] more made = refl
take-made name (first ∷ others) more made =
    ap (λ ss. slot_released name first ∷ ss) (take-made name others more made)

-- ---- how many slots were given

-- as many after one of them wrote
length-write : (slots : List Slot) (slot : ℕ) (bytes : List ℕ) → length (write slots slot bytes) ≡ length slots
length-write [] slot bytes = refl
length-write (first ∷ others) zero bytes = refl
length-write (first ∷ others) (suc slot) bytes = ap (λ k. suc k) (length-write others slot bytes)

-- one more after one was given
length-more : (slots : List Slot) (slot : Slot) → length (slots ++ slot ∷ []) ≡ length slots + 1
length-more slots slot = length-append slots (slot ∷ [])

-- and after one was given that writes the file of a name
length-made : (name : List ℕ) (slots : List Slot) (made : Slot)
    → length (without_slot name slots ++ made ∷ []) ≡ length slots + 1
length-made name slots made =
    length-more (without_slot name slots) made ∙ ap (λ k. k + 1) (length-map slots (slot_released name))

-- ---- the calls

-- a call that neither writes the file nor changes the slots of before
made-kept : (old middle new : Outside) (name : List ℕ) (inputs all slot : ℕ) (bytes : List ℕ)
    → HasMade old middle name inputs slot bytes → middle.faults ≤ new.faults → new.misses ≡ middle.misses
    → take (length old.slots) new.slots ≡ take (length old.slots) middle.slots
    → length new.slots ≡ length old.slots + all + 1 → IsTarget new.slots slot
    → writing_at new.slots slot ≡ writing_at middle.slots slot → new.files ≡ middle.files
    → HasMade old new name all slot bytes
made-kept old middle new name inputs all slot bytes made faults misses kept given target writing files = record {
  faults = omega (arith, made.faults, faults);
  misses = misses ∙ made.misses;
  kept = kept ∙ made.kept;
  given = given;
  fresh = made.fresh;
  target = target;
  writing = λ held told. writing ∙ made.writing held told;
  files = files ∙ made.files;
}

-- a shelf that tells no files tells none after a slot has written
untold-written : (writing : Option Writing) → files_written writing None ≡ None
untold-written None = refl
untold-written (Some writing) =
    elim writing.name as (λ name. files_written (Some (record { written = writing.written; name = name })) None ≡ None)
    [ None ↦ refl | Some name ↦ refl ]

-- the first input was opened and the file made, and nothing written yet
made-empty : (old opened new : Outside) (input name : List ℕ) (read slot : ℕ) → Opens old opened input read
    → Makes opened new name slot → HasMade old new name 1 slot []
made-empty old opened new input name read slot opens makes =
    let source : Slot = Source (beginning_of old.files input) in
    let made : Slot = Target (writing_begun opened.files name) in
    let more : length opened.slots ≡ length old.slots + 1 = ap length opens.slots ∙ length-more old.slots source in
    let last : length new.slots ≡ length opened.slots + 1 =
    ap length makes.slots ∙ length-made name opened.slots made in
    record {
      faults = omega (arith, opens.faults, makes.faults);
      misses = makes.misses ∙ opens.misses;
      kept = ap (take (length old.slots)) (makes.slots ∙ ap (λ ss. without_slot name ss ++ made ∷ []) opens.slots)
          ∙ take-made name old.slots (source ∷ []) made;
      given = omega (arith, more, last);
      fresh = omega (arith, makes.number, more);
      target = IsTarget-makes opened new name slot makes;
      writing = λ files told. ap (λ ss. writing_at ss slot) makes.slots
          ∙ ap (writing_at (without_slot name opened.slots ++ made ∷ [])) makes.number
          ∙ writing_at-made name opened.slots (writing_begun opened.files name)
          ∙ ap (λ f. writing_begun f name) (opens.files ∙ told);
      files = makes.files ∙ ap (option_map (holding name [])) opens.files;
    }

-- ---- while it is written

-- bytes of an input are drawn
pub made-draws : (old middle new : Outside) (name : List ℕ) (inputs slot read : ℕ) (bytes : List ℕ)
    → HasMade old middle name inputs slot bytes → length old.slots ≤ read → Draws middle new read
    → HasMade old new name inputs slot bytes
made-draws old middle new name inputs slot read bytes made past draws =
    let n = draws.drawn in let slots = draws.passes.slots in
    made-kept old middle new name inputs inputs slot bytes made draws.passes.faults draws.passes.misses
    (ap (take (length old.slots)) slots ∙ take-pass (length old.slots) middle.slots read n past)
    (ap length slots ∙ length-pass middle.slots read n ∙ made.given)
    (subst (λ ss. IsTarget ss slot) (sym slots) (IsTarget-pass middle.slots read n slot made.target))
    (ap (λ ss. writing_at ss slot) slots ∙ writing_at-pass middle.slots read n slot) draws.passes.files

-- nothing but the counts changes
pub made-stays : (old middle new : Outside) (name : List ℕ) (inputs slot : ℕ) (bytes : List ℕ)
    → HasMade old middle name inputs slot bytes → Stays middle new → HasMade old new name inputs slot bytes
made-stays old middle new name inputs slot bytes made stays =
    made-kept old middle new name inputs inputs slot bytes made stays.faults stays.misses
    (ap (take (length old.slots)) stays.slots) (ap length stays.slots ∙ made.given)
    (subst (λ ss. IsTarget ss slot) (sym stays.slots) made.target) (ap (λ ss. writing_at ss slot) stays.slots)
    stays.files

-- a piece is written
pub made-writes : (old middle new : Outside) (name : List ℕ) (inputs slot : ℕ) (bytes piece : List ℕ)
    → HasMade old middle name inputs slot bytes → Writes middle new slot piece
    → HasMade old new name inputs slot (bytes ++ piece)
made-writes old middle new name inputs slot bytes piece made writes = record {
  faults = omega (arith, made.faults, writes.faults);
  misses = writes.misses ∙ made.misses;
  kept = ap (take (length old.slots)) writes.slots
      ∙ take-write (length old.slots) middle.slots slot piece made.fresh ∙ made.kept;
  given = ap length writes.slots ∙ length-write middle.slots slot piece ∙ made.given;
  fresh = made.fresh;
  target = subst (λ ss. IsTarget ss slot) (sym writes.slots)
      (IsTarget-write middle.slots slot piece slot made.target);
  writing = wrote_on;
  files = by old.files refl;
}
  where
    wrote_on : Told old.files
        (λ files. writing_at new.slots slot ≡ Some (record { written = bytes ++ piece; name = Some name }))
    wrote_on files told = ap (λ ss. writing_at ss slot) writes.slots ∙ writing_at-write middle.slots slot piece
        ∙ ap (option_map (wrote piece)) (made.writing files told)

    before : (o : Option Files) → old.files ≡ o
        → new.files ≡ files_written (writing_at new.slots slot) (option_map (holding name bytes) o)
    before o is = writes.files
        ∙ ap (files_written (writing_at new.slots slot)) (made.files ∙ ap (option_map (holding name bytes)) is)

    by : (o : Option Files) → old.files ≡ o → new.files ≡ option_map (holding name (bytes ++ piece)) o
    by None is = before None is ∙ untold-written (writing_at new.slots slot)
    by (Some files) is = before (Some files) is
        ∙ ap (λ w. files_written w (Some (holding name bytes files))) (wrote_on files is)
        ∙ ap Some (holding-holding name bytes (bytes ++ piece) (bytes ++ piece) files refl)

-- a proper part of the piece is written
pub made-part : (old middle new : Outside) (name : List ℕ) (inputs slot : ℕ) (bytes piece : List ℕ)
    → HasMade old middle name inputs slot bytes → WritesPart middle new slot piece
    → (count : ℕ) × (count ≤ length bytes + (length piece - 1))
    × HasMade old new name inputs slot (take count (bytes ++ piece))
made-part old middle new name inputs slot bytes piece made part = (
  length bytes + part.count,
  omega (arith, part.short),
  subst (λ (bs : List ℕ). HasMade old new name inputs slot bs) (sym (take-append-add bytes piece part.count))
      (made-writes old middle new name inputs slot bytes (take part.count piece) made part.writes),
)

-- whatever a writer answered
pub is_made-puts : {X : Type 0} (old middle new : Outside) (name : List ℕ) (inputs slot : ℕ) (bytes : List ℕ)
    (result : Result X WriteError) → IsMade old middle name inputs slot → Puts middle new slot bytes result
    → IsMade old new name inputs slot
is_made-puts old middle new name inputs slot bytes (Ok x) is puts = record {
  bytes = is.bytes ++ bytes;
  made = made-writes old middle new name inputs slot is.bytes bytes is.made puts;
}
is_made-puts old middle new name inputs slot bytes (Err error.Device) is puts = record {
  bytes = is.bytes ++ take puts.count bytes;
  made = made-writes old middle new name inputs slot is.bytes (take puts.count bytes) is.made puts.writes;
}
is_made-puts old middle new name inputs slot bytes (Err error.NoMemory) is puts =
    record { bytes = is.bytes; made = made-stays old middle new name inputs slot is.bytes is.made puts }
is_made-puts old middle new name inputs slot bytes (Err error.FramesLimit) is puts =
    record { bytes = is.bytes; made = made-stays old middle new name inputs slot is.bytes is.made puts }
is_made-puts old middle new name inputs slot bytes (Err (error.Clash class)) is puts =
    record { bytes = is.bytes; made = made-stays old middle new name inputs slot is.bytes is.made puts }
is_made-puts old middle new name inputs slot bytes (Err error.OutputLimit) is puts =
    record { bytes = is.bytes; made = made-stays old middle new name inputs slot is.bytes is.made puts }

-- a further input is opened, in a slot that is new
pub made-opens : (old middle new : Outside) (name input : List ℕ) (inputs slot read : ℕ) (bytes : List ℕ)
    → HasMade old middle name inputs slot bytes → Opens middle new input read
    → HasMade old new name (inputs + 1) slot bytes × (length old.slots ≤ read)
made-opens old middle new name input inputs slot read bytes made opens =
    let source : Slot = Source (beginning_of middle.files input) in
    let within : length old.slots ≤ length middle.slots = omega (arith, made.given) in
    let more : length new.slots ≡ length middle.slots + 1 = ap length opens.slots ∙ length-more middle.slots source in (
      made-kept old middle new name inputs (inputs + 1) slot bytes made opens.faults opens.misses
          (ap (take (length old.slots)) opens.slots
          ∙ take-append-le (length old.slots) middle.slots (source ∷ []) within)
          (omega (arith, more, made.given))
          (subst (λ ss. IsTarget ss slot) (sym opens.slots) (IsTarget-more middle.slots (source ∷ []) slot made.target))
          (ap (λ ss. writing_at ss slot) opens.slots ∙ writing_at-more middle.slots (source ∷ []) slot made.target)
          opens.files,
      omega (arith, opens.number, within),
    )

-- and what it is opened on is the file of its name, which is not the one that is written
pub opened-held : (old middle new : Outside) (name input file : List ℕ) (inputs slot read : ℕ) (bytes : List ℕ)
    (files : Files) → HasMade old middle name inputs slot bytes → Opens middle new input read
    → old.files ≡ Some files → (input ≡ name → ⊥) → files input ≡ Some file → file_of new read ≡ Some file
opened-held old middle new name input file inputs slot read bytes files made opens told apart held =
    ap (option_map (λ (reading : Reading). reading.opened))
    (ap (λ ss. reading_at ss read) opens.slots
    ∙ ap (reading_at (middle.slots ++ Source (beginning_of middle.files input) ∷ [])) opens.number
    ∙ reading_at-given middle.slots (beginning_of middle.files input)
    ∙ ap (λ f. beginning_of f input) (made.files ∙ ap (option_map (holding name bytes)) told)
    ∙ ap (option_map beginning) (by (bytes_eq name input) refl ∙ held))
  where
    by : (same : Bool) → bytes_eq name input ≡ same → cond same (Some bytes) (files input) ≡ files input
    by true is = absurd (apart (sym ((bytes_eq-Decides name input).0 is)))
    by false is = refl

-- ---- the file is made

-- the first input was opened, and the header written
pub made-begun : (old opened new : Outside) (input name : List ℕ) (read slot : ℕ) → Opens old opened input read
    → BeginsFile opened new name slot → HasMade old new name 1 slot header_bytes
made-begun old opened new input name read slot opens begins =
    made-writes old begins.middle new name 1 slot [] header_bytes
    (made-empty old opened begins.middle input name read slot opens begins.makes) begins.writes

-- or it was opened, and no more than a part of the header written
pub begun-in_part : (old opened new : Outside) (input name : List ℕ) (read : ℕ) → Opens old opened input read
    → BeginsInPart opened new name
    → (slot count : ℕ) × (count ≤ length header_bytes - 1) × HasMade old new name 1 slot (take count header_bytes)
begun-in_part old opened new input name read opens begins =
    let empty : HasMade old begins.middle name 1 begins.slot [] =
    made-empty old opened begins.middle input name read begins.slot opens begins.makes in
    elim begins.part [
      | inl stays ↦ (begins.slot, 0, omega arith, made-stays old begins.middle new name 1 begins.slot [] empty stays)
      | inr part ↦ (
        begins.slot,
        part.count,
        part.short,
        made-writes old begins.middle new name 1 begins.slot [] (take part.count header_bytes) empty part.writes,
      )
    ]

-- ---- at the end

-- the file is as it was left
pub one-made : (old new : Outside) (name : List ℕ) (inputs all slot : ℕ) (bytes : List ℕ)
    → HasMade old new name inputs slot bytes → inputs ≤ all → WritesOneFile old new name all
one-made old new name inputs all slot bytes made few = record {
  faults = made.faults;
  misses = omega (arith, made.misses);
  slots = inr made.kept;
  given = omega (arith, made.given, few);
  files = inr (bytes, made.files);
}

-- a further input was not opened
pub one-refused : (old middle new : Outside) (name input : List ℕ) (inputs all slot : ℕ) (bytes : List ℕ)
    → HasMade old middle name inputs slot bytes → Refuses middle new input → inputs ≤ all
    → WritesOneFile old new name all
one-refused old middle new name input inputs all slot bytes made refuses few =
    let same : length new.slots ≡ length middle.slots = ap length refuses.slots in
    record {
      faults = omega (arith, made.faults, refuses.faults);
      misses = omega (arith, made.misses, refuses.misses);
      slots = inr (ap (take (length old.slots)) refuses.slots ∙ made.kept);
      given = omega (arith, same, made.given, few);
      files = inr (bytes, refuses.files ∙ made.files);
    }

-- nor was the first
pub one-unopened : (old new : Outside) (name input : List ℕ) (all : ℕ) → Refuses old new input
    → WritesOneFile old new name all
one-unopened old new name input all refuses =
    let same : length new.slots ≡ length old.slots = ap length refuses.slots in
    record {
      faults = refuses.faults;
      misses = refuses.misses;
      slots = inl (take_all (length old.slots) new.slots (omega (arith, same)) ∙ refuses.slots);
      given = omega (arith, same);
      files = inl refuses.files;
    }

-- the first was opened, and the file was not made
pub one-unmade : (old opened new : Outside) (name input : List ℕ) (all read : ℕ) → Opens old opened input read
    → Stays opened new → 1 ≤ all → WritesOneFile old new name all
one-unmade old opened new name input all read opens stays some =
    let source : Slot = Source (beginning_of old.files input) in
    let slots : new.slots ≡ old.slots ++ source ∷ [] = stays.slots ∙ opens.slots in
    let more : length new.slots ≡ length old.slots + 1 = ap length slots ∙ length-more old.slots source in
    record {
      faults = omega (arith, opens.faults, stays.faults);
      misses = omega (arith, opens.misses, stays.misses);
      slots = inl (ap (take (length old.slots)) slots
          ∙ take-append-le (length old.slots) old.slots (source ∷ []) (omega arith)
          ∙ take_all (length old.slots) old.slots (omega arith));
      given = omega (arith, more, some);
      files = inl (stays.files ∙ opens.files);
    }
