-- A shelf of which one slot writes the file of a name: what each call leaves of that, and what is left at the end.
use Rattle.std.proofs.Common.{◌≡◌, ℕ, zero, suc, ◌+◌, ◌≤◌, List, [], ◌∷◌, ◌++◌, length}
use Rattle.std.proofs.Common.{take, Option, Some, None, option_map, inl, inr, refl, sym, ap, ◌∙◌}
use Rattle.std.proofs.Common.{subst, arith}
use Rattle.std.proofs.Math.Seq.{take-append-add}
use Rattle.std.proofs.lemmas.List.{length-append, length-map, take_all}
use Rattle.frame_head.specs.Header.{header_bytes}
use Rattle.frame_outside.specs.Shelf.{Outside, Files, Writing, Slot, Target, Told, IsTarget, Makes, Writes, WritesPart}
use Rattle.frame_outside.specs.Shelf.{writing_begun, writing_at, wrote, write, slot_released, without_slot, holding}
use Rattle.frame_outside.specs.Shelf.{files_written}
use Rattle.frame_outside.proofs.Slots.{IsTarget-write, IsTarget-makes, writing_at-made}
use Rattle.frame_outside.proofs.Writing.{writing_at-write, holding-holding}
use Rattle.canonical_writer.specs.Writer.{Stays, BeginsFile, BeginsInPart}
use Rattle.sample_file.specs.Made.{MakesOneFile}
use Rattle.sample_file.specs.Put.{HasMade}

-- ---- the slots that were given before

-- one after them wrote
take-write : (n : ℕ) (slots : List Slot) (slot : ℕ) (bytes : List ℕ) → n ≤ slot
    → take n (write slots slot bytes) ≡ take n slots
take-write zero slots slot bytes few = refl
take-write (suc n) [] slot bytes few = refl
take-write (suc n) (first ∷ others) zero bytes few = absurd (omega arith)
take-write (suc n) (first ∷ others) (suc slot) bytes few =
    let less : n ≤ slot = omega arith in
    ap (λ ss. first ∷ ss) (take-write n others slot bytes less)

-- or one more was given, that writes the file of a name
take-made : (name : List ℕ) (slots : List Slot) (made : Slot)
    → take (length slots) (without_slot name slots ++ made ∷ []) ≡ without_slot name slots
take-made name [] made = refl
take-made name (first ∷ others) made = ap (λ ss. slot_released name first ∷ ss) (take-made name others made)

-- ---- how many slots were given

-- as many after one of them wrote
length-write : (slots : List Slot) (slot : ℕ) (bytes : List ℕ) → length (write slots slot bytes) ≡ length slots
length-write [] slot bytes = refl
length-write (first ∷ others) zero bytes = refl
length-write (first ∷ others) (suc slot) bytes = ap (λ k. suc k) (length-write others slot bytes)

-- one more after one was given that writes the file of a name
length-made : (name : List ℕ) (slots : List Slot) (made : Slot)
    → length (without_slot name slots ++ made ∷ []) ≡ length slots + 1
length-made name slots made =
    length-append (without_slot name slots) (made ∷ []) ∙ ap (λ k. k + 1) (length-map slots (slot_released name))

-- ---- the calls

-- a shelf that tells no files tells none after a slot has written
untold-written : (writing : Option Writing) → files_written writing None ≡ None
untold-written None = refl
untold-written (Some writing) =
    elim writing.name as (λ name. files_written (Some (record { written = writing.written; name = name })) None ≡ None)
    [ None ↦ refl | Some name ↦ refl ]

-- the file was made, and nothing written yet
made-empty : (old new : Outside) (name : List ℕ) (slot : ℕ) → Makes old new name slot → HasMade old new name slot []
made-empty old new name slot makes =
    let made : Slot = Target (writing_begun old.files name) in
    let more : length new.slots ≡ length old.slots + 1 = ap length makes.slots ∙ length-made name old.slots made in
    record {
      faults = makes.faults;
      misses = makes.misses;
      taken = makes.taken;
      kept = ap (take (length old.slots)) makes.slots ∙ take-made name old.slots made;
      given = more;
      fresh = omega (arith, makes.number);
      target = IsTarget-makes old new name slot makes;
      writing = λ files told. ap (λ ss. writing_at ss slot) makes.slots
          ∙ ap (writing_at (without_slot name old.slots ++ made ∷ [])) makes.number
          ∙ writing_at-made name old.slots (writing_begun old.files name)
          ∙ ap (λ f. writing_begun f name) told;
      files = makes.files;
    }

-- nothing but the counts changes
pub made-stays : (old middle new : Outside) (name : List ℕ) (slot : ℕ) (bytes : List ℕ)
    → HasMade old middle name slot bytes → Stays middle new → HasMade old new name slot bytes
made-stays old middle new name slot bytes made stays = record {
  faults = omega (arith, made.faults, stays.faults);
  misses = stays.misses ∙ made.misses;
  taken = omega (arith, made.taken, stays.taken);
  kept = ap (take (length old.slots)) stays.slots ∙ made.kept;
  given = ap length stays.slots ∙ made.given;
  fresh = made.fresh;
  target = subst (λ ss. IsTarget ss slot) (sym stays.slots) made.target;
  writing = λ held told. ap (λ ss. writing_at ss slot) stays.slots ∙ made.writing held told;
  files = stays.files ∙ made.files;
}

-- a piece is written
pub made-writes : (old middle new : Outside) (name : List ℕ) (slot : ℕ) (bytes piece : List ℕ)
    → HasMade old middle name slot bytes → Writes middle new slot piece
    → HasMade old new name slot (bytes ++ piece)
made-writes old middle new name slot bytes piece made writes = record {
  faults = omega (arith, made.faults, writes.faults);
  misses = writes.misses ∙ made.misses;
  taken = writes.taken ∙ made.taken;
  kept = ap (take (length old.slots)) writes.slots
      ∙ take-write (length old.slots) middle.slots slot piece made.fresh ∙ made.kept;
  given = ap length writes.slots ∙ length-write middle.slots slot piece ∙ made.given;
  fresh = made.fresh;
  target = subst (λ ss. IsTarget ss slot) (sym writes.slots)
      (IsTarget-write middle.slots slot piece slot made.target);
  writing = wrote_on;
  files = by old.files refl;
}
  where
    wrote_on : Told old.files
        (λ files. writing_at new.slots slot ≡ Some (record { written = bytes ++ piece; name = Some name }))
    wrote_on files told = ap (λ ss. writing_at ss slot) writes.slots ∙ writing_at-write middle.slots slot piece
        ∙ ap (option_map (wrote piece)) (made.writing files told)

    before : (o : Option Files) → old.files ≡ o
        → new.files ≡ files_written (writing_at new.slots slot) (option_map (holding name bytes) o)
    before o is = writes.files
        ∙ ap (files_written (writing_at new.slots slot)) (made.files ∙ ap (option_map (holding name bytes)) is)

    by : (o : Option Files) → old.files ≡ o → new.files ≡ option_map (holding name (bytes ++ piece)) o
    by None is = before None is ∙ untold-written (writing_at new.slots slot)
    by (Some files) is = before (Some files) is
        ∙ ap (λ w. files_written w (Some (holding name bytes files))) (wrote_on files is)
        ∙ ap Some (holding-holding name bytes (bytes ++ piece) (bytes ++ piece) files refl)

-- a proper part of the piece is written
pub made-part : (old middle new : Outside) (name : List ℕ) (slot : ℕ) (bytes piece : List ℕ)
    → HasMade old middle name slot bytes → WritesPart middle new slot piece
    → (count : ℕ) × HasMade old new name slot (take count (bytes ++ piece))
made-part old middle new name slot bytes piece made part = (
  length bytes + part.count,
  subst (λ (bs : List ℕ). HasMade old new name slot bs) (sym (take-append-add bytes piece part.count))
      (made-writes old middle new name slot bytes (take part.count piece) made part.writes),
)

-- ---- the file is made

-- the header was written
pub made-begun : (old new : Outside) (name : List ℕ) (slot : ℕ) → BeginsFile old new name slot
    → HasMade old new name slot header_bytes
made-begun old new name slot begins =
    made-writes old begins.middle new name slot [] header_bytes (made-empty old begins.middle name slot begins.makes)
    begins.writes

-- or no more than a part of it
pub begun-in_part : (old new : Outside) (name : List ℕ) → BeginsInPart old new name
    → (slot count : ℕ) × HasMade old new name slot (take count header_bytes)
begun-in_part old new name begins =
    let empty : HasMade old begins.middle name begins.slot [] =
    made-empty old begins.middle name begins.slot begins.makes in
    elim begins.part [
      | inl stays ↦ (begins.slot, 0, made-stays old begins.middle new name begins.slot [] empty stays)
      | inr part ↦ (
        begins.slot,
        part.count,
        made-writes old begins.middle new name begins.slot [] (take part.count header_bytes) empty part.writes,
      )
    ]

-- ---- at the end

-- the file is as it was left
pub one-made : (old new : Outside) (name : List ℕ) (slot : ℕ) (bytes : List ℕ) → HasMade old new name slot bytes
    → MakesOneFile old new name
one-made old new name slot bytes made = record {
  faults = made.faults;
  misses = made.misses;
  taken = made.taken;
  slots = inr made.kept;
  given = omega (arith, made.given);
  files = inr (bytes, made.files);
}

-- the file was not made
pub one-unmade : (old new : Outside) (name : List ℕ) → Stays old new → MakesOneFile old new name
one-unmade old new name stays =
    let same : length new.slots ≡ length old.slots = ap length stays.slots in
    record {
      faults = stays.faults;
      misses = stays.misses;
      taken = omega (arith, stays.taken);
      slots = inl (take_all (length old.slots) new.slots (omega (arith, same)) ∙ stays.slots);
      given = omega (arith, same);
      files = inl stays.files;
    }
