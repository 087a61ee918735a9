-- The file that a dump reads: a slot is opened on it, and nothing else is drawn from.
use Rattle.std.proofs.Common.{◌≡◌, ℕ, ◌+◌, List, [], ◌∷◌, ◌++◌, Option, Some, None, length, take, refl, sym, ap}
use Rattle.std.proofs.Common.{subst, ◌∙◌, arith, length-append}
use Rattle.std.proofs.lemmas.List.{take-append-le, take_all}
use Rattle.std.proofs.lemmas.Option.{none-some, same_Some}
use Rattle.std.specs.Option.{option_map, option_and_then}
use Rattle.frame_outside.specs.Shelf.{Outside, Files, Reading, Slot, Source, Told, Passes, Opens, reading_at}
use Rattle.frame_outside.specs.Shelf.{reading_past}
use Rattle.frame_outside.specs.Shelf.{slot_passed, pass, beginning, beginning_of}
use Rattle.frame_outside.specs.SlotReader.{Draws}
use Rattle.frame_outside.proofs.Slots.{reading_at-pass, reading_at-given, pass-given}
use Rattle.frame_outside.proofs.Reading.{passes_none, passes_more}
use Rattle.item_reader.specs.Reader.{file_of}
use Rattle.dumper.specs.Due.{ReadsOneFile}

-- ---- draws

-- no byte was drawn
pub draws-none : (o : Outside) (slot : ℕ) → Draws o o slot
draws-none o slot = record { drawn = 0; passes = passes_none o slot }

-- two draws of one slot are one
pub draws-more : (first middle last : Outside) (slot same : ℕ) → Draws first middle slot → same ≡ slot
    → Draws middle last same → Draws first last slot
draws-more first middle last slot same p is q =
    let passes : Passes middle last slot q.drawn = subst (λ (n : ℕ). Passes middle last n q.drawn) is q.passes in
    record {
      drawn = p.drawn + q.drawn;
      passes = passes_more first middle last slot p.drawn q.drawn p.passes passes;
    }

opened-passed : (n : ℕ) (told : Option Reading)
    → option_map (λ (reading : Reading). reading.opened) (option_map (reading_past n) told)
    ≡ option_map (λ (reading : Reading). reading.opened) told
opened-passed n None = refl
opened-passed n (Some reading) = refl

-- a slot stays that of the same file
pub file-drawn : (old new : Outside) (slot : ℕ) → Draws old new slot → file_of new slot ≡ file_of old slot
file-drawn old new slot draws =
    ap (λ slots. option_map (λ (reading : Reading). reading.opened) (reading_at slots slot)) draws.passes.slots
    ∙ ap (option_map (λ (reading : Reading). reading.opened)) (reading_at-pass old.slots slot draws.drawn)
    ∙ opened-passed draws.drawn (reading_at old.slots slot)

-- what is told of the file before a draw is told after it
pub told-drawn : (old new : Outside) (slot same : ℕ) (file : List ℕ) → Draws old new slot → same ≡ slot
    → file_of old slot ≡ Some file → file_of new same ≡ Some file
told-drawn old new slot same file draws is told = ap (file_of new) is ∙ file-drawn old new slot draws ∙ told

-- ---- a file that is opened

-- it stands at the beginning of the file of its name
given-reading : (old new : Outside) (name : List ℕ) (slot : ℕ) → Opens old new name slot
    → reading_at new.slots slot ≡ beginning_of old.files name
given-reading old new name slot opens =
    let given : Slot = Source (beginning_of old.files name) in
    ap (λ slots. reading_at slots slot) opens.slots ∙ ap (reading_at (old.slots ++ given ∷ [])) opens.number
    ∙ reading_at-given old.slots (beginning_of old.files name)

at-beginning : (held : Option (List ℕ)) (reading : Reading) → option_map beginning held ≡ Some reading → reading.at ≡ 0
at-beginning None reading is = absurd (none-some reading is)
at-beginning (Some bytes) reading is = ap (λ (r : Reading). r.at) (sym (same_Some (beginning bytes) reading is))

pub opened-beginning : (old new : Outside) (name : List ℕ) (slot : ℕ) → Opens old new name slot
    → Told (reading_at new.slots slot) (λ reading. reading.at ≡ 0)
opened-beginning old new name slot opens = λ reading told.
    at-beginning (option_and_then (λ held. held name) old.files) reading
    (sym (given-reading old new name slot opens) ∙ told)

-- which holds these bytes
pub opened-file : (files : Files) (old new : Outside) (name file : List ℕ) (slot : ℕ) → Opens old new name slot
    → old.files ≡ Some files → files name ≡ Some file → file_of new slot ≡ Some file
opened-file files old new name file slot opens told held =
    ap (option_map (λ (r : Reading). r.opened))
    (given-reading old new name slot opens ∙ ap (λ told. beginning_of told name) told ∙ ap (option_map beginning) held)

-- Nothing of the shelf changed but a slot that was opened, and drawn from.
pub reads-one : (old middle last : Outside) (name : List ℕ) (slot : ℕ) → Opens old middle name slot
    → Draws middle last slot → ReadsOneFile old last name
reads-one old middle last name slot opens draws =
    let drawn : last.slots ≡ old.slots ++ slot_passed draws.drawn (Source (beginning_of old.files name)) ∷ [] =
    draws.passes.slots ∙ ap (λ slots. pass slots slot draws.drawn) opens.slots
    ∙ ap (λ n. pass (old.slots ++ Source (beginning_of old.files name) ∷ []) n draws.drawn) opens.number
    ∙ pass-given old.slots (Source (beginning_of old.files name)) draws.drawn in
    record {
      faults = omega (arith, opens.faults, draws.passes.faults);
      misses = omega (arith, opens.misses, draws.passes.misses);
      missed = λ _ _ _. draws.passes.misses ∙ opens.misses;
      slots = ap (take (length old.slots)) drawn
          ∙ take-append-le (length old.slots) old.slots
          (slot_passed draws.drawn (Source (beginning_of old.files name)) ∷ []) (omega arith)
          ∙ take_all (length old.slots) old.slots (omega arith);
      given = omega (
        arith,
        ap length drawn,
        length-append old.slots (slot_passed draws.drawn (Source (beginning_of old.files name)) ∷ []),
      );
      files = draws.passes.files ∙ opens.files;
    }
