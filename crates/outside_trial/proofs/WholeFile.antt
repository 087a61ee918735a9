-- A file that was opened, made and copied.
use Rattle.std.proofs.Common.{◌≡◌, ℕ, List, [], ◌∷◌, ◌++◌, length, take}
use Rattle.std.proofs.Common.{Option, Some, None, option_map, Result, Ok, Err, IfOk, OnErr}
use Rattle.std.proofs.Common.{inl, inr, refl, sym, ap, ◌∙◌, arith, length-take}
use Rattle.frame_outside.specs.Counts.{Rose}
use Rattle.frame_outside.specs.Shelf.{Files, Outside, Source, Target, Opens, Makes, wrote, pass}
use Rattle.frame_outside.specs.Shelf.{beginning, beginning_of, writing_begun, without_slot, reading_at}
use Rattle.frame_outside.specs.Shelf.{writing_at}
use Rattle.frame_outside.specs.Shelf.{files_written, holding}
use Rattle.frame_outside.proofs.Slots.{reading_at-given, reading_at-made, writing_at-made, writing_at-pass}
use Rattle.frame_outside.proofs.Writing.{holding-holding, writing_at-write}
use Rattle.outside_trial.specs.Copying.{Moves, CopiesAll, CopiesFront, CopiesTooMany, IsCopied}
use Rattle.outside_trial.specs.Copying.{KeepsOthers, TakesTooMany}

-- a file was opened, and then that of another name was made
pub record IsReady (first made : Outside) (from to : List ℕ) (source target : ℕ) : Type 0 where
  pub is_held : (files : Files) → first.files ≡ Some files → files from ≡ None → ⊥
  pub opened : Outside
  pub opens : Opens first opened from source
  pub makes : Makes opened made to target

-- the source slot is at the beginning of the file
reading_at-ready : (first made : Outside) (from to : List ℕ) (source target : ℕ) (files : Files)
    (file : List ℕ) → IsReady first made from to source target → first.files ≡ Some files →
    files from ≡ Some file → reading_at made.slots source ≡ Some (beginning file)
reading_at-ready first made from to source target files file ready told held =
    let opened = ready.opened in
    let begun : beginning_of first.files from ≡ Some (beginning file) =
    ap (λ f. beginning_of f from) told ∙ ap (option_map beginning) held in
    ap (λ slots. reading_at slots source) ready.makes.slots
    ∙ reading_at-made to opened.slots (writing_begun opened.files to) source
    ∙ ap (λ slots. reading_at slots source) ready.opens.slots
    ∙ ap (reading_at (first.slots ++ Source (beginning_of first.files from) ∷ [])) ready.opens.number
    ∙ reading_at-given first.slots (beginning_of first.files from) ∙ begun

-- what was moved is held now by the file that was made
holds_moved : (first made last : Outside) (from to : List ℕ) (source target n : ℕ) (files : Files)
    (bytes : List ℕ) → IsReady first made from to source target → first.files ≡ Some files →
    Moves made last source target n bytes → last.files ≡ Some (holding to bytes files)
holds_moved first made last from to source target n files bytes ready told moves =
    let opened = ready.opened in
    let still : opened.files ≡ Some files = ready.opens.files ∙ told in
    let writing : writing_at made.slots target ≡ writing_begun (Some files) to =
    ap (λ slots. writing_at slots target) ready.makes.slots
    ∙ ap (writing_at (without_slot to opened.slots ++ Target (writing_begun opened.files to) ∷ []))
    ready.makes.number
    ∙ writing_at-made to opened.slots (writing_begun opened.files to) ∙ ap (λ f. writing_begun f to) still in
    let empty : made.files ≡ Some (holding to [] files) =
    ready.makes.files ∙ ap (option_map (holding to [])) still in
    let wrote_all : writing_at last.slots target ≡ option_map (wrote bytes) (writing_begun (Some files) to) =
    ap (λ slots. writing_at slots target) moves.slots
    ∙ writing_at-write (pass made.slots source n) target bytes
    ∙ ap (option_map (wrote bytes)) (writing_at-pass made.slots source n target ∙ writing) in
    elim moves.files [
      | inl written ↦ written ∙ ap (λ w. files_written w made.files) wrote_all
          ∙ ap (option_map (holding to bytes)) empty
          ∙ ap Some (holding-holding to [] bytes bytes files refl)
      | inr none ↦ none.1 ∙ empty ∙ ap (λ b. Some (holding to b files)) (sym none.0)
    ]

-- it is a front of the file that was opened
front_of_file : (first made last : Outside) (from to : List ℕ) (source target n : ℕ) (files : Files)
    (file bytes : List ℕ) → IsReady first made from to source target → first.files ≡ Some files →
    files from ≡ Some file → Moves made last source target n bytes → bytes ≡ take (length bytes) file
front_of_file first made last from to source target n files file bytes ready told held moves =
    moves.next (beginning file) (reading_at-ready first made from to source target files file ready told held)

-- each file that was opened is held
by_file : {P : Type 0} (first made : Outside) (from to : List ℕ) (source target : ℕ) (files : Files) →
    IsReady first made from to source target → first.files ≡ Some files →
    ((file : List ℕ) → files from ≡ Some file → P) → P
by_file {P = P} first made from to source target files ready told held = by (files from) refl
  where
    by : (file : Option (List ℕ)) → files from ≡ file → P
    by None missing = absurd (ready.is_held files told missing)
    by (Some file) is = held file is

-- all of it was copied
pub file_copied : (first made last : Outside) (from to : List ℕ) (source target n : ℕ) (files : Files) →
    IsReady first made from to source target → first.files ≡ Some files →
    CopiesAll made last source target n → IsCopied files last.files from to n
file_copied first made last from to source target n files ready told copies =
    by_file first made from to source target files ready told (λ file held.
    let same : copies.bytes ≡ file =
    copies.all (beginning file) (reading_at-ready first made from to source target files file ready told
    held) in
    record {
      bytes = file;
      held = held;
      count = sym (ap length same) ∙ copies.count;
      copied = holds_moved first made last from to source target n files copies.bytes ready told copies.moves
          ∙ ap (λ b. Some (holding to b files)) same;
    })

-- a front of it was copied
pub file_copied_in_part : (first made last : Outside) (from to : List ℕ) (source target : ℕ) →
    IsReady first made from to source target → CopiesFront made last source target →
    KeepsOthers first last from to
file_copied_in_part first made last from to source target ready copies = λ files told.
    by_file first made from to source target files ready told (λ file held.
    let front : copies.bytes ≡ take (length copies.bytes) file =
    front_of_file first made last from to source target copies.count files file copies.bytes ready told held
    copies.moves in
    inr (record {
      bytes = file;
      count = length copies.bytes;
      held = held;
      copied = holds_moved first made last from to source target copies.count files copies.bytes ready told
          copies.moves
          ∙ ap (λ b. Some (holding to b files)) front;
    }))

-- more of it was copied than can be counted
pub file_too_long : (first made last : Outside) (from to : List ℕ) (source target : ℕ) →
    IsReady first made from to source target → CopiesTooMany made last source target →
    TakesTooMany first last from
file_too_long first made last from to source target ready copies = record {
  taken = omega (arith, copies.moves.taken, copies.moves.front, copies.many);
  held = λ files told.
      by_file first made from to source target files ready told (λ file held.
      let front : copies.bytes ≡ take (length copies.bytes) file =
      front_of_file first made last from to source target copies.count files file copies.bytes ready told
      held copies.moves in
      let size : length copies.bytes ≡ length (take (length copies.bytes) file) = ap length front in
      record {
        bytes = file;
        held = held;
        many = omega (arith, copies.many, size, length-take (length copies.bytes) file);
      });
}

-- a fault that was counted since the file was made was counted since it was opened
pub rose_before : (first made : Outside) (from to : List ℕ) (source target last : ℕ) →
    IsReady first made from to source target → Rose made.faults last → Rose first.faults last
rose_before first made from to source target last ready rose =
    omega (arith, ready.opens.faults, ready.makes.faults, rose)

pub if_ok : {T E : Type 0} (P Q : T → Type 0) (r : Result T E) → ((value : T) → P value → Q value) →
    IfOk r P → IfOk r Q
if_ok P Q (Ok value) implies p = implies value p
if_ok P Q (Err error) implies p = tt

pub if_err : {T E : Type 0} (P Q : Type 0) (r : Result T E) → (P → Q) → OnErr r P → OnErr r Q
if_err P Q (Ok value) implies p = tt
if_err P Q (Err error) implies p = implies p
