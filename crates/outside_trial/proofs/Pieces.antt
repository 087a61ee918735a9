-- Copying by pieces is copying at once.
use Rattle.std.proofs.Common.{◌≡◌, ℕ, zero, suc, ◌+◌, ◌^◌, ◌<◌, ◌≤◌, inl, inr, List, [], ◌∷◌, ◌++◌, length}
use Rattle.std.proofs.Common.{take, drop, Some, None, Result, Err, option_map, refl, sym, ap, ◌∙◌, subst}
use Rattle.std.proofs.Common.{arith, append-nil, add-zero, length-append, length-take, length-drop}
use Rattle.std.proofs.lemmas.List.{drop-drop, take-take, take_all}
use Rattle.std.proofs.Math.Seq.{take-add, take-length}
use Rattle.frame_outside.specs.Counts.{Rose}
use Rattle.frame_outside.specs.declared.traits.ShelfError.{ShelfError}
use Rattle.frame_outside.specs.declared.traits.ShelfError.TheVariants.{Failed, NoMemory}
use Rattle.frame_outside.specs.Shelf.{Outside, Slot, Source, Target, Told, IsSource, IsTarget, Passes}
use Rattle.frame_outside.specs.Shelf.{Gives, HandsOut, Writes, WritesPart, left_of, reading_past, pass}
use Rattle.frame_outside.specs.Shelf.{slot_wrote, write, reading_at, writing_at, files_written}
use Rattle.frame_outside.proofs.Slots.{pass-zero, pass-pass, reading_at-pass, reading_at-write}
use Rattle.frame_outside.proofs.Slots.{writing_at-pass, write-pass, IsSource-pass, IsTarget-pass}
use Rattle.frame_outside.proofs.Slots.{IsSource-write, IsTarget-write}
use Rattle.frame_outside.proofs.Writing.{writes_more, write-write}
use Rattle.frame_outside.proofs.Reading.{passes_none, passes_more}
use Rattle.outside_trial.specs.Copying.{Moves, CopiesAll, CopiesFront, CopiesTooMany}

slot_wrote-none : (slot : Slot) → slot_wrote [] slot ≡ slot
slot_wrote-none (Source reading) = refl
slot_wrote-none (Target None) = refl
slot_wrote-none (Target (Some writing)) =
    ap (λ (bytes : List ℕ). Target (Some (record { written = bytes; name = writing.name })))
    (append-nil writing.written)

write-none : (slots : List Slot) (slot : ℕ) → write slots slot [] ≡ slots
write-none [] slot = refl
write-none (first ∷ others) zero = ap (λ s. s ∷ others) (slot_wrote-none first)
write-none (first ∷ others) (suc slot) = ap (λ ss. first ∷ ss) (write-none others slot)

take-own : (n : ℕ) (xs : List ℕ) → take n xs ≡ take (length (take n xs)) xs
take-own zero xs = refl
take-own (suc n) [] = refl
take-own (suc n) (x ∷ xs) = ap (λ others. x ∷ others) (take-own n xs)

front_of : (n : ℕ) (xs : List ℕ) → take n xs ≡ take (length (take n xs)) (take n xs)
front_of n xs = sym (take-length (take n xs))

-- nothing is copied
moves_none : (outside : Outside) (from to : ℕ) → Moves outside outside from to 0 []
moves_none outside from to = record {
  faults = omega arith;
  misses = refl;
  taken = (passes_none outside from).taken;
  slots = sym (ap (λ slots. write slots to []) (pass-zero outside.slots from) ∙ write-none outside.slots to);
  files = inr (refl, refl);
  within = λ _ _. omega arith;
  front = omega arith;
  next = λ _ _. refl;
}

-- what is told of the source slot
reading_at-moves : (old new : Outside) (from to n : ℕ) (bytes : List ℕ) → Moves old new from to n bytes →
    reading_at new.slots from ≡ option_map (reading_past n) (reading_at old.slots from)
reading_at-moves old new from to n bytes moves =
    ap (λ slots. reading_at slots from) moves.slots ∙ reading_at-write (pass old.slots from n) to bytes from
    ∙ reading_at-pass old.slots from n

-- and then m bytes more were taken
moves_taken : (first middle last : Outside) (from to n m : ℕ) (bytes : List ℕ) →
    Moves first middle from to n bytes → Passes middle last from m → Moves first last from to (n + m) bytes
moves_taken first middle last from to n m bytes p q =
    let half : Outside = record {
      faults = middle.faults;
      misses = middle.misses;
      taken = middle.taken;
      slots = pass first.slots from n;
      files = first.files;
    } in
    let whole : Outside = record {
      faults = last.faults;
      misses = last.misses;
      taken = last.taken;
      slots = pass half.slots from m;
      files = first.files;
    } in
    let before : Passes first half from n =
    record {
      faults = p.faults;
      misses = p.misses;
      taken = p.taken;
      slots = refl;
      files = refl;
      within = p.within;
    } in
    let same : reading_at middle.slots from ≡ reading_at half.slots from =
    ap (λ slots. reading_at slots from) p.slots ∙ reading_at-write (pass first.slots from n) to bytes from in
    let after : Passes half whole from m =
    record {
      faults = q.faults;
      misses = q.misses;
      taken = q.taken;
      slots = refl;
      files = refl;
      within = λ reading told. q.within reading (same ∙ told);
    } in
    let both : Passes first whole from (n + m) = passes_more first half whole from n m before after in
    let kept : writing_at middle.slots to ≡ writing_at last.slots to =
    sym (ap (λ slots. writing_at slots to) q.slots ∙ writing_at-pass middle.slots from m to) in
    record {
      faults = both.faults;
      misses = both.misses;
      taken = both.taken;
      slots = q.slots ∙ ap (λ slots. pass slots from m) p.slots
          ∙ sym (write-pass (pass first.slots from n) from m to bytes)
          ∙ ap (λ slots. write slots to bytes) (pass-pass first.slots from n m);
      files = elim p.files [
        | inl written ↦ inl (q.files ∙ written ∙ ap (λ writing. files_written writing first.files) kept)
        | inr none ↦ inr (none.0, q.files ∙ none.1)
      ];
      within = both.within;
      front = omega (arith, p.front);
      next = p.next;
    }

-- and then nothing was done
moves_kept : (first middle last : Outside) (from to n : ℕ) (bytes : List ℕ) →
    Moves first middle from to n bytes → HandsOut middle last 0 → Moves first last from to n bytes
moves_kept first middle last from to n bytes p q =
    let passes : Passes middle last from 0 =
    record {
      faults = q.faults;
      misses = q.misses;
      taken = q.taken;
      slots = q.slots ∙ sym (pass-zero middle.slots from);
      files = q.files;
      within = λ _ _. omega arith;
    } in
    let P : ℕ → Type 0 = λ k. Moves first last from to k bytes in
    subst P (add-zero n) (moves_taken first middle last from to n 0 bytes p passes)

-- and then the next bytes were written
moves_put : (first middle last : Outside) (from to n : ℕ) (bytes piece : List ℕ) →
    Moves first middle from to n bytes → Writes middle last to piece →
    length bytes + length piece ≤ n → Told (reading_at first.slots from)
    (λ reading. bytes ++ piece ≡ take (length (bytes ++ piece)) (left_of reading)) →
    Moves first last from to n (bytes ++ piece)
moves_put first middle last from to n bytes piece p q front next =
    let half : Outside = record {
      faults = first.faults;
      misses = middle.misses;
      taken = middle.taken;
      slots = pass first.slots from n;
      files = first.files;
    } in
    record {
      faults = omega (arith, p.faults, q.faults);
      misses = q.misses ∙ p.misses;
      taken = q.taken ∙ p.taken;
      slots = q.slots ∙ ap (λ slots. write slots to piece) p.slots
          ∙ write-write (pass first.slots from n) to bytes piece;
      files = elim p.files [
        | inl written ↦ inl (writes_more half middle last to bytes piece
            (record { faults = p.faults; misses = refl; taken = refl; slots = p.slots; files = written })
            q).files
        | inr none ↦ inl (q.files ∙ ap (files_written (writing_at last.slots to)) none.1)
      ];
      within = p.within;
      front = omega (arith, length-append bytes piece, front);
      next = next;
    }

-- the front of what was given is the next of what was left
next_more : (first middle : Outside) (from to n m : ℕ) (bytes into piece : List ℕ) →
    Moves first middle from to n bytes → length bytes ≡ n → Gives middle from m into →
    length piece ≤ m → piece ≡ take (length piece) (take m into) →
    Told (reading_at first.slots from)
    (λ reading. bytes ++ piece ≡ take (length (bytes ++ piece)) (left_of reading))
next_more first middle from to n m bytes into piece moves count gives short is reading told =
    let moved : reading_at middle.slots from ≡ Some (reading_past n reading) =
    reading_at-moves first middle from to n bytes moves ∙ ap (option_map (reading_past n)) told in
    let given : take m into ≡ take m (drop (reading.at + n) reading.opened) =
    gives.bytes (reading_past n reading) moved in
    let later : drop n (left_of reading) ≡ drop (reading.at + n) reading.opened =
    drop-drop n reading.at reading.opened in
    let piece_is : piece ≡ take (length piece) (drop n (left_of reading)) =
    is ∙ ap (take (length piece)) given
    ∙ take-take (length piece) m (drop (reading.at + n) reading.opened) short
    ∙ ap (take (length piece)) (sym later) in
    let bytes_are : bytes ≡ take n (left_of reading) =
    moves.next reading told ∙ ap (λ k. take k (left_of reading)) count in
    let whole : length (bytes ++ piece) ≡ n + length piece =
    omega (arith, length-append bytes piece, count) in
    ap (λ front. front ++ piece) bytes_are ∙ ap (λ back. take n (left_of reading) ++ back) piece_is
    ∙ sym (take-add n (length piece) (left_of reading)) ∙ ap (λ k. take k (left_of reading)) (sym whole)

-- copying on its way: all n bytes that were given were written
pub record HasCopied (first now : Outside) (from to n : ℕ) : Type 0 where
  pub source : IsSource now.slots from
  pub target : IsTarget now.slots to
  pub bytes : List ℕ
  pub count : length bytes ≡ n
  pub moves : Moves first now from to n bytes

pub copied_none : (outside : Outside) (from to : ℕ) → IsSource outside.slots from →
    IsTarget outside.slots to → HasCopied outside outside from to 0
copied_none outside from to source target =
    record { source = source; target = target; bytes = []; count = refl; moves = moves_none outside from to }

pub IsTarget-passes : (old new : Outside) (slot n other : ℕ) → Passes old new slot n →
    IsTarget old.slots other → IsTarget new.slots other
IsTarget-passes old new slot n other passes target =
    subst (λ slots. IsTarget slots other) (sym passes.slots) (IsTarget-pass old.slots slot n other target)

-- a piece was given and written
pub copied_more : (first middle ready last : Outside) (from to n m : ℕ) (into : List ℕ) →
    HasCopied first middle from to n → Passes middle ready from m → Gives middle from m into →
    m ≤ length into → Writes ready last to (take m into) → HasCopied first last from to (n + m)
copied_more first middle ready last from to n m into copied passes gives room writes =
    let size : length (take m into) ≡ m = omega (arith, length-take m into) in
    let next = next_more first middle from to n m copied.bytes into (take m into) copied.moves copied.count
    gives (omega (arith, size)) (front_of m into) in
    record {
      source = subst (λ slots. IsSource slots from) (sym writes.slots)
          (IsSource-write ready.slots to (take m into) from
          (subst (λ slots. IsSource slots from) (sym passes.slots)
          (IsSource-pass middle.slots from m from copied.source)));
      target = subst (λ slots. IsTarget slots to) (sym writes.slots)
          (IsTarget-write ready.slots to (take m into) to
          (IsTarget-passes middle ready from m to passes copied.target));
      bytes = copied.bytes ++ take m into;
      count = omega (arith, length-append copied.bytes (take m into), size, copied.count);
      moves = moves_put first ready last from to (n + m) copied.bytes (take m into)
          (moves_taken first middle ready from to n m copied.bytes copied.moves passes) writes
          (omega (arith, size, copied.count)) next;
    }

-- nothing was left
pub copied_all : (first middle last : Outside) (from to n m : ℕ) (into : List ℕ) →
    HasCopied first middle from to n → Passes middle last from m → Gives middle from m into →
    0 < length into → m ≡ 0 → CopiesAll first last from to n
copied_all first middle last from to n m into copied passes gives room none =
    let P : ℕ → Type 0 = λ k. Moves first last from to k copied.bytes in
    let same : n + m ≡ n = omega arith in
    record {
      bytes = copied.bytes;
      count = copied.count;
      moves = subst P same (moves_taken first middle last from to n m copied.bytes copied.moves passes);
      all = λ reading told.
          let moved : reading_at middle.slots from ≡ Some (reading_past n reading) =
          reading_at-moves first middle from to n copied.bytes copied.moves
          ∙ ap (option_map (reading_past n)) told in
          let past : length reading.opened ≤ reading.at + n = gives.end none room (reading_past n reading) moved in
          copied.moves.next reading told
          ∙ take_all (length copied.bytes) (left_of reading)
          (omega (arith, past, copied.count, length-drop reading.at reading.opened));
    }

-- the refusals

pub front_so_far : (first last : Outside) (from to n : ℕ) → HasCopied first last from to n →
    CopiesFront first last from to
front_so_far first last from to n copied = record { count = n; bytes = copied.bytes; moves = copied.moves }

pub front_no_take : (first middle last : Outside) (from to n : ℕ) → HasCopied first middle from to n →
    Passes middle last from 0 → CopiesFront first last from to
front_no_take first middle last from to n copied passes =
    record {
      count = n + 0;
      bytes = copied.bytes;
      moves = moves_taken first middle last from to n 0 copied.bytes copied.moves passes;
    }

pub front_no_memory : (first middle ready last : Outside) (from to n m : ℕ) →
    HasCopied first middle from to n → Passes middle ready from m → HandsOut ready last 0 →
    CopiesFront first last from to
front_no_memory first middle ready last from to n m copied passes kept =
    record {
      count = n + m;
      bytes = copied.bytes;
      moves = moves_kept first ready last from to (n + m) copied.bytes
          (moves_taken first middle ready from to n m copied.bytes copied.moves passes) kept;
    }

pub front_no_put : (first middle ready last : Outside) (from to n m : ℕ) (into : List ℕ) →
    HasCopied first middle from to n → Passes middle ready from m → Gives middle from m into →
    m ≤ length into → WritesPart ready last to (take m into) → CopiesFront first last from to
front_no_put first middle ready last from to n m into copied passes gives room part =
    let piece : List ℕ = take part.count (take m into) in
    let size : length piece ≤ m = omega (arith, length-take part.count (take m into), length-take m into) in
    let is : piece ≡ take (length piece) (take m into) = take-own part.count (take m into) in
    let next = next_more first middle from to n m copied.bytes into piece copied.moves copied.count gives
    size is in
    record {
      count = n + m;
      bytes = copied.bytes ++ piece;
      moves = moves_put first ready last from to (n + m) copied.bytes piece
          (moves_taken first middle ready from to n m copied.bytes copied.moves passes) part.writes
          (omega (arith, size, copied.count)) next;
    }

pub too_many : (first last : Outside) (from to n : ℕ) → HasCopied first last from to n → 2 ^ 64 ≤ n →
    CopiesTooMany first last from to
too_many first last from to n copied many =
    record { count = n; bytes = copied.bytes; moves = copied.moves; many = omega (arith, many, copied.count) }

-- each error of a call of the shelf
pub by_error : {T P : Type 0} (r : Result T ShelfError) (error : ShelfError) → r ≡ Err error →
    (r ≡ Err Failed → P) → (r ≡ Err NoMemory → P) → P
by_error r Failed is failed none = failed is
by_error r NoMemory is failed none = none is

-- a fault that was counted in the last call was counted in all of them
pub rose_since : (first middle ready last : Outside) (from to n m : ℕ) → HasCopied first middle from to n →
    Passes middle ready from m → Rose ready.faults last.faults → Rose first.faults last.faults
rose_since first middle ready last from to n m copied passes rose =
    rose_below first.faults ready.faults last.faults (omega (arith, copied.moves.faults, passes.faults)) rose
  where
    rose_below : (a b c : ℕ) → a ≤ b → Rose b c → Rose a c
    rose_below a b c h rose = omega arith

pub front_none : (outside : Outside) (from to : ℕ) → CopiesFront outside outside from to
front_none outside from to = record { count = 0; bytes = []; moves = moves_none outside from to }
