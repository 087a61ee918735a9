-- A shelf of which only bytes are drawn: what stays of it, and how often it failed.
use Rattle.std.proofs.Common.{◌≡◌, ℕ, zero, suc, ◌≤◌, List, [], ◌∷◌, length, take, Option, Some, None, refl, sym, ap}
use Rattle.std.proofs.Common.{◌∙◌, subst, arith}
use Rattle.std.specs.Option.{option_map}
use Rattle.frame_outside.specs.Counts.{Rose}
use Rattle.frame_outside.specs.Shelf.{Outside, Reading, Slot, Source, Target, reading_at, pass}
use Rattle.frame_outside.specs.SlotReader.{Draws}
use Rattle.frame_outside.proofs.Slots.{length-pass}
use Rattle.structure_source.specs.Source.{GoesOn}
use Rattle.item_reader.specs.Reader.{Reader, Reads, file_of}
use Rattle.item_reader.proofs.ReadsStay.{reads-passes}
use Rattle.content_compare.specs.Sides.{OnlyDraws, ReadOn}

-- the first slots, once one after them gave bytes
take-pass : (n : ℕ) (slots : List Slot) (slot given : ℕ) → n ≤ slot → take n (pass slots slot given) ≡ take n slots
take-pass zero slots slot given few = refl
take-pass (suc n) [] slot given few = refl
take-pass (suc n) (first ∷ others) zero given few = absurd (omega arith)
take-pass (suc n) (first ∷ others) (suc slot) given few =
    let less : n ≤ slot = omega arith in
    ap (λ ss. first ∷ ss) (take-pass n others slot given less)

opened : Option Reading → Option (List ℕ)
opened told = option_map (λ (reading : Reading). reading.opened) told

-- what each slot was opened on, once one gave bytes
opened-pass : (slots : List Slot) (slot n other : ℕ)
    → opened (reading_at (pass slots slot n) other) ≡ opened (reading_at slots other)
unfolding opened
opened-pass [] slot n other = refl
opened-pass (Source None ∷ others) zero n zero = refl
opened-pass (Source (Some reading) ∷ others) zero n zero = refl
opened-pass (Target writing ∷ others) zero n zero = refl
opened-pass (first ∷ others) zero n (suc other) = refl
opened-pass (first ∷ others) (suc slot) n zero = refl
opened-pass (first ∷ others) (suc slot) n (suc other) = opened-pass others slot n other

-- the file of each slot stays
pub file-stays : (old new : Outside) (slot other : ℕ) → Draws old new slot → file_of new other ≡ file_of old other
unfolding opened
file-stays old new slot other draws =
    ap (λ slots. opened (reading_at slots other)) draws.passes.slots ∙ opened-pass old.slots slot draws.drawn other

pub draws-only : (old new : Outside) (slot from : ℕ) → Draws old new slot → from ≤ slot → OnlyDraws old new from
draws-only old new slot from draws few = record {
  faults = draws.passes.faults;
  misses = draws.passes.misses;
  slots = ap (take from) draws.passes.slots ∙ take-pass from old.slots slot draws.drawn few;
  given = ap length draws.passes.slots ∙ length-pass old.slots slot draws.drawn;
  files = draws.passes.files;
  opened = λ other. file-stays old new slot other draws;
}

pub only-none : (o : Outside) (from : ℕ) → OnlyDraws o o from
only-none o from = record {
  faults = omega arith;
  misses = refl;
  slots = refl;
  given = refl;
  files = refl;
  opened = λ slot. refl;
}

pub only-more : (first middle last : Outside) (from : ℕ) → OnlyDraws first middle from → OnlyDraws middle last from
    → OnlyDraws first last from
only-more first middle last from one two = record {
  faults = omega (arith, one.faults, two.faults);
  misses = two.misses ∙ one.misses;
  slots = two.slots ∙ one.slots;
  given = two.given ∙ one.given;
  files = two.files ∙ one.files;
  opened = λ slot. two.opened slot ∙ one.opened slot;
}

-- a count that rose since then rose since before
pub rose-before : (old middle new : ℕ) → old ≤ middle → Rose middle new → Rose old new
rose-before old middle new before rose = omega (arith, before, rose)

-- and before a later end
pub rose-after : (old middle new : ℕ) → Rose old middle → middle ≤ new → Rose old new
rose-after old middle new rose after = omega (arith, rose, after)

-- ---- two readers

pub read-none : (o : Outside) (r s : Reader) → Reads o r → Reads o s → ReadOn o o r s r s
read-none o r s first second = record {
  first = first;
  second = second;
  first_slot = refl;
  second_slot = refl;
  draws = λ from few also. only-none o from;
}

pub read-more : (one two three : Outside) (r s q p now_r now_s : Reader) → ReadOn one two r s q p
    → ReadOn two three q p now_r now_s → ReadOn one three r s now_r now_s
read-more one two three r s q p now_r now_s on more = record {
  first = more.first;
  second = more.second;
  first_slot = more.first_slot ∙ on.first_slot;
  second_slot = more.second_slot ∙ on.second_slot;
  draws = λ from few also.
      let before : from ≤ q.position.slot = subst (λ n. from ≤ n) (sym on.first_slot) few in
      let too : from ≤ p.position.slot = subst (λ n. from ≤ n) (sym on.second_slot) also in
      only-more one two three from (on.draws from few also) (more.draws from before too);
}

-- the first reads on alone
pub read-first : (old new : Outside) (r s q : Reader) → GoesOn old new r.position q.position → Reads new q
    → Reads old s → (r.position.slot ≡ s.position.slot → ⊥) → ReadOn old new r s q s
read-first old new r s q goes reads stays apart = record {
  first = reads;
  second = reads-passes old new r.position.slot goes.draws.drawn s (λ same. apart (sym same)) goes.draws.passes stays;
  first_slot = goes.slot;
  second_slot = refl;
  draws = λ from few also. draws-only old new r.position.slot from goes.draws few;
}

-- or the second
pub read-second : (old new : Outside) (r s p : Reader) → GoesOn old new s.position p.position → Reads new p
    → Reads old r → (r.position.slot ≡ s.position.slot → ⊥) → ReadOn old new r s r p
read-second old new r s p goes reads stays apart = record {
  first = reads-passes old new s.position.slot goes.draws.drawn r apart goes.draws.passes stays;
  second = reads;
  first_slot = refl;
  second_slot = goes.slot;
  draws = λ from few also. draws-only old new s.position.slot from goes.draws also;
}

-- the readers stay apart
pub stay-apart : (old new : Outside) (r s q p : Reader) → ReadOn old new r s q p
    → (r.position.slot ≡ s.position.slot → ⊥) → q.position.slot ≡ p.position.slot → ⊥
stay-apart old new r s q p on apart same = apart (sym on.first_slot ∙ same ∙ on.second_slot)

-- the first, and then the second
pub read-both : (one two three : Outside) (r s q p : Reader) → GoesOn one two r.position q.position → Reads two q
    → GoesOn two three s.position p.position → Reads three p → Reads one s
    → (r.position.slot ≡ s.position.slot → ⊥) → ReadOn one three r s q p
read-both one two three r s q p goes reads also too stays apart =
    let one_read : ReadOn one two r s q s = read-first one two r s q goes reads stays apart in
    read-more one two three r s q s q p one_read
    (read-second two three q s p also too reads (λ same. apart (sym goes.slot ∙ same)))

-- and the first again
pub read-back : (one two three : Outside) (r s q p now : Reader) → ReadOn one two r s q p
    → GoesOn two three q.position now.position → Reads three now → (r.position.slot ≡ s.position.slot → ⊥)
    → ReadOn one three r s now p
read-back one two three r s q p now on goes reads apart =
    read-more one two three r s q p now p on
    (read-first two three q p now goes reads on.second (stay-apart one two r s q p on apart))

-- or the second
pub read-also : (one two three : Outside) (r s q p now : Reader) → ReadOn one two r s q p
    → GoesOn two three p.position now.position → Reads three now → (r.position.slot ≡ s.position.slot → ⊥)
    → ReadOn one three r s q now
read-also one two three r s q p now on goes reads apart =
    read-more one two three r s q p q now on
    (read-second two three q p now goes reads on.first (stay-apart one two r s q p on apart))

-- the files of both stay
pub told-first : (old new : Outside) (r s q p : Reader) (file : List ℕ) → ReadOn old new r s q p
    → file_of old r.position.slot ≡ Some file → file_of new q.position.slot ≡ Some file
told-first old new r s q p file on told =
    let only : OnlyDraws old new 0 = on.draws 0 (omega arith) (omega arith) in
    ap (file_of new) on.first_slot ∙ only.opened r.position.slot ∙ told

pub told-second : (old new : Outside) (r s q p : Reader) (file : List ℕ) → ReadOn old new r s q p
    → file_of old s.position.slot ≡ Some file → file_of new p.position.slot ≡ Some file
told-second old new r s q p file on told =
    let only : OnlyDraws old new 0 = on.draws 0 (omega arith) (omega arith) in
    ap (file_of new) on.second_slot ∙ only.opened s.position.slot ∙ told
