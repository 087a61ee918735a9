-- What reads at places do: they hand out bytes, and leave what is to come. Crates that make several cite
-- these.
use Rattle.std.proofs.Common.{◌≡◌, ℕ, ◌+◌, refl, sym, ap, ◌∙◌, arith}
use Rattle.frame_outside.specs.Counts.{counted_by}
use Rattle.frame_outside.specs.Shelf.{Outside, HandsOut, reading_at}
use Rattle.frame_outside.specs.SlotReader.{Buffered, to_come}
use Rattle.frame_outside.proofs.Counting.{counted_by-zero, counted_by-counted_by}

-- nothing is handed out
pub hands_out_none : (outside : Outside) → HandsOut outside outside 0
hands_out_none outside = record {
  faults = omega arith;
  misses = refl;
  taken = sym (counted_by-zero outside.taken);
  slots = refl;
  files = refl;
}

-- two hand out what one does
pub hands_out_more : (first middle last : Outside) (n m : ℕ) → HandsOut first middle n →
    HandsOut middle last m → HandsOut first last (n + m)
hands_out_more first middle last n m p q = record {
  faults = omega (arith, p.faults, q.faults);
  misses = q.misses ∙ p.misses;
  taken = q.taken ∙ ap (λ count. counted_by count m) p.taken ∙ counted_by-counted_by first.taken n m;
  slots = q.slots ∙ p.slots;
  files = q.files ∙ p.files;
}

-- what a slot has left, and what is to come of a reader, stays
pub hands_out_left : (old new : Outside) (n slot : ℕ) → HandsOut old new n →
    reading_at new.slots slot ≡ reading_at old.slots slot
hands_out_left old new n slot p = ap (λ slots. reading_at slots slot) p.slots

pub hands_out_to_come : (old new : Outside) (n : ℕ) (reader : Buffered) → HandsOut old new n →
    to_come new reader ≡ to_come old reader
hands_out_to_come old new n reader p =
    ap
    (λ slots. to_come (record {
      faults = new.faults;
      misses = new.misses;
      taken = new.taken;
      slots = slots;
      files = new.files;
    }) reader) p.slots
