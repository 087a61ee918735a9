-- A shelf of which slots are written: what is read of it, and what its other slots are.
use Rattle.std.proofs.Common.{ℕ, List, take, Result, Ok, Err, refl, sym, ap, subst, ◌∙◌, arith}
use Rattle.std.specs.Option.{option_map}
use Rattle.frame_outside.specs.Shelf.{Outside, Reading, IsTarget, Writes, reading_at}
use Rattle.frame_outside.specs.SlotReader.{Draws}
use Rattle.frame_outside.proofs.Slots.{IsTarget-pass, IsTarget-write, reading_at-write}
use Rattle.item_reader.proofs.ReadsStay.{reads-writes, reads-hands_out}
use Rattle.canonical_writer.specs.declared.errors.WriteError.{WriteError}
use Rattle.canonical_writer.specs.declared.errors.WriteError.TheVariants as write
use Rattle.canonical_writer.specs.Writer.{Stays, Puts}
use Rattle.splicer.specs.Put.{OnlyWrites}

-- bytes of a slot were drawn
pub target-drawn : (old new : Outside) (read slot : ℕ) → Draws old new read → IsTarget old.slots slot
    → IsTarget new.slots slot
target-drawn old new read slot draws target =
    subst (λ slots. IsTarget slots slot) (sym draws.passes.slots)
    (IsTarget-pass old.slots read draws.drawn slot target)

-- nothing was written
pub only-none : (o : Outside) → OnlyWrites o o
only-none o = record {
  reads = λ r reads. reads;
  targets = λ slot target. target;
  files = λ slot. refl;
  faults = omega arith;
  taken = refl;
}

only-stays : (old new : Outside) → Stays old new → OnlyWrites old new
only-stays old new stays = record {
  reads = λ r reads. reads-hands_out old new 0 r stays reads;
  targets = λ slot target. subst (λ slots. IsTarget slots slot) (sym stays.slots) target;
  files = λ slot.
      ap (λ slots. option_map (λ (reading : Reading). reading.opened) (reading_at slots slot)) stays.slots;
  faults = stays.faults;
  taken = omega (arith, stays.taken);
}

only-writes : (old new : Outside) (slot : ℕ) (bytes : List ℕ) → Writes old new slot bytes → OnlyWrites old new
only-writes old new slot bytes writes = record {
  reads = λ r reads. reads-writes old new slot bytes r writes reads;
  targets = λ other target.
      subst (λ slots. IsTarget slots other) (sym writes.slots) (IsTarget-write old.slots slot bytes other target);
  files = λ other.
      ap (λ slots. option_map (λ (reading : Reading). reading.opened) (reading_at slots other)) writes.slots
      ∙ ap (option_map (λ (reading : Reading). reading.opened)) (reading_at-write old.slots slot bytes other);
  faults = writes.faults;
  taken = writes.taken;
}

-- whatever a writer answered
pub only-puts : {X : Type 0} (old new : Outside) (slot : ℕ) (bytes : List ℕ) (result : Result X WriteError)
    → Puts old new slot bytes result → OnlyWrites old new
only-puts old new slot bytes (Ok x) puts = only-writes old new slot bytes puts
only-puts old new slot bytes (Err write.Device) puts = only-writes old new slot (take puts.count bytes) puts.writes
only-puts old new slot bytes (Err write.NoMemory) puts = only-stays old new puts
only-puts old new slot bytes (Err write.FramesLimit) puts = only-stays old new puts
only-puts old new slot bytes (Err (write.Clash class)) puts = only-stays old new puts
only-puts old new slot bytes (Err write.OutputLimit) puts = only-stays old new puts
