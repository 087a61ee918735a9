-- All frames of the sample file, one after another.
use Rattle.std.proofs.Common.{ℕ, ◌+◌, ◌<◌, ◌≤◌, List, take, Result, Ok, Err, inl, inr, sym}
use Rattle.std.proofs.Common.{subst, arith}
use Rattle.frame_outside.specs.Shelf.{Outside, IsTarget}
use Rattle.frame_outside.proofs.Slots.{IsTarget-write}
use Rattle.canonical_writer.specs.declared.errors.WriteError.{WriteError}
use Rattle.canonical_writer.specs.declared.errors.WriteError.TheVariants as write
use Rattle.canonical_writer.specs.Writer.{Puts}
use Rattle.sample_file.specs.Put.{sample_head, HasMade, HasPart, PutsFrame, IsOutside}
use Rattle.sample_file.proofs.Fronts.{part-of_head, part-of_all}
use Rattle.sample_file.proofs.Making.{made-stays, made-writes, made-part}

-- the slot writes still
pub target-puts : {X : Type 0} (old new : Outside) (slot : ℕ) (bytes : List ℕ) (x : X)
    → Puts old new slot bytes (Ok x) → IsTarget old.slots slot → IsTarget new.slots slot
target-puts old new slot bytes x puts target =
    subst (λ slots. IsTarget slots slot) (sym puts.slots) (IsTarget-write old.slots slot bytes slot target)

-- whatever was answered, no fault is forgotten
pub faults-puts : {X : Type 0} (old new : Outside) (slot : ℕ) (bytes : List ℕ) (result : Result X WriteError)
    → Puts old new slot bytes result → old.faults ≤ new.faults
faults-puts old new slot bytes (Ok x) puts = puts.faults
faults-puts old new slot bytes (Err write.Device) puts = puts.writes.faults
faults-puts old new slot bytes (Err write.NoMemory) puts = puts.faults
faults-puts old new slot bytes (Err write.FramesLimit) puts = puts.faults
faults-puts old new slot bytes (Err (write.Clash class)) puts = puts.faults
faults-puts old new slot bytes (Err write.OutputLimit) puts = puts.faults

-- frame k is written after the first k
pub made-frame : (old now new : Outside) (name : List ℕ) (slot k : ℕ) (x : Unit {0})
    → HasMade old now name slot (sample_head k) → PutsFrame k now new slot (Ok x)
    → HasMade old new name slot (sample_head (k + 1))
made-frame old now new name slot k x made frame =
    subst (λ (bytes : List ℕ). HasMade old new name slot bytes) (sym frame.more)
    (made-writes old now new name slot (sample_head k) frame.bytes made frame.puts)

-- or a part of it
pub part-frame : (old now new : Outside) (name : List ℕ) (slot k n : ℕ) (error : WriteError) → k < n
    → IsOutside error → HasMade old now name slot (sample_head k) → PutsFrame k now new slot (Err error)
    → HasPart old new name n
part-frame old now new name slot k n error few outside made frame = by error outside frame.puts
  where
    by : (error : WriteError) → IsOutside error → Puts {X = Unit} now new slot frame.bytes (Err error)
        → HasPart old new name n
    by write.Device outside puts =
        let part = made-part old now new name slot (sample_head k) frame.bytes made puts in
        part-of_head old new name slot (k + 1) n part.0 (omega arith)
        (subst (λ (bytes : List ℕ). HasMade old new name slot (take part.0 bytes)) (sym frame.more) part.1)
    by write.NoMemory outside puts =
        part-of_all old new name slot k n (omega arith) (made-stays old now new name slot (sample_head k) made puts)
    by write.FramesLimit (inl is) puts = absurd cc
    by write.FramesLimit (inr is) puts = absurd cc
    by (write.Clash class) (inl is) puts = absurd cc
    by (write.Clash class) (inr is) puts = absurd cc
    by write.OutputLimit (inl is) puts = absurd cc
    by write.OutputLimit (inr is) puts = absurd cc
