-- What an error says of a splice, and what it leaves of the shelf.
use Rattle.std.proofs.Common.{◌≡◌, ℕ, ◌≤◌, ◌⊎◌, inl, inr, List, Result, Err, refl, ap, arith}
use Rattle.frame_outside.specs.Counts.{Rose}
use Rattle.frame_outside.specs.Shelf.{Outside, Refuses}
use Rattle.frame_outside.specs.declared.traits.ShelfError.{ShelfError}
use Rattle.frame_outside.specs.declared.traits.ShelfError.TheVariants as shelf
use Rattle.canonical_writer.specs.declared.errors.WriteError.{WriteError}
use Rattle.canonical_writer.specs.declared.errors.WriteError.TheVariants as write
use Rattle.splicer.specs.declared.errors.InputError.{InputError}
use Rattle.splicer.specs.declared.errors.InputError.TheVariants as input
use Rattle.splicer.specs.declared.errors.SpliceError.TheVariants as splice
use Rattle.splicer.specs.Errors.{error_of_shelf, unwritten, error_of}
use Rattle.splicer.specs.Made.{IsMade}
use Rattle.splicer.specs.Spliced.{LeavesShelf}
use Rattle.splicer.proofs.Making.{one-made, one-refused}
use Rattle.splicer.proofs.Splicing.{HasFailed}

-- ---- the errors

pub refused-failed : (error : ShelfError) → HasFailed (error_of_shelf error)
refused-failed shelf.Failed = inl refl
refused-failed shelf.NoMemory = inr refl

refused-device : (error : ShelfError) → error_of_shelf error ≡ splice.Device → error ≡ shelf.Failed
refused-device shelf.Failed is = refl
refused-device shelf.NoMemory is = cc

pub begun-failed : {X : Type 0} (error : WriteError)
    → ◌≡◌ {A = Result X WriteError} (Err error) (Err write.Device)
    ⊎ ◌≡◌ {A = Result X WriteError} (Err error) (Err write.NoMemory) → HasFailed (unwritten 0 error)
begun-failed error (inl is) = let same : error ≡ write.Device = cc in inl (ap (unwritten 0) same)
begun-failed error (inr is) = let same : error ≡ write.NoMemory = cc in inr (ap (unwritten 0) same)

pub unwritten-device : (number : ℕ) (error : WriteError) → unwritten number error ≡ splice.Device → error ≡ write.Device
unwritten-device number write.FramesLimit is = cc
unwritten-device number (write.Clash class) is = cc
unwritten-device number write.OutputLimit is = cc
unwritten-device number write.Device is = refl
unwritten-device number write.NoMemory is = cc

error_of-device : (number : ℕ) (error : InputError) → error_of number error ≡ splice.Device
    → error ≡ input.Write write.Device
error_of-device number (input.Fault fault) is = cc
error_of-device number (input.Write error) is = ap input.Write (unwritten-device number error is)

-- ---- the shelf

-- a count that rose since then rose since before
pub rose-before : (old middle new : ℕ) → old ≤ middle → Rose middle new → Rose old new
rose-before old middle new before rose = omega (arith, before, rose)

-- an input was not written to its end
pub leaves-input : (old middle new : Outside) (to : List ℕ) (inputs all number slot after : ℕ) (error : InputError)
    → IsMade old middle to inputs slot → IsMade old new to inputs after → inputs ≤ all
    → (◌≡◌ {A = Result (Unit {0}) InputError} (Err error) (Err (input.Write write.Device))
    → Rose middle.faults new.faults)
    → LeavesShelf old new to all (Err (error_of number error))
leaves-input old middle new to inputs all number slot after error before made few device = record {
  shelf = one-made old new to inputs all after made.bytes made.made few;
  device = λ is.
      let same : error_of number error ≡ splice.Device = cc in
      rose-before old.faults middle.faults new.faults before.made.faults
      (device (ap (λ e. Err e) (error_of-device number error same)));
}

-- an input was not opened
pub leaves-refused : (old middle new : Outside) (to name : List ℕ) (inputs all slot : ℕ) (error : ShelfError)
    → IsMade old middle to inputs slot → Refuses middle new name → inputs ≤ all
    → (◌≡◌ {A = Result ℕ ShelfError} (Err error) (Err shelf.Failed) → Rose middle.faults new.faults)
    → LeavesShelf old new to all (Err (error_of_shelf error))
leaves-refused old middle new to name inputs all slot error made refuses few failed = record {
  shelf = one-refused old middle new to name inputs all slot made.bytes made.made refuses few;
  device = λ is.
      let same : error_of_shelf error ≡ splice.Device = cc in
      rose-before old.faults middle.faults new.faults made.made.faults
      (failed (ap (λ e. Err e) (refused-device error same)));
}
