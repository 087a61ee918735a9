-- The errors of parts as those of a dump: when a device has failed.
use Rattle.std.proofs.Common.{◌≡◌, ℕ, ◌≤◌, ◌⊎◌, inl, inr, List, Result, Ok, Err, refl, arith}
use Rattle.frame_outside.specs.Counts.{Rose}
use Rattle.frame_outside.specs.Sink.{Output}
use Rattle.frame_outside.specs.declared.traits.ShelfError.{ShelfError}
use Rattle.frame_outside.specs.declared.traits.ShelfError.TheVariants.{Failed, NoMemory}
use Rattle.item_reader.specs.declared.item.ReadError.{ReadError}
use Rattle.item_reader.specs.declared.item.ReadError.TheVariants as read
use Rattle.dumper.specs.declared.files.DumpError.{DumpError}
use Rattle.dumper.specs.declared.files.DumpError.TheVariants.{Device}
use Rattle.dumper.specs.declared.files.DumpError.TheVariants as error
use Rattle.dumper.specs.Errors.{read_error, shelf_error}
use Rattle.dumper.specs.Page.{CarriesOrStops}

-- the error of a result
pub same-error : {X : Type 0} (result : Result X DumpError) (e other : DumpError) → result ≡ Err e
    → result ≡ Err other → e ≡ other
same-error result e other is also = cc

-- it is a device's where the shelf or the sink could not do a call
pub failed-device : (e : ShelfError) → shelf_error e ≡ Device → e ≡ Failed
failed-device Failed is = refl
failed-device NoMemory is = absurd cc

pub read-device : (e : ReadError) → read_error e ≡ Device → e ≡ read.Device
read-device (read.Fault fault) is = absurd cc
read-device read.Device is = refl
read-device read.NoMemory is = absurd cc

-- a refusal of a shelf or a sink is one of two
pub refused-so : {X : Type 0} (result : Result X DumpError) (e : ShelfError) → result ≡ Err (shelf_error e)
    → (result ≡ Err Device) ⊎ (result ≡ Err error.NoMemory)
refused-so result Failed is = inl is
refused-so result NoMemory is = inr is

-- ---- a count that rose

pub rose-after : (old mid new : ℕ) → old ≤ mid → Rose mid new → Rose old new
rose-after old mid new grown rose = omega (arith, grown, rose)

pub rose-before : (old mid new : ℕ) → Rose old mid → mid ≤ new → Rose old new
rose-before old mid new rose grown = omega (arith, grown, rose)

-- where a device has failed, before the end or at it
pub device-risen : {X : Type 0} (old mid new before between after : ℕ) (printed : Result X DumpError) → old ≤ mid
    → before ≤ between → between ≤ after → (printed ≡ Err Device → Rose mid new ⊎ Rose before between)
    → (printed ≡ Err Device) ⊎ Rose between after → Rose old new ⊎ Rose before after
device-risen old mid new before between after printed grown so_far more risen (inr rose) =
    inr (rose-after before between after so_far rose)
device-risen old mid new before between after printed grown so_far more risen (inl is) = by (risen is)
  where
    by : Rose mid new ⊎ Rose before between → Rose old new ⊎ Rose before after
    by (inl rose) = inl (rose-after old mid new grown rose)
    by (inr rose) = inr (rose-before before between after rose more)

-- what was put stopped at a device
pub stopped-rose : {X : Type 0} (old mid new : Output) (p q t : List ℕ) (e : ShelfError)
    (result : Result X ShelfError) → old.faults ≤ mid.faults → result ≡ Err e → CarriesOrStops mid new p q t result
    → shelf_error e ≡ Device → Rose old.faults new.faults
stopped-rose old mid new p q t e (Ok x) grown is g failed = absurd cc
stopped-rose old mid new p q t e (Err Failed) grown is g failed =
    rose-after old.faults mid.faults new.faults grown g.1
stopped-rose old mid new p q t Failed (Err NoMemory) grown is g failed = absurd cc
stopped-rose old mid new p q t NoMemory (Err NoMemory) grown is g failed = absurd cc
