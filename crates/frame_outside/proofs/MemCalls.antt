-- The calls of a shelf in memory, by its slots and what it was given whole.
use Rattle.std.proofs.Common.{◌≡◌, ℕ, ◌-◌, ◌≤◌, List, [], ◌∷◌, ◌++◌, true, false, cond, Result, Ok, Err, length}
use Rattle.std.proofs.Common.{Option, Some, option_map, refl, sym, ap, ◌∙◌, subst, arith}
use Rattle.std.proofs.Math.Path.{fun_ext}
use Rattle.std.specs.Option.{option_or}
use Rattle.std.specs.Result.{is_ok, is_err}
use Rattle.frame_outside.specs.Counts.{counted_by}
use Rattle.frame_outside.specs.Shelf.{Files, Outside, Slot, Source, Target, Told, Passes, HandsOut, Opens}
use Rattle.frame_outside.specs.Shelf.{Makes, Writes, WritesPart, reading_at, pass, write, without_slot}
use Rattle.frame_outside.specs.Shelf.{beginning}
use Rattle.frame_outside.specs.Written.{written_under, AreApart}
use Rattle.frame_outside.proofs.Counting.{counted_by-zero}
use Rattle.frame_outside.proofs.Slots.{pass-zero}
use Rattle.frame_outside.proofs.Written.{written_under-pass, written_under-opened, file_made, files_write}
use Rattle.frame_outside.proofs.Written.{files_write-none, write-none}

-- a shelf that tells its files: what the slots still write, else what it was given whole
abbrev pub telling : ℕ → ℕ → ℕ → List Slot → Files → Outside
telling faults misses taken slots held =
    record {
      faults = faults;
      misses = misses;
      taken = taken;
      slots = slots;
      files = Some (λ q. option_or (written_under slots q) (held q));
    }

pub telling_hands_out : (faults more misses taken n : ℕ) (slots : List Slot) (held : Files) → faults ≤ more →
    HandsOut (telling faults misses taken slots held) (telling more misses (counted_by taken n) slots held) n
telling_hands_out faults more misses taken n slots held later =
    record { faults = later; misses = refl; taken = refl; slots = refl; files = refl }

pub telling_keeps : (faults more misses taken : ℕ) (slots : List Slot) (held : Files) → faults ≤ more →
    HandsOut (telling faults misses taken slots held) (telling more misses taken slots held) 0
telling_keeps faults more misses taken slots held later =
    record { faults = later; misses = refl; taken = sym (counted_by-zero taken); slots = refl; files = refl }

pub telling_passes : (faults more misses taken later n slot : ℕ) (slots after : List Slot) (held : Files) →
    faults ≤ more → later ≡ counted_by taken n → after ≡ pass slots slot n →
    Told (reading_at slots slot) (λ reading. n ≤ length reading.opened - reading.at) →
    Passes (telling faults misses taken slots held) (telling more misses later after held) slot n
telling_passes faults more misses taken later n slot slots after held rises counts passed within = record {
  faults = rises;
  misses = refl;
  taken = counts;
  slots = passed;
  files = ap Some
      (fun_ext (λ q. ap (λ w. option_or w (held q))
      (ap (λ ss. written_under ss q) passed ∙ written_under-pass slots slot n q)));
  within = within;
}

pub telling_refuses_pass : (faults more misses taken slot : ℕ) (slots : List Slot) (held : Files) →
    faults ≤ more →
    Passes (telling faults misses taken slots held) (telling more misses taken slots held) slot 0
telling_refuses_pass faults more misses taken slot slots held rises = record {
  faults = rises;
  misses = refl;
  taken = sym (counted_by-zero taken);
  slots = sym (pass-zero slots slot);
  files = refl;
  within = λ _ _. omega arith;
}

pub telling_writes : (faults more misses taken slot : ℕ) (bytes : List ℕ) (slots after : List Slot)
    (held : Files) → AreApart slots → faults ≤ more → after ≡ write slots slot bytes →
    Writes (telling faults misses taken slots held) (telling more misses taken after held) slot bytes
telling_writes faults more misses taken slot bytes slots after held apart rises written =
    let P : List Slot → Type 0 = λ ss. Writes (telling faults misses taken slots held)
    (telling more misses taken ss held) slot bytes in
    subst P (sym written)
    (record {
      faults = rises;
      misses = refl;
      taken = refl;
      slots = refl;
      files = files_write slots slot bytes held apart;
    })

pub telling_writes_none : (faults more misses taken slot : ℕ) (bytes : List ℕ) (slots : List Slot)
    (held : Files) → AreApart slots → faults ≤ more →
    WritesPart (telling faults misses taken slots held) (telling more misses taken slots held) slot bytes
telling_writes_none faults more misses taken slot bytes slots held apart rises = record {
  count = 0;
  short = omega arith;
  writes = record {
    faults = rises;
    misses = refl;
    taken = refl;
    slots = sym (write-none slots slot);
    files = files_write-none slots slot held apart;
  };
}

-- a slot is seen as before
pub telling_same : (faults more misses taken : ℕ) (slots after : List Slot) (held : Files) → faults ≤ more →
    after ≡ slots →
    HandsOut (telling faults misses taken slots held) (telling more misses taken after held) 0
telling_same faults more misses taken slots after held rises same = record {
  faults = rises;
  misses = refl;
  taken = sym (counted_by-zero taken);
  slots = same;
  files = ap Some (fun_ext (λ q. ap (λ ss. option_or (written_under ss q) (held q)) same));
}

pub telling_opens : (faults more misses taken slot : ℕ) (name bytes : List ℕ) (slots after : List Slot)
    (held : Files) → faults ≤ more → slot ≡ length slots →
    option_or (written_under slots name) (held name) ≡ Some bytes →
    after ≡ slots ++ Source (Some (beginning bytes)) ∷ [] →
    Opens (telling faults misses taken slots held) (telling more misses taken after held) name slot
telling_opens faults more misses taken slot name bytes slots after held rises number found given = record {
  faults = rises;
  misses = refl;
  taken = refl;
  number = number;
  slots = given ∙ ap (λ told. slots ++ Source (option_map beginning told) ∷ []) (sym found);
  files = ap Some
      (fun_ext (λ q. ap (λ w. option_or w (held q))
      (ap (λ ss. written_under ss q) given ∙ written_under-opened slots (Some (beginning bytes)) q)));
}

pub telling_makes : (faults more misses taken slot : ℕ) (name : List ℕ) (slots after : List Slot)
    (held : Files) → faults ≤ more → slot ≡ length slots →
    after ≡ without_slot name slots ++ Target (Some (record { written = []; name = Some name })) ∷ [] →
    Makes (telling faults misses taken slots held) (telling more misses taken after held) name slot
telling_makes faults more misses taken slot name slots after held rises number given = record {
  faults = rises;
  misses = refl;
  taken = refl;
  number = number;
  slots = given;
  files = ap Some
      (fun_ext (λ q. ap (λ w. option_or w (held q)) (ap (λ ss. written_under ss q) given)
      ∙ file_made name q slots (held q)));
}

pub made_slot : (written : List ℕ) (held : Option (List ℕ)) (name : List ℕ) → written ≡ [] →
    held ≡ Some name →
    Target (Some (record { written = written; name = held }))
    ≡ Target (Some (record { written = []; name = Some name }))
made_slot written held name none is =
    ap (λ (bytes : List ℕ). Target (Some (record { written = bytes; name = held }))) none
    ∙ ap (λ (n : Option (List ℕ)). Target (Some (record { written = []; name = n }))) is

pub opened_slot : (opened : List ℕ) (at : ℕ) (bytes : List ℕ) → opened ≡ bytes → at ≡ 0 →
    Source (Some (record { opened = opened; at = at })) ≡ Source (Some (beginning bytes))
opened_slot opened at bytes same none =
    ap (λ (bs : List ℕ). Source (Some (record { opened = bs; at = at }))) same
    ∙ ap (λ (k : ℕ). Source (Some (record { opened = bytes; at = k }))) none

-- what a push that was not refused left
pub pushed : {X T E : Type 0} (new : List X) (r : Result T E) (more old : List X) → is_err r ≡ false →
    new ≡ cond (is_ok r) more old → new ≡ more
pushed new (Ok x) more old h items = items
pushed new (Err e) more old h items = cc

pub not_pushed : {X T E : Type 0} (new : List X) (r : Result T E) (more old : List X) → is_err r ≡ true →
    new ≡ cond (is_ok r) more old → new ≡ old
not_pushed new (Ok x) more old h items = cc
not_pushed new (Err e) more old h items = items
