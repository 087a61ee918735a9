-- A shelf that tells nothing meets what is said of its slots whatever they give and write.
use Rattle.std.proofs.Common.{◌≡◌, ℕ, zero, suc, ◌≤◌, Bool, true, false, List, [], ◌∷◌, ◌++◌, length, take}
use Rattle.std.proofs.Common.{get_or, map, Option, None, refl, sym, ap, ◌∙◌, subst, arith}
use Rattle.std.proofs.Math.ListN.{set}
use Rattle.std.proofs.lemmas.List.{length-map}
use Rattle.frame_outside.specs.Counts.{counted_by}
use Rattle.frame_outside.specs.Shelf.{Target, Told, Passes, Gives, HandsOut, Refuses, GivesFrom, Opens, Makes, Writes}
use Rattle.frame_outside.specs.Shelf.{WritesPart, reading_at, writing_at, pass, write, slot_passed}
use Rattle.frame_outside.specs.Shelf.{slot_wrote, without_slot, slot_released, untold, untold_slot}
use Rattle.frame_outside.specs.Shelf.{untold_slots}
use Rattle.frame_outside.proofs.Counting.{counted_by-zero}
use Rattle.frame_outside.proofs.Kept.{given_slots}

told_none : {A : Type 0} (told : Option A) (P : A → Type 0) → told ≡ None → Told told P
told_none told P none a h = cc

passed-untold : (writes : Bool) (n : ℕ) → slot_passed n (untold_slot writes) ≡ untold_slot writes
passed-untold true n = refl
passed-untold false n = refl

wrote-untold : (writes : Bool) (bytes : List ℕ) → slot_wrote bytes (untold_slot writes) ≡ untold_slot writes
wrote-untold true bytes = refl
wrote-untold false bytes = refl

released-untold : (writes : Bool) (name : List ℕ) →
    slot_released name (untold_slot writes) ≡ untold_slot writes
released-untold true name = refl
released-untold false name = refl

pass-untold : {A : Type 0} (writes : A → Bool) (xs : List A) (slot n : ℕ) →
    pass (untold_slots writes xs) slot n ≡ untold_slots writes xs
pass-untold writes [] slot n = refl
pass-untold writes (x ∷ xs) zero n = ap (λ s. s ∷ untold_slots writes xs) (passed-untold (writes x) n)
pass-untold writes (x ∷ xs) (suc slot) n =
    ap (λ ss. untold_slot (writes x) ∷ ss) (pass-untold writes xs slot n)

write-untold : {A : Type 0} (writes : A → Bool) (xs : List A) (slot : ℕ) (bytes : List ℕ) →
    write (untold_slots writes xs) slot bytes ≡ untold_slots writes xs
write-untold writes [] slot bytes = refl
write-untold writes (x ∷ xs) zero bytes = ap (λ s. s ∷ untold_slots writes xs) (wrote-untold (writes x) bytes)
write-untold writes (x ∷ xs) (suc slot) bytes =
    ap (λ ss. untold_slot (writes x) ∷ ss) (write-untold writes xs slot bytes)

pub release-untold : {A : Type 0} (writes : A → Bool) (xs : List A) (name : List ℕ) →
    without_slot name (untold_slots writes xs) ≡ untold_slots writes xs
release-untold writes [] name = refl
release-untold writes (x ∷ xs) name =
    ap (λ s. s ∷ without_slot name (untold_slots writes xs)) (released-untold (writes x) name)
    ∙ ap (λ ss. untold_slot (writes x) ∷ ss) (release-untold writes xs name)

-- one of the open files changed, and not its use
pub map-set-untold : {A : Type 0} (writes : A → Bool) (xs : List A) (slot : ℕ) (old new : A) →
    old ≡ get_or xs slot old → writes new ≡ writes old →
    untold_slots writes (set xs slot new) ≡ untold_slots writes xs
map-set-untold writes [] slot old new same h = refl
map-set-untold writes (x ∷ xs) zero old new same h =
    ap (λ w. untold_slot w ∷ untold_slots writes xs) (h ∙ ap writes same)
map-set-untold writes (x ∷ xs) (suc slot) old new same h =
    ap (λ ss. untold_slot (writes x) ∷ ss) (map-set-untold writes xs slot old new same h)

-- the uses of open files of which what no call changes is the same
pub seen_untold : {A B : Type 0} (seen : A → B) (writes : B → Bool) (xs ys : List A) →
    map seen xs ≡ map seen ys →
    untold_slots (λ x. writes (seen x)) xs ≡ untold_slots (λ x. writes (seen x)) ys
seen_untold seen writes xs ys same =
    sym (map-seen xs) ∙ ap (map (λ y. untold_slot (writes y))) same ∙ map-seen ys
  where
    map-seen : (zs : List _) → map (λ y. untold_slot (writes y)) (map seen zs)
        ≡ untold_slots (λ x. writes (seen x)) zs
    map-seen [] = refl
    map-seen (z ∷ zs) = ap (λ ss. untold_slot (writes (seen z)) ∷ ss) (map-seen zs)

reading_at-untold : {A : Type 0} (writes : A → Bool) (xs : List A) (slot : ℕ) →
    reading_at (untold_slots writes xs) slot ≡ None
reading_at-untold writes [] slot = refl
reading_at-untold writes (x ∷ xs) zero = none (writes x)
  where
    none : (b : Bool) → reading_at (untold_slot b ∷ []) 0 ≡ None
    none true = refl
    none false = refl
reading_at-untold writes (x ∷ xs) (suc slot) = reading_at-untold writes xs slot

writing_at-untold : {A : Type 0} (writes : A → Bool) (xs : List A) (slot : ℕ) →
    writing_at (untold_slots writes xs) slot ≡ None
writing_at-untold writes [] slot = refl
writing_at-untold writes (x ∷ xs) zero = none (writes x)
  where
    none : (b : Bool) → writing_at (untold_slot b ∷ []) 0 ≡ None
    none true = refl
    none false = refl
writing_at-untold writes (x ∷ xs) (suc slot) = writing_at-untold writes xs slot

-- what is told is the same where each open file keeps its use
pub passes_untold : {A : Type 0} (writes : A → Bool) (faults more taken later n : ℕ) (old new : List A)
    (slot : ℕ) → faults ≤ more → later ≡ counted_by taken n →
    untold_slots writes new ≡ untold_slots writes old →
    Passes (untold writes faults taken old) (untold writes more later new) slot n
passes_untold writes faults more taken later n old new slot rises counts same = record {
  faults = rises;
  misses = refl;
  taken = counts;
  slots = same ∙ sym (pass-untold writes old slot n);
  files = refl;
  within = told_none _ _ (reading_at-untold writes old slot);
}

pub hands_out_untold : {A : Type 0} (writes : A → Bool) (faults more taken later n : ℕ) (old new : List A) →
    faults ≤ more → later ≡ counted_by taken n → untold_slots writes new ≡ untold_slots writes old →
    HandsOut (untold writes faults taken old) (untold writes more later new) n
hands_out_untold writes faults more taken later n old new rises counts same =
    record { faults = rises; misses = refl; taken = counts; slots = same; files = refl }

pub refuses_source_untold : {A : Type 0} (writes : A → Bool) (faults more taken later : ℕ) (old new : List A)
    (name : List ℕ) → faults ≤ more → later ≡ taken → untold_slots writes new ≡ untold_slots writes old →
    Refuses (untold writes faults taken old) (untold writes more later new) name
refuses_source_untold writes faults more taken later old new name rises kept same = record {
  faults = rises;
  misses = omega arith;
  missed = λ files told. cc;
  taken = kept;
  slots = same;
  files = refl;
}

pub gives_untold : {A : Type 0} (writes : A → Bool) (faults taken : ℕ) (old : List A) (slot n : ℕ)
    (into : List ℕ) → Gives (untold writes faults taken old) slot n into
gives_untold writes faults taken old slot n into = record {
  bytes = told_none _ _ (reading_at-untold writes old slot);
  end = λ _ _. told_none _ _ (reading_at-untold writes old slot);
}

pub gives_from_untold : {A : Type 0} (writes : A → Bool) (faults taken : ℕ) (old : List A) (slot at n : ℕ)
    (into : List ℕ) → GivesFrom (untold writes faults taken old) slot at n into
gives_from_untold writes faults taken old slot at n into = record {
  within = told_none _ _ (reading_at-untold writes old slot);
  bytes = told_none _ _ (reading_at-untold writes old slot);
  end = λ _ _. told_none _ _ (reading_at-untold writes old slot);
}

pub size_untold : {A : Type 0} (writes : A → Bool) (old : List A) (slot : ℕ) (P : _ → Type 0) →
    Told (reading_at (untold_slots writes old) slot) P
size_untold writes old slot P = told_none _ P (reading_at-untold writes old slot)

pub writes_untold : {A : Type 0} (writes : A → Bool) (faults more taken : ℕ) (old new : List A) (slot : ℕ)
    (bytes : List ℕ) → faults ≤ more →
    untold_slots writes new ≡ untold_slots writes old →
    Writes (untold writes faults taken old) (untold writes more taken new) slot bytes
writes_untold writes faults more taken old new slot bytes later same = record {
  faults = later;
  misses = refl;
  taken = refl;
  slots = same ∙ sym (write-untold writes old slot bytes);
  files = rw (writing_at-untold writes new slot) refl;
}

-- a slot more
given_untold : {A : Type 0} (writes : A → Bool) (old middle new : List A) (x : A) (b : Bool) →
    untold_slots writes middle ≡ untold_slots writes old → new ≡ middle ++ x ∷ [] → writes x ≡ b →
    untold_slots writes new ≡ untold_slots writes old ++ untold_slot b ∷ []
given_untold writes old middle new x b same given is =
    given_slots (λ y. untold_slot (writes y)) middle new x (untold_slots writes old) (untold_slot b) given
    same (ap untold_slot is)

pub opens_untold : {A : Type 0} (writes : A → Bool) (faults taken : ℕ) (old middle new : List A) (x : A)
    (name : List ℕ) (slot : ℕ) → slot ≡ length old →
    untold_slots writes middle ≡ untold_slots writes old → new ≡ middle ++ x ∷ [] → writes x ≡ false →
    Opens (untold writes faults taken old) (untold writes faults taken new) name slot
opens_untold writes faults taken old middle new x name slot number same given is = record {
  faults = omega arith;
  misses = refl;
  taken = refl;
  number = number ∙ sym (length-map _ (λ y. untold_slot (writes y)));
  slots = given_untold writes old middle new x false same given is;
  files = refl;
}

pub makes_untold : {A : Type 0} (writes : A → Bool) (faults taken : ℕ) (old middle new : List A) (x : A)
    (name : List ℕ) (slot : ℕ) → slot ≡ length old →
    untold_slots writes middle ≡ untold_slots writes old → new ≡ middle ++ x ∷ [] → writes x ≡ true →
    Makes (untold writes faults taken old) (untold writes faults taken new) name slot
makes_untold writes faults taken old middle new x name slot number same given is = record {
  faults = omega arith;
  misses = refl;
  taken = refl;
  number = number ∙ sym (length-map _ (λ y. untold_slot (writes y)));
  slots = given_untold writes old middle new x true same given is
      ∙ ap (λ ss. ss ++ Target None ∷ []) (sym (release-untold writes old name));
  files = refl;
}

pub writes_part_untold : {A : Type 0} (writes : A → Bool) (faults more taken later : ℕ) (old new : List A)
    (slot : ℕ) (bytes : List ℕ) → faults ≤ more → later ≡ taken →
    untold_slots writes new ≡ untold_slots writes old →
    WritesPart (untold writes faults taken old) (untold writes more later new) slot bytes
writes_part_untold writes faults more taken later old new slot bytes rises counts same =
    let P : ℕ → Type 0 = λ t. WritesPart (untold writes faults taken old) (untold writes more t new) slot
    bytes in
    subst P (sym counts)
    (record {
      count = 0;
      short = omega arith;
      writes = writes_untold writes faults more taken old new slot (take 0 bytes) rises same;
    })

pub refuses_untold : {A : Type 0} (writes : A → Bool) (faults more taken later : ℕ) (old new : List A)
    (slot : ℕ) → faults ≤ more → later ≡ taken →
    untold_slots writes new ≡ untold_slots writes old →
    Passes (untold writes faults taken old) (untold writes more later new) slot 0
refuses_untold writes faults more taken later old new slot rises counts same = record {
  faults = rises;
  misses = refl;
  taken = counts ∙ sym (counted_by-zero taken);
  slots = same ∙ sym (pass-untold writes old slot 0);
  files = refl;
  within = told_none _ _ (reading_at-untold writes old slot);
}
