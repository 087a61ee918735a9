-- What the calls of a shelf do to its slots: which are sources and targets, and what is told of those that
-- a call leaves. Crates that make several calls cite these.
use Rattle.std.proofs.Common.{◌≡◌, ℕ, zero, suc, ◌+◌, List, [], ◌∷◌, ◌++◌, length, Option, Some, None}
use Rattle.std.proofs.Common.{option_map, refl, ap, add-zero, add_assoc, sym, subst}
use Rattle.frame_outside.specs.Shelf.{Reading, Writing, Slot, Source, Target, IsSource, IsTarget}
use Rattle.frame_outside.specs.Shelf.{reading_at, writing_at, reading_past, slot_passed, pass, write, without_slot}
use Rattle.frame_outside.specs.Shelf.{Outside, Opens, Makes, beginning_of, writing_begun}

slot_passed-zero : (slot : Slot) → slot_passed 0 slot ≡ slot
slot_passed-zero (Source None) = refl
slot_passed-zero (Source (Some reading)) =
    ap (λ (at : ℕ). Source (Some (record { opened = reading.opened; at = at }))) (add-zero reading.at)
slot_passed-zero (Target writing) = refl

slot_passed-slot_passed : (slot : Slot) (n m : ℕ) →
    slot_passed m (slot_passed n slot) ≡ slot_passed (n + m) slot
slot_passed-slot_passed (Source None) n m = refl
slot_passed-slot_passed (Source (Some reading)) n m =
    ap (λ (at : ℕ). Source (Some (record { opened = reading.opened; at = at }))) (add_assoc reading.at n m)
slot_passed-slot_passed (Target writing) n m = refl

-- a slot that gave nothing is as it was
pub pass-zero : (slots : List Slot) (slot : ℕ) → pass slots slot 0 ≡ slots
pass-zero [] slot = refl
pass-zero (first ∷ others) zero = ap (λ s. s ∷ others) (slot_passed-zero first)
pass-zero (first ∷ others) (suc slot) = ap (λ ss. first ∷ ss) (pass-zero others slot)

-- n bytes and then m are n + m bytes
pub pass-pass : (slots : List Slot) (slot n m : ℕ) → pass (pass slots slot n) slot m ≡ pass slots slot (n + m)
pass-pass [] slot n m = refl
pass-pass (first ∷ others) zero n m = ap (λ s. s ∷ others) (slot_passed-slot_passed first n m)
pass-pass (first ∷ others) (suc slot) n m = ap (λ ss. first ∷ ss) (pass-pass others slot n m)

pub length-pass : (slots : List Slot) (slot n : ℕ) → length (pass slots slot n) ≡ length slots
length-pass [] slot n = refl
length-pass (first ∷ others) zero n = refl
length-pass (first ∷ others) (suc slot) n = ap (λ k. suc k) (length-pass others slot n)

-- what is told of the slot itself after it gave n bytes
pub reading_at-pass : (slots : List Slot) (slot n : ℕ) →
    reading_at (pass slots slot n) slot ≡ option_map (reading_past n) (reading_at slots slot)
reading_at-pass [] slot n = refl
reading_at-pass (Source reading ∷ others) zero n = refl
reading_at-pass (Target writing ∷ others) zero n = refl
reading_at-pass (first ∷ others) (suc slot) n = reading_at-pass others slot n

-- a slot that was just given, and what the slots before it are whatever it gives
pub IsSource-given : (slots : List Slot) (reading : Option Reading) →
    IsSource (slots ++ Source reading ∷ []) (length slots)
IsSource-given [] reading = refl
IsSource-given (first ∷ others) reading = IsSource-given others reading

pub IsSource-opens : (old new : Outside) (name : List ℕ) (slot : ℕ) → Opens old new name slot →
    IsSource new.slots slot
IsSource-opens old new name slot opens =
    let P : List Slot → Type 0 = λ slots. IsSource slots slot in
    let Q : ℕ → Type 0 = λ number. IsSource (old.slots ++ Source (beginning_of old.files name) ∷ []) number in
    subst P (sym opens.slots) (subst Q (sym opens.number)
    (IsSource-given old.slots (beginning_of old.files name)))

pub reading_at-given : (slots : List Slot) (reading : Option Reading) →
    reading_at (slots ++ Source reading ∷ []) (length slots) ≡ reading
reading_at-given [] reading = refl
reading_at-given (first ∷ others) reading = reading_at-given others reading

pub pass-given : (slots : List Slot) (slot : Slot) (n : ℕ) →
    pass (slots ++ slot ∷ []) (length slots) n ≡ slots ++ slot_passed n slot ∷ []
pass-given [] slot n = refl
pass-given (first ∷ others) slot n = ap (λ ss. first ∷ ss) (pass-given others slot n)

-- a slot keeps its use, whatever another call does

pub IsSource-pass : (slots : List Slot) (slot n other : ℕ) → IsSource slots other →
    IsSource (pass slots slot n) other
IsSource-pass [] slot n other h = h
IsSource-pass (Source reading ∷ others) zero n zero h = h
IsSource-pass (Target writing ∷ others) zero n zero h = h
IsSource-pass (first ∷ others) zero n (suc other) h = h
IsSource-pass (first ∷ others) (suc slot) n zero h = h
IsSource-pass (first ∷ others) (suc slot) n (suc other) h = IsSource-pass others slot n other h

pub IsTarget-pass : (slots : List Slot) (slot n other : ℕ) → IsTarget slots other →
    IsTarget (pass slots slot n) other
IsTarget-pass [] slot n other h = h
IsTarget-pass (Source reading ∷ others) zero n zero h = h
IsTarget-pass (Target writing ∷ others) zero n zero h = h
IsTarget-pass (first ∷ others) zero n (suc other) h = h
IsTarget-pass (first ∷ others) (suc slot) n zero h = h
IsTarget-pass (first ∷ others) (suc slot) n (suc other) h = IsTarget-pass others slot n other h

pub IsSource-write : (slots : List Slot) (slot : ℕ) (bytes : List ℕ) (other : ℕ) → IsSource slots other →
    IsSource (write slots slot bytes) other
IsSource-write [] slot bytes other h = h
IsSource-write (Source reading ∷ others) zero bytes zero h = h
IsSource-write (Target writing ∷ others) zero bytes zero h = h
IsSource-write (first ∷ others) zero bytes (suc other) h = h
IsSource-write (first ∷ others) (suc slot) bytes zero h = h
IsSource-write (first ∷ others) (suc slot) bytes (suc other) h = IsSource-write others slot bytes other h

pub IsTarget-write : (slots : List Slot) (slot : ℕ) (bytes : List ℕ) (other : ℕ) → IsTarget slots other →
    IsTarget (write slots slot bytes) other
IsTarget-write [] slot bytes other h = h
IsTarget-write (Source reading ∷ others) zero bytes zero h = h
IsTarget-write (Target writing ∷ others) zero bytes zero h = h
IsTarget-write (first ∷ others) zero bytes (suc other) h = h
IsTarget-write (first ∷ others) (suc slot) bytes zero h = h
IsTarget-write (first ∷ others) (suc slot) bytes (suc other) h = IsTarget-write others slot bytes other h

-- slots once a file was made, and the slot that writes it
pub IsSource-made : (name : List ℕ) (slots : List Slot) (made : Slot) (other : ℕ) → IsSource slots other →
    IsSource (without_slot name slots ++ made ∷ []) other
IsSource-made name [] made other h = cc
IsSource-made name (Source reading ∷ others) made zero h = h
IsSource-made name (Target writing ∷ others) made zero h = cc
IsSource-made name (first ∷ others) made (suc other) h = IsSource-made name others made other h

pub IsTarget-made : (name : List ℕ) (slots : List Slot) (writing : Option Writing) →
    IsTarget (without_slot name slots ++ Target writing ∷ []) (length slots)
IsTarget-made name [] writing = refl
IsTarget-made name (first ∷ others) writing = IsTarget-made name others writing

pub IsTarget-before : (name : List ℕ) (slots : List Slot) (made : Slot) (other : ℕ) → IsTarget slots other →
    IsTarget (without_slot name slots ++ made ∷ []) other
IsTarget-before name [] made other h = cc
IsTarget-before name (Source reading ∷ others) made zero h = cc
IsTarget-before name (Target writing ∷ others) made zero h = h
IsTarget-before name (first ∷ others) made (suc other) h = IsTarget-before name others made other h

pub IsTarget-makes : (old new : Outside) (name : List ℕ) (slot : ℕ) → Makes old new name slot →
    IsTarget new.slots slot
IsTarget-makes old new name slot makes =
    let P : List Slot → Type 0 = λ slots. IsTarget slots slot in
    let Q : ℕ → Type 0 = λ number. IsTarget
    (without_slot name old.slots ++ Target (writing_begun old.files name) ∷ []) number in
    subst P (sym makes.slots) (subst Q (sym makes.number)
    (IsTarget-made name old.slots (writing_begun old.files name)))

-- slots once more are given
pub IsSource-more : (slots more : List Slot) (other : ℕ) → IsSource slots other →
    IsSource (slots ++ more) other
IsSource-more [] more other h = cc
IsSource-more (first ∷ others) more zero h = h
IsSource-more (first ∷ others) more (suc other) h = IsSource-more others more other h

pub IsTarget-more : (slots more : List Slot) (other : ℕ) → IsTarget slots other →
    IsTarget (slots ++ more) other
IsTarget-more [] more other h = cc
IsTarget-more (first ∷ others) more zero h = h
IsTarget-more (first ∷ others) more (suc other) h = IsTarget-more others more other h

-- what a slot was opened on, and what it has left, whatever is written, made and opened
pub reading_at-write : (slots : List Slot) (slot : ℕ) (bytes : List ℕ) (other : ℕ) →
    reading_at (write slots slot bytes) other ≡ reading_at slots other
reading_at-write [] slot bytes other = refl
reading_at-write (Source reading ∷ others) zero bytes zero = refl
reading_at-write (Target writing ∷ others) zero bytes zero = refl
reading_at-write (first ∷ others) zero bytes (suc other) = refl
reading_at-write (first ∷ others) (suc slot) bytes zero = refl
reading_at-write (first ∷ others) (suc slot) bytes (suc other) = reading_at-write others slot bytes other

pub reading_at-made : (name : List ℕ) (slots : List Slot) (writing : Option Writing) (other : ℕ) →
    reading_at (without_slot name slots ++ Target writing ∷ []) other ≡ reading_at slots other
reading_at-made name [] writing zero = refl
reading_at-made name [] writing (suc other) = refl
reading_at-made name (Source reading ∷ others) writing zero = refl
reading_at-made name (Target first ∷ others) writing zero = refl
reading_at-made name (first ∷ others) writing (suc other) = reading_at-made name others writing other

pub reading_at-more : (slots more : List Slot) (other : ℕ) → IsSource slots other →
    reading_at (slots ++ more) other ≡ reading_at slots other
reading_at-more [] more other h = cc
reading_at-more (first ∷ others) more zero h = refl
reading_at-more (first ∷ others) more (suc other) h = reading_at-more others more other h

-- what a slot has written, whatever is taken and opened
pub writing_at-pass : (slots : List Slot) (slot n other : ℕ) →
    writing_at (pass slots slot n) other ≡ writing_at slots other
writing_at-pass [] slot n other = refl
writing_at-pass (Source reading ∷ others) zero n zero = refl
writing_at-pass (Target writing ∷ others) zero n zero = refl
writing_at-pass (first ∷ others) zero n (suc other) = refl
writing_at-pass (first ∷ others) (suc slot) n zero = refl
writing_at-pass (first ∷ others) (suc slot) n (suc other) = writing_at-pass others slot n other

pub writing_at-more : (slots more : List Slot) (other : ℕ) → IsTarget slots other →
    writing_at (slots ++ more) other ≡ writing_at slots other
writing_at-more [] more other h = cc
writing_at-more (first ∷ others) more zero h = refl
writing_at-more (first ∷ others) more (suc other) h = writing_at-more others more other h

pub writing_at-made : (name : List ℕ) (slots : List Slot) (writing : Option Writing) →
    writing_at (without_slot name slots ++ Target writing ∷ []) (length slots) ≡ writing
writing_at-made name [] writing = refl
writing_at-made name (first ∷ others) writing = writing_at-made name others writing

-- taking and writing, in either order
pub write-pass : (slots : List Slot) (source n target : ℕ) (bytes : List ℕ) →
    write (pass slots source n) target bytes ≡ pass (write slots target bytes) source n
write-pass [] source n target bytes = refl
write-pass (Source reading ∷ others) zero n zero bytes = refl
write-pass (Target writing ∷ others) zero n zero bytes = refl
write-pass (first ∷ others) zero n (suc target) bytes = refl
write-pass (first ∷ others) (suc source) n zero bytes = refl
write-pass (first ∷ others) (suc source) n (suc target) bytes =
    ap (λ ss. first ∷ ss) (write-pass others source n target bytes)
