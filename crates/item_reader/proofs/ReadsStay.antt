-- A reader still reads its file whatever else is done with its shelf: other slots are opened, made, taken
-- from and written, and calls are refused. Crates that read and write on one shelf cite this.
use Rattle.std.proofs.Common.{◌≡◌, ℕ, zero, suc, List, [], ◌∷◌, ◌++◌, take, refl, sym, ap, subst, ◌∙◌}
use Rattle.std.specs.Option.{option_map}
use Rattle.frame_outside.specs.Shelf.{Outside, Reading, Slot, Source, Target, IsSource, reading_at, pass}
use Rattle.frame_outside.specs.Shelf.{without_slot}
use Rattle.frame_outside.specs.Shelf.{Opens, Refuses, Passes, HandsOut, Makes, Writes, WritesPart}
use Rattle.frame_outside.specs.Shelf.{beginning_of}
use Rattle.frame_outside.specs.Shelf.{write, writing_begun}
use Rattle.frame_outside.proofs.Slots.{pass-zero, IsSource-pass, IsSource-write, IsSource-made, IsSource-more}
use Rattle.frame_outside.proofs.Slots.{reading_at-write, reading_at-made, reading_at-more}
use Rattle.item_reader.specs.Reader.{Reader, Reads}

-- on a shelf where the slot is a source of which the same is told
reads-told : (old new : Outside) (r : Reader) → IsSource new.slots r.position.slot
    → reading_at new.slots r.position.slot ≡ reading_at old.slots r.position.slot → Reads old r → Reads new r
reads-told old new r source same reads = record {
  stands = record {
    source = source;
    few = reads.stands.few;
    place = λ reading told. reads.stands.place reading (sym same ∙ told);
  };
  read = λ none file told.
      reads.read none file (ap (option_map (λ (reading : Reading). reading.opened)) (sym same) ∙ told);
}

-- on a shelf with these slots
reads-slots : (old new : Outside) (slots : List Slot) (r : Reader) → new.slots ≡ slots
    → IsSource slots r.position.slot
    → reading_at slots r.position.slot ≡ reading_at old.slots r.position.slot → Reads old r → Reads new r
reads-slots old new slots r is source same reads =
    reads-told old new r (subst (λ slots. IsSource slots r.position.slot) (sym is) source)
    (ap (λ slots. reading_at slots r.position.slot) is ∙ same) reads

reads-same : (old new : Outside) (r : Reader) → new.slots ≡ old.slots → Reads old r → Reads new r
reads-same old new r is reads = reads-slots old new old.slots r is reads.stands.source refl reads

-- ---- bytes were taken

reading_at-other : (slots : List Slot) (slot n other : ℕ) → (other ≡ slot → ⊥)
    → reading_at (pass slots slot n) other ≡ reading_at slots other
reading_at-other [] slot n other apart = refl
reading_at-other (first ∷ others) zero n zero apart = absurd (apart refl)
reading_at-other (first ∷ others) zero n (suc other) apart = refl
reading_at-other (first ∷ others) (suc slot) n zero apart = refl
reading_at-other (first ∷ others) (suc slot) n (suc other) apart =
    reading_at-other others slot n other (λ same. apart (ap (λ k. suc k) same))

-- of another slot
pub reads-passes : (old new : Outside) (slot n : ℕ) (r : Reader) → (r.position.slot ≡ slot → ⊥)
    → Passes old new slot n → Reads old r → Reads new r
reads-passes old new slot n r apart passes reads =
    reads-slots old new (pass old.slots slot n) r passes.slots
    (IsSource-pass old.slots slot n r.position.slot reads.stands.source)
    (reading_at-other old.slots slot n r.position.slot apart) reads

-- none, of this slot or another
pub reads-passes_none : (old new : Outside) (slot : ℕ) (r : Reader) → Passes old new slot 0 → Reads old r
    → Reads new r
reads-passes_none old new slot r passes reads =
    reads-same old new r (passes.slots ∙ pass-zero old.slots slot) reads

-- bytes were handed out from a place, a size was told, or a call was refused
pub reads-hands_out : (old new : Outside) (n : ℕ) (r : Reader) → HandsOut old new n → Reads old r
    → Reads new r
reads-hands_out old new n r hands reads = reads-same old new r hands.slots reads

-- ---- slots were given

-- another source was opened
pub reads-opens : (old new : Outside) (name : List ℕ) (slot : ℕ) (r : Reader) → Opens old new name slot
    → Reads old r
    → Reads new r
reads-opens old new name slot r opens reads =
    let more : List Slot = Source (beginning_of old.files name) ∷ [] in
    reads-slots old new (old.slots ++ more) r opens.slots
    (IsSource-more old.slots more r.position.slot reads.stands.source)
    (reading_at-more old.slots more r.position.slot reads.stands.source) reads

-- or was not
pub reads-refuses : (old new : Outside) (name : List ℕ) (r : Reader) → Refuses old new name → Reads old r
    → Reads new r
reads-refuses old new name r refuses reads = reads-same old new r refuses.slots reads

-- a target was made
pub reads-makes : (old new : Outside) (name : List ℕ) (slot : ℕ) (r : Reader) → Makes old new name slot
    → Reads old r
    → Reads new r
reads-makes old new name slot r makes reads =
    let made : Slot = Target (writing_begun old.files name) in
    reads-slots old new (without_slot name old.slots ++ made ∷ []) r makes.slots
    (IsSource-made name old.slots made r.position.slot reads.stands.source)
    (reading_at-made name old.slots (writing_begun old.files name) r.position.slot) reads

-- ---- a slot wrote, all of a piece or a part

pub reads-writes : (old new : Outside) (slot : ℕ) (bytes : List ℕ) (r : Reader) → Writes old new slot bytes
    → Reads old r → Reads new r
reads-writes old new slot bytes r writes reads =
    reads-slots old new (write old.slots slot bytes) r writes.slots
    (IsSource-write old.slots slot bytes r.position.slot reads.stands.source)
    (reading_at-write old.slots slot bytes r.position.slot) reads

pub reads-writes_part : (old new : Outside) (slot : ℕ) (bytes : List ℕ) (r : Reader)
    → WritesPart old new slot bytes
    → Reads old r → Reads new r
reads-writes_part old new slot bytes r part reads =
    reads-writes old new slot (take part.count bytes) r part.writes reads
