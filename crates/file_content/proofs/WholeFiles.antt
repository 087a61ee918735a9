-- A reader on its way through the file that a slot was opened on.
use Rattle.std.proofs.Common.{◌≡◌, ℕ, ◌+◌, Bool, true, false, List, Option, Some, None, refl, ap, subst, ◌∙◌}
use Rattle.std.specs.Option.{option_map}
use Rattle.frame_outside.specs.Shelf.{Outside, Reading, Told, Passes, reading_at, reading_past}
use Rattle.frame_outside.specs.SlotReader.{Draws}
use Rattle.frame_outside.proofs.Slots.{reading_at-pass}
use Rattle.frame_outside.proofs.Reading.{passes_none, passes_more}
use Rattle.item_reader.specs.declared.item.Item.{Item}
use Rattle.item_reader.specs.declared.item.Item.TheVariants as given
use Rattle.item_reader.specs.Reader.{Reader, IsFileEnd, file_of}
use Rattle.file_content.specs.declared.scan.Scan.{Scan}
use Rattle.file_content.specs.Scanned.{HasScanned, Scans}

-- two draws of one slot are one
pub draws_more : (first middle last : Outside) (slot same : ℕ) → Draws first middle slot → same ≡ slot
    → Draws middle last same → Draws first last slot
draws_more first middle last slot same p is q =
    let passes : Passes middle last slot q.drawn = subst (λ (n : ℕ). Passes middle last n q.drawn) is q.passes in
    record {
      drawn = p.drawn + q.drawn;
      passes = passes_more first middle last slot p.drawn q.drawn p.passes passes;
    }

opened-passed : (n : ℕ) (told : Option Reading)
    → option_map (λ reading. reading.opened) (option_map (reading_past n) told)
    ≡ option_map (λ reading. reading.opened) told
opened-passed n None = refl
opened-passed n (Some reading) = refl

-- a slot stays that of the same file
pub file_of-drawn : (old new : Outside) (slot : ℕ) → Draws old new slot → file_of new slot ≡ file_of old slot
file_of-drawn old new slot draws =
    ap (λ slots. option_map (λ reading. reading.opened) (reading_at slots slot)) draws.passes.slots
    ∙ ap (option_map (λ reading. reading.opened)) (reading_at-pass old.slots slot draws.drawn)
    ∙ opened-passed draws.drawn (reading_at old.slots slot)

-- an item that is no end of the file, as code finds it
pub goes_on : (item : Item) → ((at class length seek : ℕ) → item ≡ given.FileEnd at class length seek → ⊥)
    → IsFileEnd item → ⊥
goes_on (given.Entry at class changed) other end = absurd end
goes_on (given.Plain at class instance node) other end = absurd end
goes_on (given.FrameEnd at class) other end = absurd end
goes_on (given.Table at class length) other end = absurd end
goes_on (given.FileEnd at class length seek) other end = other at class length seek refl

-- after such an item the end of the file does not stand
pub unclosed : (item : Item) (closed : Bool) → (closed ≡ true → IsFileEnd item) → (IsFileEnd item → ⊥)
    → closed ≡ false
unclosed item true ends none = absurd (none (ends refl))
unclosed item false ends none = refl

-- no byte was drawn
pub draws_none : (o : Outside) (slot : ℕ) → Draws o o slot
draws_none o slot = record { drawn = 0; passes = passes_none o slot }

-- what is kept before any more items, and after them
pub scans-init : (o : Outside) (slot : ℕ) (r : Reader) (scan : Scan) → Scans o slot r scan r scan
unfolding Scans
scans-init o slot r scan = λ file told scanned. scanned

pub scans-told : (o : Outside) (slot : ℕ) (before r : Reader) (old scan : Scan) → Scans o slot before old r scan
    → Told (file_of o slot) (λ file. HasScanned file before old → HasScanned file r scan)
unfolding Scans
scans-told o slot before r old scan scans = scans

pub scans-more : (o : Outside) (slot : ℕ) (before r next : Reader) (old scan more : Scan)
    → Scans o slot before old r scan
    → Told (file_of o slot) (λ file. HasScanned file r scan → HasScanned file next more)
    → Scans o slot before old next more
unfolding Scans
scans-more o slot before r next old scan more scans step =
    λ file told scanned. step file told (scans file told scanned)
