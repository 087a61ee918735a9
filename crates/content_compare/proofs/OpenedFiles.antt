-- Two files that are opened: where one is not held the shelf fails, and else both stand at their beginnings.
use Rattle.std.proofs.Common.{◌≡◌, ℕ, ◌<◌, List, [], ◌∷◌, ◌++◌, Option, Some, None, is_none, cond}
use Rattle.std.proofs.Common.{option_map, Err, refl, sym, ap, ◌∙◌, subst, arith}
use Rattle.std.proofs.lemmas.Option.{none-some, same_Some}
use Rattle.std.specs.Option.{option_and_then}
use Rattle.frame_outside.specs.Counts.{next_count}
use Rattle.frame_outside.specs.Shelf.{Outside, Files, Reading, Slot, Source, Told, IsSource, Opens, Refuses, reading_at}
use Rattle.frame_outside.specs.Shelf.{beginning, beginning_of}
use Rattle.frame_outside.proofs.Slots.{IsSource-opens, IsSource-more, reading_at-given, reading_at-more}
use Rattle.item_reader.specs.Reader.{file_of}
use Rattle.canonical_file.specs.Ranges.{AreBytes}
use Rattle.content_compare.specs.declared.answers.CompareError.TheVariants.{Device}
use Rattle.content_compare.specs.Due.{Answer, IsDue, IsDueOf, IsDueOfHeld, IsAnswer}

-- ---- files that are not held

-- the misses rise only where the name is not held, and that is due then
first-missed : (held other : Option (List ℕ)) (old new : ℕ) (due : Answer) → IsDueOfHeld held other due
    → new ≡ cond (is_none held) (next_count old) old → old < new → due ≡ Err Device
first-missed None other old new due is missed more = is
first-missed (Some file) other old new due is missed more = absurd (omega (arith, missed, more))

second-missed : (held other : Option (List ℕ)) (old new : ℕ) (due : Answer) → IsDueOfHeld held other due
    → new ≡ cond (is_none other) (next_count old) old → old < new → due ≡ Err Device
second-missed None other old new due is missed more = is
second-missed (Some file) None old new due is missed more = is
second-missed (Some file) (Some second) old new due is missed more = absurd (omega (arith, missed, more))

-- the first is not opened
pub first-refused : (files : Files) (old new : Outside) (first second : List ℕ) (due : Answer)
    → old.files ≡ Some files → Refuses old new first → old.misses < new.misses → IsDue files first second due
    → due ≡ Err Device
first-refused files old new first second due told refuses more is =
    first-missed (files first) (files second) old.misses new.misses due is.is (refuses.missed files told) more

-- or the second
pub second-refused : (files : Files) (old middle new : Outside) (first second : List ℕ) (slot : ℕ) (due : Answer)
    → old.files ≡ Some files → Opens old middle first slot → Refuses middle new second → old.misses < new.misses
    → IsDue files first second due → due ≡ Err Device
second-refused files old middle new first second slot due told opens refuses more is =
    second-missed (files first) (files second) middle.misses new.misses due is.is
    (refuses.missed files (opens.files ∙ told)) (omega (arith, opens.misses, more))

-- ---- a file that is opened

-- it stands at the beginning of the file of its name
given-reading : (old new : Outside) (name : List ℕ) (slot : ℕ) → Opens old new name slot
    → reading_at new.slots slot ≡ beginning_of old.files name
given-reading old new name slot opens =
    let given : Slot = Source (beginning_of old.files name) in
    ap (λ slots. reading_at slots slot) opens.slots ∙ ap (reading_at (old.slots ++ given ∷ [])) opens.number
    ∙ reading_at-given old.slots (beginning_of old.files name)

at-beginning : (held : Option (List ℕ)) (reading : Reading) → option_map beginning held ≡ Some reading → reading.at ≡ 0
at-beginning None reading is = absurd (none-some reading is)
at-beginning (Some bytes) reading is = ap (λ (r : Reading). r.at) (sym (same_Some (beginning bytes) reading is))

pub opened-beginning : (old new : Outside) (name : List ℕ) (slot : ℕ) → Opens old new name slot
    → Told (reading_at new.slots slot) (λ reading. reading.at ≡ 0)
opened-beginning old new name slot opens = λ reading told.
    at-beginning (option_and_then (λ held. held name) old.files) reading
    (sym (given-reading old new name slot opens) ∙ told)

-- which holds these bytes
opened-file : (files : Files) (old new : Outside) (name file : List ℕ) (slot : ℕ) → Opens old new name slot
    → old.files ≡ Some files → files name ≡ Some file → file_of new slot ≡ Some file
opened-file files old new name file slot opens told held =
    ap (option_map (λ (r : Reading). r.opened))
    (given-reading old new name slot opens ∙ ap (λ told. beginning_of told name) told ∙ ap (option_map beginning) held)

-- ---- and then another

-- the first stays a source
pub first-source : (old middle new : Outside) (first second : List ℕ) (slot other : ℕ) → Opens old middle first slot
    → Opens middle new second other → IsSource new.slots slot
first-source old middle new first second slot other opens also =
    let P : List Slot → Type 0 = λ slots. IsSource slots slot in
    subst P (sym also.slots)
    (IsSource-more middle.slots (Source (beginning_of middle.files second) ∷ []) slot
    (IsSource-opens old middle first slot opens))

-- as it stands
first-stays : (old middle new : Outside) (first second : List ℕ) (slot other : ℕ) → Opens old middle first slot
    → Opens middle new second other → reading_at new.slots slot ≡ reading_at middle.slots slot
first-stays old middle new first second slot other opens also =
    ap (λ slots. reading_at slots slot) also.slots
    ∙ reading_at-more middle.slots (Source (beginning_of middle.files second) ∷ []) slot
    (IsSource-opens old middle first slot opens)

pub first-beginning : (old middle new : Outside) (first second : List ℕ) (slot other : ℕ) → Opens old middle first slot
    → Opens middle new second other → Told (reading_at new.slots slot) (λ reading. reading.at ≡ 0)
first-beginning old middle new first second slot other opens also = λ reading told.
    opened-beginning old middle first slot opens reading
    (sym (first-stays old middle new first second slot other opens also) ∙ told)

-- what is due of both is answered where that of their bytes is
pub both-answered : (files : Files) (old middle now : Outside) (first second : List ℕ) (slot other : ℕ)
    (result due : Answer) → old.files ≡ Some files → Opens old middle first slot → Opens middle now second other
    → (files first ≡ None → ⊥) → (files second ≡ None → ⊥)
    → ((file another : List ℕ) → file_of now slot ≡ Some file → file_of now other ≡ Some another → AreBytes file
    → AreBytes another → (due : Answer) → IsDueOf file another due → IsAnswer result due)
    → IsDue files first second due → IsAnswer result due
both-answered files old middle now first second slot other result due told opens also found held answers is =
    by (files first) (files second) refl refl is.is
  where
    by : (one two : Option (List ℕ)) → files first ≡ one → files second ≡ two → IsDueOfHeld one two due
        → IsAnswer result due
    by None two none too owed = absurd (found none)
    by (Some file) None has none owed = absurd (held none)
    by (Some file) (Some another) has too owed =
        answers file another
        (ap (option_map (λ (r : Reading). r.opened)) (first-stays old middle now first second slot other opens also)
        ∙ opened-file files old middle first file slot opens told has)
        (opened-file files middle now second another other also (opens.files ∙ told) too)
        (is.bytes first file has) (is.bytes second another too) due owed
