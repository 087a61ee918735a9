-- The first input is opened, and then the file is made.
use Rattle.std.proofs.Common.{◌≡◌, ℕ, ◌+◌, ◌<◌, ◌≤◌, ◌⊎◌, inl, inr, List, [], ◌∷◌, ◌++◌, length, take, drop, map}
use Rattle.std.proofs.Common.{get_or, suc, Option, Some, None, IfSome, option_map, Err, refl, sym, ap, ◌∙◌, subst}
use Rattle.std.proofs.Common.{append-nil, add-one, arith}
use Rattle.std.proofs.Math.Seq.{drop-cons}
use Rattle.std.proofs.lemmas.List.{drop-map}
use Rattle.std.proofs.lemmas.List.Elements.{All-nil}
use Rattle.std.proofs.lemmas.Option.{none-some, same_Some}
use Rattle.std.specs.Option.{option_and_then}
use Rattle.dictionary.specs.declared.entries.Entry.{Entry}
use Rattle.dictionary.specs.Dictionary.{class_named}
use Rattle.frame_head.specs.Header.{header_bytes}
use Rattle.frame_outside.specs.Shelf.{Outside, Files, Reading, Told, IsSource, IsTarget, Opens, reading_at}
use Rattle.frame_outside.specs.Shelf.{beginning_of, Slot, Source, Target, WritesPart, beginning, writing_begun}
use Rattle.frame_outside.proofs.Slots.{IsSource-opens, IsSource-made, IsSource-write, IsTarget-makes, IsTarget-write}
use Rattle.frame_outside.proofs.Slots.{IsTarget-more, reading_at-given, reading_at-made, reading_at-write}
use Rattle.canonical_file.specs.declared.closing.Closing.{Closing}
use Rattle.canonical_file.specs.Splices.{entries_used}
use Rattle.canonical_file.specs.Written.{canonical_head}
use Rattle.canonical_writer.specs.Parts.{AreConsistent, IsShortClosing}
use Rattle.canonical_writer.specs.Writer.{Writer, fresh, Stays, BeginsFile, BeginsInPart}
use Rattle.splicer.specs.declared.errors.SpliceError.{SpliceError}
use Rattle.splicer.specs.Due.{Due, IsDueFrom}
use Rattle.splicer.specs.Made.{HasMade, WritesOneFile}
use Rattle.splicer.specs.Drawn.{HasDrawn}
use Rattle.splicer.specs.Spliced.{TellsFiles, HasOpened, Ends}
use Rattle.splicer.proofs.DrawnInputs.{drawn-first}
use Rattle.splicer.proofs.Dues.{due-longer}
use Rattle.splicer.proofs.Making.{made-begun, begun-in_part, one-made, one-unmade}
use Rattle.splicer.proofs.Splicing.{HasFailed, ends-failed, ends-part, none-missed}

-- ---- an input that was opened

-- it stands at the beginning of the file of its name
given-reading : (old new : Outside) (name : List ℕ) (slot : ℕ) → Opens old new name slot
    → reading_at new.slots slot ≡ beginning_of old.files name
given-reading old new name slot opens =
    let given : Slot = Source (beginning_of old.files name) in
    ap (λ slots. reading_at slots slot) opens.slots ∙ ap (reading_at (old.slots ++ given ∷ [])) opens.number
    ∙ reading_at-given old.slots (beginning_of old.files name)

at-beginning : (held : Option (List ℕ)) (reading : Reading) → option_map beginning held ≡ Some reading → reading.at ≡ 0
at-beginning None reading is = absurd (none-some reading is)
at-beginning (Some bytes) reading is = ap (λ (r : Reading). r.at) (sym (same_Some (beginning bytes) reading is))

pub opened-beginning : (old new : Outside) (name : List ℕ) (slot : ℕ) → Opens old new name slot
    → Told (reading_at new.slots slot) (λ reading. reading.at ≡ 0)
opened-beginning old new name slot opens = λ reading told.
    at-beginning (option_and_then (λ held. held name) old.files) reading
    (sym (given-reading old new name slot opens) ∙ told)

-- a slot that writes still does
pub opened-target : (old new : Outside) (name : List ℕ) (slot target : ℕ) → Opens old new name slot
    → IsTarget old.slots target → IsTarget new.slots target
opened-target old new name slot target opens writes =
    let P : List Slot → Type 0 = λ slots. IsTarget slots target in
    subst P (sym opens.slots)
    (IsTarget-more old.slots (Source (beginning_of old.files name) ∷ []) target writes)

-- ---- the first input, once the file is made

-- the input stays a source
pub first-source : (old opened new : Outside) (name to : List ℕ) (slot target : ℕ) → Opens old opened name slot
    → BeginsFile opened new to target → IsSource new.slots slot
first-source old opened new name to slot target opens begins =
    let P : List Slot → Type 0 = λ slots. IsSource slots slot in
    subst P (sym begins.writes.slots)
    (IsSource-write begins.middle.slots target header_bytes slot
    (subst P (sym begins.makes.slots)
    (IsSource-made to opened.slots (Target (writing_begun opened.files to)) slot
    (IsSource-opens old opened name slot opens))))

-- it stands at the beginning of the file of its name
first-reading : (old opened new : Outside) (name to : List ℕ) (slot target : ℕ) → Opens old opened name slot
    → BeginsFile opened new to target → reading_at new.slots slot ≡ beginning_of old.files name
first-reading old opened new name to slot target opens begins =
    ap (λ slots. reading_at slots slot) begins.writes.slots
    ∙ reading_at-write begins.middle.slots target header_bytes slot
    ∙ ap (λ slots. reading_at slots slot) begins.makes.slots
    ∙ reading_at-made to opened.slots (writing_begun opened.files to) slot
    ∙ given-reading old opened name slot opens

pub first-beginning : (old opened new : Outside) (name to : List ℕ) (slot target : ℕ) → Opens old opened name slot
    → BeginsFile opened new to target → Told (reading_at new.slots slot) (λ reading. reading.at ≡ 0)
first-beginning old opened new name to slot target opens begins = λ reading told.
    at-beginning (option_and_then (λ held. held name) old.files) reading
    (sym (first-reading old opened new name to slot target opens begins) ∙ told)

-- the file's slot writes
pub first-target : (opened new : Outside) (to : List ℕ) (target : ℕ) → BeginsFile opened new to target
    → IsTarget new.slots target
first-target opened new to target begins =
    let P : List Slot → Type 0 = λ slots. IsTarget slots target in
    subst P (sym begins.writes.slots)
    (IsTarget-write begins.middle.slots target header_bytes target
    (IsTarget-makes opened begins.middle to target begins.makes))

-- ---- names

-- the names from one on
pub names-at : {X : Type 0} (seen : X → List ℕ) (from : List X) (number : ℕ) (x : X) (name : List ℕ)
    → number < length from → x ≡ get_or from number x → name ≡ seen x
    → drop number (map seen from) ≡ name ∷ drop (number + 1) (map seen from)
names-at seen from number x name within is seen_is =
    drop-map seen number from ∙ ap (map seen) (drop-cons from number x within)
    ∙ ap (λ y. seen y ∷ map seen (drop (suc number) from)) (sym is)
    ∙ ap (λ y. y ∷ map seen (drop (suc number) from)) (sym seen_is)
    ∙ ap (λ ys. name ∷ ys)
    (sym (drop-map seen (suc number) from) ∙ ap (λ k. drop k (map seen from)) (sym (add-one number)))

-- ---- what is due of all inputs

nothing-used : AreConsistent []
nothing-used = All-nil (λ (e : Entry). class_named [] e.name ≡ Some e.class)

head-of_none : header_bytes ≡ canonical_head []
head-of_none = sym (append-nil header_bytes)

-- nothing was drawn of it
begun-taken : (old opened new : Outside) (name to : List ℕ) (slot target : ℕ) → Opens old opened name slot
    → BeginsFile opened new to target → new.taken ≤ old.taken
begun-taken old opened new name to slot target opens begins =
    omega (arith, opens.taken, begins.makes.taken, begins.writes.taken)

-- the first input was opened, and the file begun
pub opened-first : (files : Files) (names : List (List ℕ)) (old opened new : Outside) (to name : List ℕ)
    (others : List (List ℕ)) (slot : ℕ) (w : Writer) → TellsFiles files names old to → names ≡ name ∷ others
    → (files name ≡ None → ⊥) → Opens old opened name slot → BeginsFile opened new to w.slot → w ≡ fresh w.slot
    → HasOpened files names old new to 0 slot w
opened-first files names old opened new to name others slot w tells names_are found opens begins is =
    by (files name) refl
  where
    reading : (file : List ℕ) → files name ≡ Some file → reading_at new.slots slot ≡ Some (beginning file)
    reading file held =
        first-reading old opened new name to slot w.slot opens begins
        ∙ ap (λ told. beginning_of told name) tells.told ∙ ap (option_map beginning) held

    made : HasMade old new to 1 w.slot (canonical_head [])
    made =
        let P : List ℕ → Type 0 = λ bytes. HasMade old new to 1 w.slot bytes in
        subst P head-of_none (made-begun old opened new name to slot w.slot opens begins)

    by : (held : Option (List ℕ)) → files name ≡ held → HasOpened files names old new to 0 slot w
    by None missing = absurd (found missing)
    by (Some file) held =
        record {
          tells = tells;
          name = name;
          others = others;
          names_are = names_are;
          input = file;
          held = held;
          opened = ap (option_map (λ (r : Reading). r.opened)) (reading file held);
          past = omega (arith, opens.number);
          stood = [];
          first = λ none. ap (λ (w : Writer). w.closing) is;
          none_stood = λ none. refl;
          written = record {
            made = made;
            written = ap (λ (w : Writer). w.written) is;
            error = ap (λ (w : Writer). w.error) is;
            agree = let P : Writer → Type 0 = λ w. AreConsistent (entries_used w.written.entries w.closing) in
                subst P (sym is) nothing-used;
          };
          short = let P : Option Closing → Type 0 = λ closing. IfSome closing IsShortClosing in
              subst P (sym (ap (λ (w : Writer). w.closing) is)) tt;
          due = λ due all. let P : Option Closing → Type 0 = λ closing. IsDueFrom files closing [] 0 names due in
              subst P (sym (ap (λ (w : Writer). w.closing) is)) all;
          draws = let P : Option Closing → Type 0 = λ closing. HasDrawn files names old new closing [] names in
              subst P (sym (ap (λ (w : Writer). w.closing) is))
              (drawn-first files names old new (begun-taken old opened new name to slot w.slot opens begins));
        }

-- the first input was opened, and the file not begun
pub ends-unbegun : (files : Files) (names : List (List ℕ)) (old opened new : Outside) (to name : List ℕ) (slot : ℕ)
    (due : Due) (error : SpliceError) → old.files ≡ Some files → HasFailed error → Opens old opened name slot
    → Stays opened new ⊎ BeginsInPart opened new to → IsDueFrom files None [] 0 names due
    → Ends files old new to due (Err error)
ends-unbegun files names old opened new to name slot due error told failed opens (inl stays) is =
    ends-failed files old new to due error failed (inl (stays.files ∙ opens.files ∙ told))
    (none-missed old new due (stays.misses ∙ opens.misses))
ends-unbegun files names old opened new to name slot due error told failed opens (inr part) is =
    let begun = begun-in_part old opened new name to slot opens part in
    let longer = due-longer files names None [] 0 due is in
    let P : List ℕ → Type 0 = λ bytes. HasMade old new to 1 begun.0 (take begun.1 bytes) in
    ends-part files old new to 1 begun.0 begun.1 [] longer.0 due error told failed longer.1
    (subst P head-of_none begun.3)

-- nothing was drawn of the input
pub unbegun-taken : (old opened new : Outside) (name to : List ℕ) (slot : ℕ) → Opens old opened name slot
    → Stays opened new ⊎ BeginsInPart opened new to → new.taken ≤ old.taken
unbegun-taken old opened new name to slot opens (inl stays) = omega (arith, opens.taken, stays.taken)
unbegun-taken old opened new name to slot opens (inr part) = by part.part
  where
    by : Stays part.middle new ⊎ WritesPart part.middle new part.slot header_bytes → new.taken ≤ old.taken
    by (inl stays) = omega (arith, opens.taken, part.makes.taken, stays.taken)
    by (inr writes) = omega (arith, opens.taken, part.makes.taken, writes.writes.taken)

pub one-unbegun : (old opened new : Outside) (to name : List ℕ) (slot all : ℕ) → Opens old opened name slot
    → Stays opened new ⊎ BeginsInPart opened new to → 1 ≤ all → WritesOneFile old new to all
one-unbegun old opened new to name slot all opens (inl stays) some =
    one-unmade old opened new to name all slot opens stays some
one-unbegun old opened new to name slot all opens (inr part) some =
    let begun = begun-in_part old opened new name to slot opens part in
    one-made old new to 1 all begun.0 (take begun.1 header_bytes) begun.3 some
