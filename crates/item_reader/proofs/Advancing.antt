-- What holds of the file that a cursor reads, once the cursor has gone on.
use Rattle.std.proofs.Common.{◌≡◌, ◌<◌, ◌≤◌, ℕ, List, Result, Ok, Err, Option, Some, None, inl, inr, refl, sym}
use Rattle.std.proofs.Common.{ap, ◌∙◌, subst}
use Rattle.std.proofs.lemmas.Bool.{cases_lt, lt-ltb, le-ltb, cond-true, cond-false}
use Rattle.std.specs.Prelude.{option_map, nat_lt, ◌⊎◌, OnErr}
use Rattle.frame_outside.specs.Shelf.{Outside, Reading, Told, reading_at, reading_past}
use Rattle.frame_outside.proofs.Slots.{reading_at-pass}
use Rattle.structure_source.specs.Source.{Position, Stands, GoesOn}
use Rattle.structure_source.proofs.Going.{at-now}
use Rattle.file_grammar.specs.declared.reason.Reason.{Reason}
use Rattle.file_grammar.specs.declared.reason.Reason.TheVariants.{LengthSmall, RecordLimit}
use Rattle.file_grammar.specs.Structure.{record_limit}
use Rattle.file_grammar.specs.Fault.{Here}
use Rattle.file_grammar.specs.Steps.{size_reason}
use Rattle.item_reader.specs.declared.cursor.Cursor.{Cursor}
use Rattle.item_reader.specs.State.{before_of}
use Rattle.item_reader.specs.Cursor.{InFile}

-- the bytes that the slot was opened on are the same
told-on : (old new : Outside) (before after : Position) (P : List ℕ → Type 0) → GoesOn old new before after
    → Told (reading_at old.slots before.slot) (λ reading. P reading.opened)
    → Told (reading_at new.slots after.slot) (λ reading. P reading.opened)
told-on old new before after P goes told = λ reading seen.
    by (reading_at old.slots before.slot) told reading
    (sym (ap (reading_at new.slots) goes.slot ∙ ap (λ slots. reading_at slots before.slot) goes.draws.passes.slots
    ∙ reading_at-pass old.slots before.slot goes.draws.drawn) ∙ seen)
  where
    by : (o : Option Reading) → Told o (λ reading. P reading.opened) → (reading : Reading)
        → option_map (reading_past goes.draws.drawn) o ≡ Some reading → P reading.opened
    by None told reading is = absurd (none reading is)
      where
        none : (r : Reading) → ◌≡◌ {A = Option Reading} None (Some r) → ⊥
        none r e = cc
    by (Some r) told reading is = subst P (ap (λ (x : Reading). x.opened) (some is)) (told r refl)
      where
        some : ◌≡◌ {A = Option Reading} (Some (reading_past goes.draws.drawn r)) (Some reading)
            → reading_past goes.draws.drawn r ≡ reading
        some e = cc

-- the place judged, of two cursors that stand at one
here-same : (c d : Cursor) (file : List ℕ) → d.state.segment.order ≡ c.state.segment.order
    → before_of d.state ≡ before_of c.state
    → ◌≡◌ {A = Here} (record { order = d.state.segment.order; file = file; before = before_of d.state })
    (record { order = c.state.segment.order; file = file; before = before_of c.state })
here-same c d file order before = λ i. record { order = order i; file = file; before = before i }

-- what holds later holds before
pub in-file-before : (old new : Outside) (c d : Cursor) (P : Here → Type 0) → GoesOn old new c.source d.source
    → Stands new d.source → d.state.segment.order ≡ c.state.segment.order → before_of d.state ≡ before_of c.state
    → InFile new d P → InFile old c P
in-file-before old new c d P goes stands order before told = λ reading seen.
    let now = at-now old new c.source d.source reading goes stands seen in
    subst P (here-same c d reading.opened order before)
    (subst (λ file. P (record { order = d.state.segment.order; file = file; before = before_of d.state })) now.2
    (told now.0 now.1))

-- and what holds before holds later
pub in-file-later : (old new : Outside) (c d : Cursor) (P : Here → Type 0) → GoesOn old new c.source d.source
    → d.state.segment.order ≡ c.state.segment.order → before_of d.state ≡ before_of c.state
    → InFile old c P → InFile new d P
in-file-later old new c d P goes order before told =
    told-on old new c.source d.source
    (λ file. P (record { order = d.state.segment.order; file = file; before = before_of d.state })) goes
    (λ reading seen. subst P (sym (here-same c d reading.opened order before)) (told reading seen))

pub in-file-same : (outside : Outside) (c d : Cursor) (P : Here → Type 0) → d.source ≡ c.source
    → d.state.segment.order ≡ c.state.segment.order → before_of d.state ≡ before_of c.state
    → InFile outside d P → InFile outside c P
in-file-same outside c d P source order before told = λ reading seen.
    subst P (here-same c d reading.opened order before)
    (told reading (ap (λ (p : Position). reading_at outside.slots p.slot) source ∙ seen))

-- ---- the structure that was met

pub size-none : (n : ℕ) → size_reason n ≡ None → (14 ≤ n) × (n ≤ record_limit)
size-none n is = by (cases_lt n 14) (cases_lt record_limit n)
  where
    apart : (r : Reason) (o : Option Reason) → o ≡ Some r → o ≡ None → ⊥
    apart r o a b = cc

    small : n < 14 → ⊥
    small lt = apart LengthSmall (size_reason n) (cond-true (nat_lt n 14) _ _ (lt-ltb n 14 lt)) is

    large : 14 ≤ n → record_limit < n → ⊥
    large le lt =
        apart RecordLimit (size_reason n)
        (cond-false (nat_lt n 14) _ _ (le-ltb n 14 le)
        ∙ cond-true (nat_lt record_limit n) _ _ (lt-ltb record_limit n lt)) is

    by : (n < 14) ⊎ (14 ≤ n) → (record_limit < n) ⊎ (n ≤ record_limit) → (14 ≤ n) × (n ≤ record_limit)
    by (inl lt) other = absurd (small lt)
    by (inr le) (inl lt) = absurd (large le lt)
    by (inr le) (inr within) = (le, within)

pub on-err : {T E : Type 0} (r : Result T E) (P Q : Type 0) → (P → Q) → OnErr r P → OnErr r Q
on-err (Ok x) P Q f said = tt
on-err (Err x) P Q f said = f said
