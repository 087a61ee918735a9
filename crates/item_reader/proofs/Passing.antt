-- The structure at the place reached, of which the 14 bytes were passed and then its body.
use Rattle.std.proofs.Common.{◌≡◌, ℕ, ◌+◌, ◌-◌, ◌<◌, ◌≤◌, true, false, IsTrue, List, [], ◌++◌, length, take, drop}
use Rattle.std.proofs.Common.{Option, Some, inl, inr, refl, sym, ap, ◌∙◌, subst, arith}
use Rattle.std.proofs.lemmas.List.{drop-drop}
use Rattle.std.proofs.lemmas.Bool.{le-leb, and_from, cond-true, cases_lt}
use Rattle.std.proofs.lemmas.Bool.{false≢true}
use Rattle.frame_head.specs.declared.structure.Common.{Common}
use Rattle.frame_outside.specs.Shelf.{Outside, Reading, reading_at}
use Rattle.structure_source.specs.Source.{Position, IsBounded, PassesNext, Appends, bytes_drawn}
use Rattle.file_grammar.specs.declared.reason.Reason.TheVariants.{CutRecord}
use Rattle.file_grammar.specs.Structure.{record_limit, common_at}
use Rattle.file_grammar.specs.Fault.{Here, place, bytes_there, length_there, here, reasons, fault_at, fault_here}
use Rattle.file_grammar.proofs.Lengths.{is_cut}
use Rattle.file_grammar.proofs.Firsts.{first_of-holds}
use Rattle.item_reader.specs.declared.cursor.Cursor.{Cursor}
use Rattle.item_reader.specs.declared.structure.Placed.{Placed}
use Rattle.item_reader.specs.Placed.{placed_at, IsStructureAt, IsPlaced, StandsIn}
use Rattle.item_reader.specs.Looked.{look, tells_length}
use Rattle.item_reader.specs.State.{before_of}
use Rattle.item_reader.specs.Cursor.{HasPassed, IsHeadOf, InFile}
use Rattle.item_reader.proofs.Located.{fault-open}

-- ---- what the head tells

pub head-told : (h : Here) (p : Placed) → IsHeadOf h p → length_there h ≡ p.length
head-told h p head =
    sym (ap (λ (q : Placed). q.length) head.placed ∙ ap (λ (c : Common). c.length) head.head.1)

-- the file ends before the structure does
pub cut-fault : (h : Here) (p : Placed) → h.before.closed ≡ false → IsHeadOf h p → IsStructureAt (place h) p
    → bytes_there h < p.length → fault_here h ≡ Some (fault_at CutRecord (place h, 0))
cut-fault h p unclosed head at short =
    let same = head-told h p head in
    let some : 14 ≤ bytes_there h = head.head.0 in
    fault-open h unclosed (omega (arith, some))
    ∙ first_of-holds CutRecord (drop 1 reasons) h (place h, 0)
    (ap (here h) (is_cut (bytes_there h) (length_there h) record_limit
    (inr (omega (arith, same, at.head), omega (arith, same, at.small), omega (arith, same, short)))))

-- it is whole
pub placed-here : (h : Here) (p : Placed) → IsHeadOf h p → IsStructureAt (place h) p → p.length ≤ bytes_there h
    → IsPlaced h.order h.file (place h) p
placed-here h p head at whole =
    let told-is = head-told h p head in
    let same : placed_at (place h) (common_at h.order h.file (place h)) ≡ p =
    ap (placed_at (place h)) (sym head.head.1) ∙ sym head.placed in
    let some : 14 ≤ bytes_there h = head.head.0 in
    subst (IsPlaced h.order h.file (place h)) same
    (record {
      is = refl;
      place = refl;
      length_is = refl;
      head = omega (arith, told-is, at.head);
      small = omega (arith, told-is, at.small);
      within = omega (arith, told-is, whole, some);
    })

-- and these bytes are its body
pub stands-here : (h : Here) (p : Placed) (body : List ℕ) → IsHeadOf h p → IsStructureAt (place h) p
    → p.length ≤ bytes_there h → body ≡ take (p.length - 14) (drop (place h + 14) h.file)
    → StandsIn h.order (place h) p body h.file
stands-here h p body head at whole is = record {
  placed = placed-here h p head at whole;
  body_is = is
      ∙ ap (take (p.length - 14)) (sym (drop-drop 14 (place h) h.file))
      ∙ ap (λ n. take (p.length - 14) (drop 14 (drop n h.file))) (sym at.place);
}

-- ---- how far was read

pub look-head : (h : Here) (p : Placed) → IsHeadOf h p → IsStructureAt (place h) p
    → look h.order h.file (place h) ≡ place h + p.length + 65536
look-head h p head at =
    let same = head-told h p head in
    let some : 14 ≤ bytes_there h = head.head.0 in
    cond-true (tells_length h.order h.file (place h)) (place h + length_there h + 65536) (place h + 65550)
    (and_from _ _ (le-leb 8 (bytes_there h) (omega (arith, some)))
    (and_from _ _ (le-leb 14 (length_there h) (omega (arith, same, at.head)))
    (le-leb (length_there h) record_limit (omega (arith, same, at.small)))))
    ∙ ap (λ n. place h + n + 65536) same

-- a source that has passed the head and then n bytes more, or tried to, has drawn no further than the look
pub passed-look : (outside : Outside) (c : Cursor) (p : Placed) (n : ℕ) (after : Position) → HasPassed outside c p
    → n + 14 ≤ p.length + 1 → IsBounded c.source n after
    → InFile outside c (λ h. bytes_drawn after ≤ look h.order h.file h.before.place)
passed-look outside c p n after passed short bounded = λ reading seen.
    let h : Here = record { order = c.state.segment.order; file = reading.opened; before = before_of c.state } in
    let far = look-head h p (passed.head reading seen) passed.here in
    omega (arith, far, bounded.few, passed.stands.few, passed.place, short, passed.here.head)

-- ---- what was passed

pub passed-cut : (outside : Outside) (c : Cursor) (p : Placed) (n : ℕ) (after : Position) → HasPassed outside c p
    → n ≡ p.length - 14 → PassesNext (reading_at outside.slots c.source.slot) c.source after n false
    → InFile outside c (λ h. fault_here h ≡ Some (fault_at CutRecord (h.before.place, 0)))
passed-cut outside c p n after passed size passes = λ reading seen.
    let h : Here = record { order = c.state.segment.order; file = reading.opened; before = before_of c.state } in
    let head = passed.head reading seen in
    let some : 14 ≤ bytes_there h = head.head.0 in
    let few : length reading.opened - c.source.at < n =
    below (length reading.opened - c.source.at) n (passes.there reading seen).1 in
    cut-fault h p passed.unclosed head passed.here
    (omega (arith, some, few, size, passed.here.head, passed.place))
  where
    below : (bytes_there n : ℕ) → (n ≤ bytes_there → IsTrue false) → bytes_there < n
    below bytes_there n no-more = elim (cases_lt bytes_there n) [
      | inl lt ↦ lt
      | inr le ↦ absurd (false≢true (no-more le))
    ]

pub passed-whole : (outside : Outside) (c : Cursor) (p : Placed) (n : ℕ) (after : Position) → HasPassed outside c p
    → n ≡ p.length - 14 → PassesNext (reading_at outside.slots c.source.slot) c.source after n true
    → InFile outside c (λ h. p.length ≤ bytes_there h)
passed-whole outside c p n after passed size passes = λ reading seen.
    let head = passed.head reading seen in
    let some : 14 ≤ length reading.opened - c.state.at = head.head.0 in
    let there : n ≤ length reading.opened - c.source.at = (passes.there reading seen).0 refl in
    omega (arith, some, there, size, passed.here.head, passed.place)

pub passed-placed : (outside : Outside) (c : Cursor) (p : Placed) (n : ℕ) (after : Position) → HasPassed outside c p
    → n ≡ p.length - 14 → PassesNext (reading_at outside.slots c.source.slot) c.source after n true
    → InFile outside c (λ h. IsPlaced h.order h.file h.before.place p)
passed-placed outside c p n after passed size passes = λ reading seen.
    placed-here (record { order = c.state.segment.order; file = reading.opened; before = before_of c.state }) p
    (passed.head reading seen) passed.here (passed-whole outside c p n after passed size passes reading seen)

-- the bytes that were passed are the body
pub passed-body : (outside : Outside) (c : Cursor) (p : Placed) (n : ℕ) (after : Position) (old new : List ℕ)
    → HasPassed outside c p → n ≡ p.length - 14
    → PassesNext (reading_at outside.slots c.source.slot) c.source after n true
    → Appends (reading_at outside.slots c.source.slot) c.source after old new → old ≡ []
    → InFile outside c (λ h. StandsIn h.order h.before.place p new h.file)
passed-body outside c p n after old new passed size passes appends none = λ reading seen.
    let h : Here = record { order = c.state.segment.order; file = reading.opened; before = before_of c.state } in
    let moved : after.at ≡ c.source.at + n = passes.all.0 refl in
    let long : length appends.bytes ≡ p.length - 14 = omega (arith, appends.passed.size, moved, size) in
    let is : new ≡ appends.bytes = appends.after_is ∙ ap (λ l. l ++ appends.bytes) none in
    stands-here h p new (passed.head reading seen) passed.here
    (passed-whole outside c p n after passed size passes reading seen)
    (is ∙ appends.passed.same reading seen
    ∙ (λ i. take (long i) (drop (passed.place i) reading.opened)))

pub passed-size : (length_there : Option Reading) (before after : Position) (p : Placed) (n : ℕ) (old new : List ℕ)
    → 14 ≤ p.length → n ≡ p.length - 14 → PassesNext length_there before after n true
    → Appends length_there before after old new
    → old ≡ [] → p.length ≡ 14 + length new
passed-size length_there before after p n old new low size passes appends none =
    let moved : after.at ≡ before.at + n = passes.all.0 refl in
    let is : new ≡ appends.bytes = appends.after_is ∙ ap (λ l. l ++ appends.bytes) none in
    omega (arith, appends.passed.size, moved, size, low, ap length is)
