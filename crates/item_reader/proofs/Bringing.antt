-- What a source tells that has passed the head of a structure, and then its body or what there is of it.
use Rattle.std.proofs.Common.{◌≡◌, ℕ, ◌+◌, ◌-◌, ◌<◌, ◌≤◌, ◌⊎◌, inl, inr, Bool, true, false, List, []}
use Rattle.std.proofs.Common.{◌++◌, length, take, drop, Option, Some, None, sym, ap, ◌∙◌, subst, arith}
use Rattle.std.proofs.lemmas.Bool.{cases_lt, false≢true}
use Rattle.scalar_types.specs.declared.Order.{Order}
use Rattle.frame_head.specs.declared.structure.Common.{Common}
use Rattle.frame_outside.specs.Shelf.{Reading}
use Rattle.frame_outside.specs.SlotReader.{most_ahead}
use Rattle.structure_source.specs.declared.source.Head.{Head}
use Rattle.structure_source.specs.declared.source.Head.TheVariants.{Whole}
use Rattle.structure_source.specs.Source.{Position, bytes_drawn, IsBounded, IsHead, PassesHead, PassesNext, Appends}
use Rattle.file_grammar.specs.declared.fault.Fault.{Fault}
use Rattle.file_grammar.specs.Structure.{common_at, left_at}
use Rattle.file_grammar.specs.Described.{element_at}
use Rattle.file_grammar.specs.Item.{Before}
use Rattle.file_grammar.specs.Fault.{fault_here}
use Rattle.item_reader.specs.declared.entries.Next.{Next}
use Rattle.item_reader.specs.declared.entries.Next.TheVariants.{Ended}
use Rattle.item_reader.specs.declared.looked.Looked.TheVariants.{Wrong}
use Rattle.item_reader.specs.Placed.{IsPlaced, body_of, placed_at}
use Rattle.item_reader.specs.Looked.{look}
use Rattle.item_reader.specs.Entries.{may_be_element, IsNext}
use Rattle.item_reader.proofs.Looking.{look-told}
use Rattle.item_reader.proofs.Candidates.{IsCandidate, candidate-tested, placed-brought}

-- ---- the head

pub passes-whole : (h : Head) (common : Common) (from to : ℕ) → PassesHead h from to → h ≡ Whole common
    → to ≡ from + 14
passes-whole h common from to passes is = subst (λ h. PassesHead h from to) is passes

-- The head of an FrSE within the limits was passed.
pub record IsHeaded (order : Order) (file : List ℕ) (at : ℕ) (common : Common) (to : ℕ) : Type 0 where
  pub head : IsHead order file at (Whole common)
  pub moved : to ≡ at + 14
  pub may : IsCandidate at common

pub headed : (order : Order) (file : List ℕ) (at place : ℕ) (h : Head) (common : Common) (to : ℕ)
    (test : Bool) → IsHead order file at h → PassesHead h at to → h ≡ Whole common
    → place ≡ at → test ≡ may_be_element place common → test ≡ true → IsHeaded order file at common to
headed order file at place h common to test head passes is here test_is may = record {
  head = subst (IsHead order file at) is head;
  moved = passes-whole h common at to passes is;
  may = candidate-tested at place common test here test_is may;
}

-- ---- the body

-- the next n bytes are not all there
pub short-of : (told : Option Reading) (before after : Position) (n : ℕ) (whole : Bool)
    → PassesNext told before after n whole → whole ≡ false → (next : Reading) → told ≡ Some next
    → left_at next.opened before.at < n
short-of told before after n whole passes is next seen = by (cases_lt (left_at next.opened before.at) n)
  where
    by : (left_at next.opened before.at < n) ⊎ (n ≤ left_at next.opened before.at)
        → left_at next.opened before.at < n
    by (inl lt) = lt
    by (inr le) = absurd (false≢true (sym is ∙ (passes.there next seen).1 le))

-- the structure that the head and the body brought are
pub placed-read : (order : Order) (at : ℕ) (common : Common) (reading next : Reading) (told : Option Reading)
    (before after : Position) (old new body : List ℕ) (whole : Bool)
    → IsHeaded order reading.opened at common before.at → told ≡ Some next → next.opened ≡ reading.opened
    → PassesNext told before after (common.length - 14) whole → whole ≡ true
    → Appends told before after old new → old ≡ [] → body ≡ new
    → IsPlaced order reading.opened at (placed_at at common)
    × (body ≡ body_of reading.opened (placed_at at common))
placed-read order at common reading next told before after old new body whole it seen same passes is appends
    none body_is =
    let n : ℕ = common.length - 14 in
    let there : n ≤ left_at next.opened before.at = (passes.there next seen).0 is in
    let passed : after.at ≡ before.at + n = passes.all.0 is in
    let size : length appends.bytes ≡ n = omega (arith, appends.passed.size, passed) in
    let bytes : body ≡ take n (drop (at + 14) reading.opened) =
    body_is ∙ appends.after_is ∙ ap (λ (xs : List ℕ). xs ++ appends.bytes) none
    ∙ appends.passed.same next seen ∙ (λ i. take (size i) (drop (it.moved i) (same i))) in
    placed-brought order reading.opened at common body it.head it.may.head it.may.small
    (omega (arith, there, it.moved, ap length same)) bytes

-- ---- how much is drawn

-- the look of the place is 65,536 bytes beyond the structure's end
look-headed : (order : Order) (file : List ℕ) (at : ℕ) (common : Common) (to : ℕ)
    → IsHeaded order file at common to → look order file at ≡ at + common.length + 65536
look-headed order file at common to it =
    let same : common.length ≡ (common_at order file at).length = ap (λ (c : Common). c.length) it.head.1 in
    let far = look-told order file at it.head.0 (omega (arith, same, it.may.head))
    (omega (arith, same, it.may.small)) in
    omega (arith, far, same)

-- what is drawn for the body is within it
pub look-brought : (order : Order) (file : List ℕ) (common : Common) (start head after : Position)
    → IsHeaded order file start.at common head.at → length start.ahead ≤ most_ahead → IsBounded start 14 head
    → IsBounded head (common.length - 14) after → bytes_drawn after ≤ look order file start.at
look-brought order file common start head after it few first second =
    omega (
      arith,
      look-headed order file start.at common head.at it,
      few,
      first.few,
      it.moved,
      second.few,
      it.may.head,
    )

-- and so is 65,536 bytes beyond a place within the structure
pub look-within : (order : Order) (file : List ℕ) (common : Common) (start head after : Position)
    → IsHeaded order file start.at common head.at → after.at ≤ head.at + (common.length - 14)
    → after.at + 65536 ≤ look order file start.at
look-within order file common start head after it within =
    omega (arith, look-headed order file start.at common head.at it, it.moved, it.may.head, within)

-- ---- what is wrong

pub next-wrong : (order : Order) (file : List ℕ) (at read : ℕ) (next : Next) (fault : Fault)
    → next ≡ Ended (Wrong fault) → element_at order file at ≡ None
    → ((before : Before) → before.place ≡ at → before.closed ≡ false
    → fault_here (record { order = order; file = file; before = before }) ≡ Some fault)
    → at ≤ read → read + 65536 ≤ look order file at → IsNext order file at next read
next-wrong order file at read next fault is none holds forward within =
    subst (λ next. IsNext order file at next read) (sym is) (none, (holds, forward, within))
