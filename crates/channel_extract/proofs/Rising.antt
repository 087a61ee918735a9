-- In each file that is passed the places of a frame's records rise, from the header on.
use Rattle.std.proofs.Common.{◌≡◌, ℕ, zero, suc, ◌+◌, ◌<◌, ◌≤◌, Bool, true, false, cond, nat_lt, Option, Some, None}
use Rattle.std.proofs.Common.{List, [], ◌∷◌, ◌++◌, length, map, sum_by, refl, sym, ap, ◌∙◌, subst, arith}
use Rattle.std.specs.Prelude.{All, AllPairs, position, slice_index_or, if◌then◌else◌, ◌==◌, not}
use Rattle.std.specs.List.{AllByRecursion, position_or_len}
use Rattle.std.specs.Option.{option_map}
use Rattle.std.proofs.lemmas.Bool.{ne_eqb}
use Rattle.std.proofs.lemmas.Option.{same_Some, none-some}
use Rattle.scalar_types.specs.declared.Order.{Order}
use Rattle.dictionary.specs.declared.entries.Entry.{Entry}
use Rattle.file_grammar.specs.declared.kind.Kind.{Kind}
use Rattle.file_grammar.specs.declared.kind.Kind.TheVariants.{FrSH, FrSE, FrameH, FrEndOfFrame, FrTOC, FrEndOfFile}
use Rattle.file_grammar.specs.declared.kind.Kind.TheVariants.{Other}
use Rattle.file_grammar.specs.Structure.{Structure, size_of, end_of}
use Rattle.file_grammar.specs.Kind.{kind_of, is_target_kind}
use Rattle.file_grammar.specs.Record.{weight_of}
use Rattle.file_grammar.specs.Described.{entry_from}
use Rattle.file_grammar.specs.Item.{Item, EntryItem, OtherItem, Before, nothing_yet, after_kind, after}
use Rattle.file_grammar.specs.MayStand.{MayStand, Stand}
use Rattle.file_grammar.specs.Fault.{Here, place, kind, structure}
use Rattle.file_grammar.specs.Steps.{item_by}
use Rattle.file_grammar.proofs.Advance.{place-after_kind}
use Rattle.contents_table.specs.Built.{place_of}
use Rattle.file_content.specs.Stored.{structures_brought, brought_in}
use Rattle.channel_extract.specs.Passing.{after_passing, Pass}
use Rattle.channel_extract.specs.Placed.{PlacedFrame, place_in_file, stands_at, placed_of_kind, placed_ended, placed_in}
use Rattle.channel_extract.specs.TableLaws.{PlacesRise}

-- the places of the records rise, from low on and below high
abbrev pub Rise : ℕ → List Structure → ℕ → Type 0
Rise low [] high = low ≤ high
Rise low (s ∷ ss) high = (low ≤ s.at) × Rise (suc s.at) ss high

-- a frame whose places rise
abbrev pub IsOrderly : PlacedFrame → Type 0
IsOrderly p = (high : ℕ) × Rise 40 p.records high

-- ---- the record at a place

pub place-above : (low : ℕ) (ss : List Structure) (high k : ℕ) → Rise low ss high → k < length ss
    → low ≤ place_of (map place_in_file ss) k
place-above low [] high k rise within = absurd (omega (arith, within))
place-above low (s ∷ ss) high zero rise within = rise.0
place-above low (s ∷ ss) high (suc k) rise within =
    omega (arith, rise.0, place-above (suc s.at) ss high k rise.1 (omega (arith, within)))

eq-self : (n : ℕ) → (n == n) ≡ true
eq-self n = grind arith

found-first : (b : Bool) (n : ℕ) → b ≡ true → cond (not b) (1 + n) 0 ≡ 0
found-first true n h = refl
found-first false n h = absurd (cc)

found-later : (b : Bool) (n : ℕ) → b ≡ false → cond (not b) (1 + n) 0 ≡ suc n
found-later false n h = omega arith
found-later true n h = absurd (cc)

first-at : (low : ℕ) (ss : List Structure) (high k : ℕ) → Rise low ss high → k < length ss
    → position_or_len (stands_at (place_of (map place_in_file ss) k)) ss ≡ k
first-at low [] high k rise within = absurd (omega (arith, within))
first-at low (s ∷ ss) high zero rise within =
    found-first (s.at == s.at) (position_or_len (stands_at s.at) ss) (eq-self s.at)
first-at low (s ∷ ss) high (suc k) rise within =
    let q = place_of (map place_in_file ss) k in
    let above : suc s.at ≤ q = place-above (suc s.at) ss high k rise.1 (omega (arith, within)) in
    let other : (s.at == q) ≡ false = ne_eqb s.at q (λ e. absurd (omega (arith, e, above))) in
    found-later (s.at == q) (position_or_len (stands_at q) ss) other
    ∙ ap suc (first-at (suc s.at) ss high k rise.1 (omega (arith, within)))

within-some : (n len k : ℕ) → n ≡ k → k < len → cond (nat_lt n len) (Some n) None ≡ Some k
within-some n len k same within = grind (arith, same, within)

pub position-at : (low : ℕ) (ss : List Structure) (high k : ℕ) → Rise low ss high → k < length ss
    → position (stands_at (place_of (map place_in_file ss) k)) ss ≡ Some k
position-at low ss high k rise within =
    within-some (position_or_len (stands_at (place_of (map place_in_file ss) k)) ss) (length ss) k
    (first-at low ss high k rise within) within

-- ---- one more item

rise-wider : (low : ℕ) (ss : List Structure) (high higher : ℕ) → Rise low ss high → high ≤ higher → Rise low ss higher
rise-wider low [] high higher rise more = omega (arith, rise, more)
rise-wider low (s ∷ ss) high higher rise more = (rise.0, rise-wider (suc s.at) ss high higher rise.1 more)

rise-pushed : (low : ℕ) (ss : List Structure) (high : ℕ) (s : Structure) (next : ℕ) → Rise low ss high → high ≤ s.at
    → s.at < next → Rise low (ss ++ s ∷ []) next
rise-pushed low [] high s next rise from to = (omega (arith, rise, from), omega (arith, to))
rise-pushed low (t ∷ ts) high s next rise from to =
    (rise.0, rise-pushed (suc t.at) ts high s next rise.1 from to)

rise-through : (low : ℕ) (ss : List Structure) (high : ℕ) → Rise low ss high → low ≤ high
rise-through low [] high rise = rise
rise-through low (s ∷ ss) high rise = omega (arith, rise.0, rise-through (suc s.at) ss high rise.1)

rise-kind : (kind : Kind) (b : Before) (s : Structure) (weight : ℕ) → Rise 40 b.frame b.place → s.at ≡ b.place
    → s.at < end_of s → Rise 40 (after_kind kind b s weight).frame (end_of s)
rise-kind FrameH b s weight rise here past = rise-pushed 40 b.frame b.place s (end_of s) rise (omega (arith, here)) past
rise-kind Other b s weight rise here past = rise-pushed 40 b.frame b.place s (end_of s) rise (omega (arith, here)) past
rise-kind FrEndOfFrame b s weight rise here past =
    omega (arith, rise-through 40 b.frame b.place rise, here, past)
rise-kind FrTOC b s weight rise here past = rise-wider 40 b.frame b.place (end_of s) rise (omega (arith, here, past))
rise-kind FrEndOfFile b s weight rise here past =
    rise-wider 40 b.frame b.place (end_of s) rise (omega (arith, here, past))
rise-kind FrSH b s weight rise here past = rise-wider 40 b.frame b.place (end_of s) rise (omega (arith, here, past))
rise-kind FrSE b s weight rise here past = rise-wider 40 b.frame b.place (end_of s) rise (omega (arith, here, past))

-- where an item stands
abbrev at_of : Item → ℕ
at_of (EntryItem head run entry) = head.at
at_of (OtherItem s) = s.at

rise-item : (order : Order) (b : Before) (item : Item) → at_of item ≡ b.place → Rise 40 b.frame b.place
    → Rise 40 (after order b item).frame (after order b item).place
rise-item order b (EntryItem head run entry) here rise =
    rise-wider 40 b.frame b.place (end_of head + sum_by size_of run) rise (omega (arith, here))
rise-item order b (OtherItem s) here rise =
    let k = kind_of b.dictionary s.class in
    let weight = weight_of order b.dictionary s in
    subst (Rise 40 (after_kind k b s weight).frame) (sym (place-after_kind k b s weight))
    (rise-kind k b s weight rise here (omega arith))

-- ---- the frames of items

pub all-joined : {X : Type 0} (P : X → Type 0) (xs ys : List X) → AllByRecursion P xs → AllByRecursion P ys
    → AllByRecursion P (xs ++ ys)
all-joined P [] ys left right = right
all-joined P (x ∷ xs) ys left right = (left.0, all-joined P xs ys left.1 right)

orderly-kind : (k : Kind) (order : Order) (b : Before) (s : Structure) → Rise 40 b.frame b.place
    → AllByRecursion IsOrderly (placed_of_kind order k b s)
orderly-kind FrEndOfFrame order b s rise = ((b.place, rise), tt)
orderly-kind FrameH order b s rise = tt
orderly-kind Other order b s rise = tt
orderly-kind FrTOC order b s rise = tt
orderly-kind FrEndOfFile order b s rise = tt
orderly-kind FrSH order b s rise = tt
orderly-kind FrSE order b s rise = tt

orderly-item : (order : Order) (b : Before) (item : Item) → Rise 40 b.frame b.place
    → AllByRecursion IsOrderly (structures_brought (placed_ended order) b item)
orderly-item order b (EntryItem head run entry) rise = tt
orderly-item order b (OtherItem s) rise = orderly-kind (kind_of b.dictionary s.class) order b s rise

-- the items stand one after another
abbrev pub AreInTurn : Order → Before → List Item → Type 0
AreInTurn order b [] = Unit {0}
AreInTurn order b (item ∷ items) = (at_of item ≡ b.place) × AreInTurn order (after order b item) items

orderly-items : (order : Order) (b : Before) (items : List Item) → AreInTurn order b items → Rise 40 b.frame b.place
    → AllByRecursion IsOrderly (brought_in (placed_ended order) order b items)
orderly-items order b [] turn rise = tt
orderly-items order b (item ∷ items) turn rise =
    all-joined IsOrderly (structures_brought (placed_ended order) b item)
    (brought_in (placed_ended order) order (after order b item) items) (orderly-item order b item rise)
    (orderly-items order (after order b item) items turn.1 (rise-item order b item turn.0 rise))

pub orderly : (order : Order) (items : List Item) → AreInTurn order nothing_yet items
    → AllByRecursion IsOrderly (placed_in order items)
orderly order items turn = orderly-items order nothing_yet items turn (omega arith)

-- ---- items that stand, and items that are passed

stands-here : (order : Order) (file : List ℕ) (b : Before) (item : Item) → MayStand order file b item
    → at_of item ≡ b.place
stands-here order file b (EntryItem head run entry) may = may.1.here
stands-here order file b (OtherItem s) may = may.1.here

pub stand-in_turn : (order : Order) (file : List ℕ) (b : Before) (items : List Item) (last : Before)
    → Stand order file b items last → AreInTurn order b items
stand-in_turn order file b [] last stand = tt
stand-in_turn order file b (item ∷ items) last stand =
    (stands-here order file b item stand.0, stand-in_turn order file (after order b item) items last stand.1)

entry-at : (h : Here) (run : List Structure) (o : Option Entry) (item : Item)
    → option_map (λ entry. EntryItem (structure h) run entry) o ≡ Some item → at_of item ≡ place h
entry-at h run None item is = absurd (none-some item is)
entry-at h run (Some entry) item is = ap at_of (sym (same_Some (EntryItem (structure h) run entry) item is))

other-at : (h : Here) (item : Item) → ◌≡◌ {A = Option Item} (Some (OtherItem (structure h))) (Some item)
    → at_of item ≡ place h
other-at h item is = ap at_of (sym (same_Some (OtherItem (structure h)) item is))

item-at : (h : Here) (k : Kind) (item : Item) → item_by k h ≡ Some item → at_of item ≡ place h
item-at h FrSH item is = entry-at h _ (entry_from h.order h.file (structure h)) item is
item-at h FrSE item is = other-at h item is
item-at h FrameH item is = other-at h item is
item-at h FrEndOfFrame item is = other-at h item is
item-at h FrTOC item is = other-at h item is
item-at h FrEndOfFile item is = other-at h item is
item-at h Other item is = other-at h item is

abbrev with_load : Before → ℕ → Before
with_load b l = record b { load = l }

same-kind : (k : Kind) (b : Before) (l : ℕ) (s : Structure) (own other : ℕ)
    → (m : ℕ) × (after_kind k (with_load b l) s other ≡ with_load (after_kind k b s own) m)
same-kind FrameH b l s own other = (l + other, refl)
same-kind Other b l s own other = (l + other, refl)
same-kind FrEndOfFrame b l s own other = (0, refl)
same-kind FrTOC b l s own other = (l, refl)
same-kind FrEndOfFile b l s own other = (l, refl)
same-kind FrSH b l s own other = (l, refl)
same-kind FrSE b l s own other = (l, refl)

-- an item that is passed changes what stands before the place as it does where it stands, but for the load
pub same-after : (order : Order) (b : Before) (l : ℕ) (item : Item)
    → (m : ℕ) × (after_passing order (with_load b l) item ≡ with_load (after order b item) m)
same-after order b l (EntryItem head run entry) = (l, refl)
same-after order b l (OtherItem s) =
    let k = kind_of b.dictionary s.class in
    same-kind k b l s (weight_of order b.dictionary s)
    (if is_target_kind k then size_of s else weight_of order b.dictionary s)

pub pass-in_turn : (order : Order) (file : List ℕ) (b : Before) (l : ℕ) (items : List Item) (last : Before)
    → Pass order file (with_load b l) items last → AreInTurn order b items
pass-in_turn order file b l [] last pass = tt
pass-in_turn order file b l (item ∷ items) last pass =
    let h : Here = record { order = order; file = file; before = with_load b l } in
    let next = same-after order b l item in
    let moved : Pass order file (with_load (after order b item) next.0) items last =
    subst (λ (x : Before). Pass order file x items last) next.1 pass.3 in
    (item-at h (kind h) item pass.2, pass-in_turn order file (after order b item) next.0 items last moved)

-- ---- all pairs of records

above : (low : ℕ) (ss : List Structure) (high k : ℕ) (d : Structure) → Rise low ss high → k < length ss
    → low ≤ (slice_index_or ss k d).at
above low [] high k d rise within = absurd (omega (arith, within))
above low (s ∷ ss) high zero d rise within = rise.0
above low (s ∷ ss) high (suc k) d rise within =
    omega (arith, rise.0, above (suc s.at) ss high k d rise.1 (omega (arith, within)))

pairs-rise : (low : ℕ) (ss : List Structure) (high : ℕ) → Rise low ss high
    → AllPairs (λ (s t : Structure). s.at < t.at) ss
pairs-rise low [] high rise i j d before within = absurd (omega (arith, within))
pairs-rise low (s ∷ ss) high rise i zero d before within = absurd (omega (arith, before))
pairs-rise low (s ∷ ss) high rise zero (suc j) d before within =
    above (suc s.at) ss high j d rise.1 (omega (arith, within))
pairs-rise low (s ∷ ss) high rise (suc i) (suc j) d before within =
    pairs-rise (suc s.at) ss high rise.1 i j d (omega (arith, before)) (omega (arith, within))

all-rise : (ps : List PlacedFrame) → AllByRecursion IsOrderly ps
    → All (λ (p : PlacedFrame). AllPairs (λ (s t : Structure). s.at < t.at) p.records) ps
all-rise [] all k d within = absurd (omega (arith, within))
all-rise (p ∷ ps) all zero d within = pairs-rise 40 p.records all.0.0 all.0.1
all-rise (p ∷ ps) all (suc k) d within = all-rise ps all.1 k d (omega (arith, within))

pub places_rise : PlacesRise
places_rise file order items last passed =
    all-rise (placed_in order items)
    (orderly order items (pass-in_turn order file nothing_yet 0 items last passed.to.pass))
