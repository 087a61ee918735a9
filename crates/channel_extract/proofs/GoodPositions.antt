-- A table that is good has the right positions, and lists each name that a frame has.
use Rattle.std.proofs.Common.{◌≡◌, ℕ, zero, suc, ◌+◌, ◌<◌, ◌≤◌, Bool, true, false, cond, Option, Some, None, List, []}
use Rattle.std.proofs.Common.{◌∷◌, ◌++◌, length, map, refl, sym, ap, ◌∙◌, arith}
use Rattle.std.specs.Prelude.{position, slice_get, if◌then◌else◌, ◌==◌, ◌&&◌, ◌||◌}
use Rattle.std.specs.List.{list_all, list_any, range_with_len, position_from}
use Rattle.std.specs.Option.{option_map, option_map_or}
use Rattle.std.specs.Str.{bytes_eq}
use Rattle.std.proofs.lemmas.Bool.{ne_eqb}
use Rattle.std.proofs.lemmas.Iterator.Adapters.{position_from-zero}
use Rattle.std.proofs.lemmas.Option.{none-some}
use Rattle.std.proofs.lemmas.Slice.Eq.{bytes_eq-Decides}
use Rattle.contents_table.specs.declared.kind.Kind.{Kind}
use Rattle.contents_table.specs.declared.names.Listed.{Listed}
use Rattle.contents_table.specs.Built.{numbers_below, place_of}
use Rattle.contents_table.specs.Listed.{KindTable, position_at, is_listed, IsGoodKind}
use Rattle.contents_table.proofs.Positions.{position-found}
use Rattle.contents_table.proofs.PositionLemmas.{position-placed}
use Rattle.contents_table.specs.Channels.{channel_named}
use Rattle.channel_extract.specs.Cuts.{cut_before, extraction}
use Rattle.channel_extract.specs.Placed.{PlacedFrame, frame, places, channel_place}
use Rattle.channel_extract.proofs.BuiltPlaces.{or_else, or_zero, at_frame, listed_at, position-at, if_last}
use Rattle.channel_extract.proofs.BuiltPlaces.{channel_at, frames_at}

-- ---- the numbers of the frames

range-push : (a n : ℕ) → range_with_len a (suc n) ≡ range_with_len a n ++ (a + n) ∷ []
range-push a zero = ap (λ m. m ∷ []) (omega arith)
range-push a (suc n) =
    ap (λ (xs : List ℕ). a ∷ xs) (range-push (a + 1) n ∙ ap (λ m. range_with_len (a + 1) n ++ m ∷ []) (omega arith))

numbers-range : (n : ℕ) → numbers_below n ≡ range_with_len 0 n
unfolding numbers_below
numbers-range zero = refl
numbers-range (suc n) = (λ i. numbers-range n i ++ from n i ∷ []) ∙ sym (range-push 0 n)
  where
    from : (k : ℕ) → k ≡ 0 + k
    from k = omega arith

map-range : (g h : ℕ → ℕ) (a n : ℕ) → ((k : ℕ) → a ≤ k → k < a + n → g k ≡ h k)
    → map g (range_with_len a n) ≡ map h (range_with_len a n)
map-range g h a zero each = refl
map-range g h a (suc n) each =
    let here = each a (omega arith) (omega arith) in
    let rest = map-range g h (a + 1) n (λ k low high. each k (omega (arith, low)) (omega (arith, high))) in
    λ i. here i ∷ rest i

-- ---- the places of the frames by their numbers

eq-self : (n : ℕ) → (n == n) ≡ true
eq-self n = grind arith

if-own : (b : Bool) (o p : Option ℕ) → b ≡ true → or_else (if b then o else None) p ≡ or_else o p
if-own true o p is = refl
if-own false o p is = absurd (cc)

if-other : (b : Bool) (o p : Option ℕ) → b ≡ false → or_else (if b then o else None) p ≡ p
if-other true o p is = absurd (cc)
if-other false o p is = refl

none-below : (kind : Kind) (name : List ℕ) (ps : List PlacedFrame) (n k : ℕ) → k < n → frames_at kind name ps n k ≡ None
none-below kind name [] n k low = refl
none-below kind name (p ∷ ps) n k low =
    if-other (n == k) (channel_at kind name p) (frames_at kind name ps (n + 1) k)
    (ne_eqb n k (λ e. absurd (omega (arith, e, low))))
    ∙ none-below kind name ps (n + 1) k (omega (arith, low))

zero-place : (p : PlacedFrame) (o : Option ℕ)
    → or_zero (or_else (option_map (place_of (places p)) o) None) ≡ option_map_or (place_of (places p)) o 0
zero-place p None = refl
zero-place p (Some k) = refl

places-from : (kind : Kind) (name : List ℕ) (ps : List PlacedFrame) (n : ℕ)
    → map (λ k. or_zero (frames_at kind name ps n k)) (range_with_len n (length ps)) ≡ map (channel_place kind name) ps
places-from kind name [] n = refl
places-from kind name (p ∷ ps) n =
    let here : or_zero (frames_at kind name (p ∷ ps) n n) ≡ channel_place kind name p =
    ap or_zero (if-own (n == n) (channel_at kind name p) (frames_at kind name ps (n + 1) n) (eq-self n))
    ∙ ap (λ o. or_zero (or_else (channel_at kind name p) o)) (none-below kind name ps (n + 1) n (omega arith))
    ∙ zero-place p (channel_named (frame p) kind name) in
    let rest = map-range (λ k. or_zero (frames_at kind name (p ∷ ps) n k))
    (λ k. or_zero (frames_at kind name ps (n + 1) k)) (n + 1) (length ps)
    (λ k low high. ap or_zero (if-other (n == k) (channel_at kind name p) (frames_at kind name ps (n + 1) k)
    (ne_eqb n k (λ e. absurd (omega (arith, e, low)))))) ∙ places-from kind name ps (n + 1) in
    λ i. here i ∷ rest i

-- ---- a name that is listed

-- What a good table has for a name that it lists are the places of its channels.
pub good-positions : (kind : Kind) (name : List ℕ) (ps : List PlacedFrame) (listed : List Listed) (t : KindTable)
    (k : ℕ) → IsGoodKind listed t → t.frames ≡ length ps
    → ((i : ℕ) → listed_at listed name i ≡ frames_at kind name ps 0 i) → position (bytes_eq name) t.names ≡ Some k
    → map (λ i. position_at t i k) (numbers_below t.frames) ≡ map (channel_place kind name) ps
good-positions kind name ps listed t k good frames own found =
    let is = position-found (bytes_eq name) t.names k found in
    let named : slice_get t.names k ≡ Some name =
    is.is ∙ ap (λ (x : List ℕ). Some x) (sym ((bytes_eq-Decides name is.element).0 is.passes)) in
    ap (map (λ i. position_at t i k)) (numbers-range t.frames)
    ∙ map-range (λ i. position_at t i k) (λ i. or_zero (frames_at kind name ps 0 i)) 0 t.frames
    (λ i low high. position-placed t listed k i name good.positions named (omega (arith, high))
    ∙ position-at listed name i ∙ ap or_zero (own i))
    ∙ ap (λ n. map (λ i. or_zero (frames_at kind name ps 0 i)) (range_with_len 0 n)) frames
    ∙ places-from kind name ps 0

-- ---- a name that is not listed

none-from : {X : Type 0} (q : X → Bool) (i : ℕ) (xs : List X) → position_from q i xs ≡ None
    → list_any q xs ≡ false
none-from q i [] none = refl
none-from q i (x ∷ xs) none = by (q x) (none-from q (i + 1) xs) none
  where
    by : (b : Bool) → (position_from q (i + 1) xs ≡ None → list_any q xs ≡ false)
        → cond b (Some i) (position_from q (i + 1) xs) ≡ None → (b || list_any q xs) ≡ false
    by true rest none = absurd (none-some i (sym none))
    by false rest none = rest none

pub none-any : {X : Type 0} (q : X → Bool) (xs : List X) → position q xs ≡ None → list_any q xs ≡ false
none-any q xs none = none-from q 0 xs (sym (position_from-zero q xs) ∙ none)

both : (a b : Bool) → (a && b) ≡ true → (a ≡ true) × (b ≡ true)
both true b h = (refl, h)
both false b h = absurd (cc)

not-listed : (name : List ℕ) (names : List (List ℕ)) (listed : List Listed) (i : ℕ)
    → list_all (is_listed names) listed ≡ true → list_any (bytes_eq name) names ≡ false
    → listed_at listed name i ≡ None
not-listed name names [] i whole absent = refl
not-listed name names (l ∷ ls) i whole absent =
    let parts = both (is_listed names l) (list_all (is_listed names) ls) whole in
    by (bytes_eq name l.name) refl parts.0 (not-listed name names ls i parts.1 absent)
  where
    by : (b : Bool) → bytes_eq name l.name ≡ b → is_listed names l ≡ true → listed_at ls name i ≡ None
        → (if b then at_frame i l.found else listed_at ls name i) ≡ None
    by true same here rest =
        let there = ap (λ text. list_any (bytes_eq text) names) ((bytes_eq-Decides name l.name).0 same) ∙ here in
        absurd (cc)
    by false other here rest = rest

else-none : (a b : Option ℕ) → or_else a b ≡ None → (a ≡ None) × (b ≡ None)
else-none None b none = (refl, none)
else-none (Some x) b none = absurd (none-some x (sym none))

map-none : (g : ℕ → ℕ) (o : Option ℕ) → option_map g o ≡ None → o ≡ None
map-none g None none = refl
map-none g (Some x) none = absurd (none-some (g x) (sym none))

no-places : (kind : Kind) (name : List ℕ) (ps : List PlacedFrame) (n : ℕ)
    → ((i : ℕ) → frames_at kind name ps n i ≡ None) → extraction kind name (map frame ps) ≡ []
no-places kind name [] n none = refl
no-places kind name (p ∷ ps) n none =
    let here : channel_at kind name p ≡ None = (else-none (channel_at kind name p) (frames_at kind name ps (n + 1) n)
    (sym (if-own (n == n) (channel_at kind name p) (frames_at kind name ps (n + 1) n) (eq-self n)) ∙ none n)).0 in
    let absent = map-none (place_of (places p)) (channel_named (frame p) kind name) here in
    ap (λ o. option_map_or (cut_before (frame p) kind (extraction kind name (map frame ps))) o
    (extraction kind name (map frame ps))) absent
    ∙ no-places kind name ps (n + 1)
    (λ i. (else-none (if_last n i (channel_at kind name p)) (frames_at kind name ps (n + 1) i) (none i)).1)

-- No frame has a name that a good table does not list.
pub good-absent : (kind : Kind) (name : List ℕ) (ps : List PlacedFrame) (listed : List Listed) (t : KindTable)
    → IsGoodKind listed t → ((i : ℕ) → listed_at listed name i ≡ frames_at kind name ps 0 i)
    → position (bytes_eq name) t.names ≡ None → extraction kind name (map frame ps) ≡ []
good-absent kind name ps listed t good own none =
    let absent = none-any (bytes_eq name) t.names none in
    no-places kind name ps 0 (λ i. sym (own i) ∙ not-listed name t.names listed i good.whole absent)
