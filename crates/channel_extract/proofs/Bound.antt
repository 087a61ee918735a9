-- The bytes that an extraction by a good table takes are within the bound.
use Rattle.std.proofs.Common.{◌≡◌, ℕ, zero, suc, ◌+◌, ◌≤◌, Bool, true, false, not, Option, Some, None, List, [], ◌∷◌}
use Rattle.std.proofs.Common.{map, take, refl, sym, ap, ◌∙◌, subst, arith}
use Rattle.std.specs.Prelude.{position, filter, zip, if◌then◌else◌, ◌==◌}
use Rattle.std.specs.List.{AllZip, AllByRecursion}
use Rattle.std.specs.Option.{option_map, option_map_or}
use Rattle.std.specs.Str.{bytes_eq}
use Rattle.std.proofs.lemmas.Bool.{ne_eqb}
use Rattle.std.proofs.lemmas.List.Sums.{sum_by-cons}
use Rattle.scalar_types.specs.declared.Order.{Order}
use Rattle.rooted_graph.proofs.Queues.{order_exists}
use Rattle.file_grammar.specs.Item.{Item, Before, nothing_yet}
use Rattle.contents_table.specs.declared.kind.Kind.{Kind}
use Rattle.contents_table.specs.Built.{numbers_below}
use Rattle.contents_table.specs.Listed.{KindTable, Table, position_at}
use Rattle.canonical_file.specs.Ordered.{frame_graph}
use Rattle.contents_table.specs.Channels.{channel_named}
use Rattle.channel_extract.specs.Cuts.{cut}
use Rattle.channel_extract.specs.Placed.{PlacedFrame, frame, channel_place, record_at, placed_in}
use Rattle.channel_extract.specs.Listing.{file_table}
use Rattle.channel_extract.specs.ByTable.{TableFrame, table_frames}
use Rattle.channel_extract.specs.Answers.{has_position, frames_by_names, frames_by_listing, frames_with_position}
use Rattle.channel_extract.specs.Taken.{pass_bytes, bodies, all_bodies, AreRecordsAt, AreCutRecords, IsWithinBound}
use Rattle.channel_extract.specs.Taken.{AreTableRecords, table_bodies}
use Rattle.channel_extract.specs.TableLaws.{HasGoodTable, TakenIsWithinBound}
use Rattle.channel_extract.proofs.Rising.{IsOrderly, orderly, stand-in_turn}
use Rattle.channel_extract.proofs.ChannelPlaces.{Leads, Nowhere, To, leads}
use Rattle.channel_extract.proofs.Following.{right_frame, right-frames}
use Rattle.channel_extract.proofs.Agreement.{HasRightPlaces, right-places}

-- each frame has some records of its cut
some-records : (kind : Kind) (p : PlacedFrame) (o : Option ℕ) → (s : List ℕ) × AreRecordsAt kind p s o
some-records kind p None = ([], refl)
some-records kind p (Some k) = order_exists (frame_graph (cut (frame p) kind k)).graph

abbrev with_places : Kind → List ℕ → List PlacedFrame → List TableFrame
with_places kind name ps = filter has_position (map (right_frame kind name) ps)

-- the records of all cuts, of which those of some first frames with a position are these
record AreAmong (kind : Kind) (name : List ℕ) (ps : List PlacedFrame) (taken : ℕ) : Type 0 where
  all : List (List ℕ)
  records : AllZip (AreCutRecords kind name) ps all
  most : taken ≤ all_bodies ps all

-- one more frame
more-among : (kind : Kind) (name : List ℕ) (p : PlacedFrame) (ps : List PlacedFrame) (s : List ℕ) (taken total : ℕ)
    → AreCutRecords kind name p s → total ≤ bodies p s + taken → AreAmong kind name ps taken
    → AreAmong kind name (p ∷ ps) total
more-among kind name p ps s taken total is less rest = record {
  all = s ∷ rest.all;
  records = (is, rest.records);
  most = omega (
    arith,
    less,
    rest.most,
    sum_by-cons (λ (q : PlacedFrame × List ℕ). bodies q.0 q.1) (p, s) (zip ps rest.all),
  );
}

none-taken : (kind : Kind) (name : List ℕ) (ps : List PlacedFrame) → AreAmong kind name ps 0
none-taken kind name [] = record { all = []; records = tt; most = omega arith }
none-taken kind name (p ∷ ps) =
    let s = some-records kind p (channel_named (frame p) kind name) in
    more-among kind name p ps s.0 0 0 s.1 (omega arith) (none-taken kind name ps)

if-same : {X : Type 0} (b : Bool) (x y : X) → b ≡ true → (if b then x else y) ≡ x
if-same true x y is = refl
if-same false x y is = absurd (cc)

if-other : {X : Type 0} (b : Bool) (x y : X) → b ≡ false → (if b then x else y) ≡ y
if-other true x y is = absurd (cc)
if-other false x y is = refl

-- a frame without a position is left out, one with a position stays
left-out : (kind : Kind) (name : List ℕ) (p : PlacedFrame) (ps : List PlacedFrame) → channel_place kind name p ≡ 0
    → with_places kind name (p ∷ ps) ≡ with_places kind name ps
left-out kind name p ps none =
    if-other (not (channel_place kind name p == 0)) (right_frame kind name p ∷ with_places kind name ps)
    (with_places kind name ps) (ap (λ n. not (n == 0)) none)

kept-in : (kind : Kind) (name : List ℕ) (p : PlacedFrame) (ps : List PlacedFrame) → 40 ≤ channel_place kind name p
    → with_places kind name (p ∷ ps) ≡ right_frame kind name p ∷ with_places kind name ps
kept-in kind name p ps above =
    if-same (not (channel_place kind name p == 0)) (right_frame kind name p ∷ with_places kind name ps)
    (with_places kind name ps)
    (ap not (ne_eqb (channel_place kind name p) 0 (λ e. absurd (omega (arith, e, above)))))

-- what is shown of some first ones of these frames
abbrev IsTakenOf : Kind → List ℕ → List PlacedFrame → ℕ → List (List ℕ) → List TableFrame → Type 0
IsTakenOf kind name ps count orders fs =
    AllZip (AreTableRecords kind) (take count fs) orders
    → AreAmong kind name ps (table_bodies (take count fs) orders)

abbrev AreTakenOf : Kind → List ℕ → List PlacedFrame → Type 0
AreTakenOf kind name ps =
    (count : ℕ) (orders : List (List ℕ)) → IsTakenOf kind name ps count orders (with_places kind name ps)

one-more : (kind : Kind) (name : List ℕ) (p : PlacedFrame) (ps : List PlacedFrame) (k : ℕ)
    → channel_named (frame p) kind name ≡ Some k → record_at p (channel_place kind name p) ≡ Some k
    → AreTakenOf kind name ps → (count : ℕ) (orders : List (List ℕ))
    → IsTakenOf kind name (p ∷ ps) count orders (right_frame kind name p ∷ with_places kind name ps)
one-more kind name p ps k some at rest zero orders zips = none-taken kind name (p ∷ ps)
one-more kind name p ps k some at rest (suc n) [] zips = absurd zips
one-more kind name p ps k some at rest (suc n) (o ∷ orders) zips =
    let own : AreRecordsAt kind p o (Some k) = subst (AreRecordsAt kind p o) at zips.0 in
    let is : AreCutRecords kind name p o = subst (AreRecordsAt kind p o) (sym some) own in
    subst (AreAmong kind name (p ∷ ps))
    (sym (sum_by-cons (λ (q : TableFrame × List ℕ). bodies q.0.placed q.1) (right_frame kind name p, o)
    (zip (take n (with_places kind name ps)) orders)))
    (more-among kind name p ps o (table_bodies (take n (with_places kind name ps)) orders)
    (bodies p o + table_bodies (take n (with_places kind name ps)) orders) is (omega arith) (rest n orders zips.1))

by-leads : (kind : Kind) (name : List ℕ) (p : PlacedFrame) (ps : List PlacedFrame) → Leads p kind name
    → AreTakenOf kind name ps → AreTakenOf kind name (p ∷ ps)
by-leads kind name p ps (Nowhere none zero_place) rest count orders =
    subst (IsTakenOf kind name (p ∷ ps) count orders) (sym (left-out kind name p ps zero_place))
    (λ own. more-among kind name p ps [] (table_bodies (take count (with_places kind name ps)) orders)
    (table_bodies (take count (with_places kind name ps)) orders)
    (subst (AreRecordsAt kind p []) (sym none) refl) (omega arith) (rest count orders own))
by-leads kind name p ps (To k some above at is) rest count orders =
    subst (IsTakenOf kind name (p ∷ ps) count orders) (sym (kept-in kind name p ps above))
    (one-more kind name p ps k some at rest count orders)

among : (kind : Kind) (name : List ℕ) (ps : List PlacedFrame) → AllByRecursion IsOrderly ps → AreTakenOf kind name ps
among kind name [] all zero orders zips = none-taken kind name []
among kind name [] all (suc n) orders zips = none-taken kind name []
among kind name (p ∷ ps) all count orders zips =
    by-leads kind name p ps (leads p all.0.0 kind name all.0.1) (among kind name ps all.1) count orders zips

-- the frames with a position are those that have the channel, or none where the name is not listed
data ArePlaced (kind : Kind) (name : List ℕ) (ps : List PlacedFrame) (fs : List TableFrame) : Type 0 where
  NoneListed : fs ≡ [] → ArePlaced kind name ps fs
  AllListed : fs ≡ with_places kind name ps → ArePlaced kind name ps fs

abbrev all_frames : Order → List Item → Before → Kind → List ℕ → List TableFrame
all_frames order items last kind name =
    frames_with_position kind name (placed_in order items) (file_table order items last)

abbrev if_named : List PlacedFrame → List ℕ → KindTable → Option ℕ → List TableFrame
if_named ps heads t o =
    filter has_position (option_map_or (table_frames ps heads)
    (option_map (λ k. map (λ i. position_at t i k) (numbers_below t.frames)) o) [])

named-frames : (kind : Kind) (name : List ℕ) (ps : List PlacedFrame) (table : Table) (t : KindTable)
    → HasRightPlaces kind name ps table t → (fs : List TableFrame)
    → fs ≡ if_named ps table.heads t (position (bytes_eq name) t.names) → (o : Option ℕ)
    → position (bytes_eq name) t.names ≡ o → ArePlaced kind name ps fs
named-frames kind name ps table t rights fs same None none = NoneListed (same ∙ ap (if_named ps table.heads t) none)
named-frames kind name ps table t rights fs same (Some k) some =
    AllListed (same ∙ ap (if_named ps table.heads t) some
    ∙ (λ j. filter has_position (table_frames ps (rights.heads j) (rights.positions k some j)))
    ∙ ap (filter has_position) (right-frames kind name ps))

placed : (file : List ℕ) (order : Order) (items : List Item) (last : Before) (kind : Kind) (name : List ℕ)
    → HasGoodTable file order items last kind
    → ArePlaced kind name (placed_in order items) (all_frames order items last kind name)
placed file order items last kind name is =
    let ps = placed_in order items in
    let table = ap (λ o. filter has_position (option_map_or (frames_by_listing kind name ps) o [])) is.is in
    let lists = ap (λ o. filter has_position (option_map_or (frames_by_names name ps is.table.heads) o [])) is.lists in
    named-frames kind name ps is.table is.listed (right-places file order items last kind name is)
    (all_frames order items last kind name) (table ∙ lists) (position (bytes_eq name) is.listed.names) refl

-- ---- the bound

-- so many bytes more than those of passing
bound-of : (order : Order) (items : List Item) (kind : Kind) (name : List ℕ) (taken : ℕ)
    → AreAmong kind name (placed_in order items) taken
    → IsWithinBound order items kind name (pass_bytes order items + taken)
bound-of order items kind name taken among = record {
  orders = among.all;
  records = among.records;
  within = omega (arith, among.most);
}

empty : (n : ℕ) (orders : List (List ℕ)) → table_bodies (take n []) orders ≡ 0
empty zero orders = refl
empty (suc n) orders = refl

placed-taken : (kind : Kind) (name : List ℕ) (ps : List PlacedFrame) (fs : List TableFrame) (count : ℕ)
    (orders : List (List ℕ)) → AllByRecursion IsOrderly ps → ArePlaced kind name ps fs
    → IsTakenOf kind name ps count orders fs
placed-taken kind name ps fs count orders all (NoneListed same) =
    subst (IsTakenOf kind name ps count orders) (sym same)
    (λ zips. subst (AreAmong kind name ps) (sym (empty count orders)) (none-taken kind name ps))
placed-taken kind name ps fs count orders all (AllListed same) =
    subst (IsTakenOf kind name ps count orders) (sym same) (among kind name ps all count orders)

pub within_bound : TakenIsWithinBound
within_bound file order items last kind name count orders is zips =
    let fs = all_frames order items last kind name in
    bound-of order items kind name (table_bodies (take count fs) orders)
    (placed-taken kind name (placed_in order items) fs count orders
    (orderly order items (stand-in_turn order file nothing_yet items last is.well_formed.begins.stand))
    (placed file order items last kind name is) zips)
