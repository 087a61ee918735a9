-- How many bytes of a file an extraction by its table takes at most.
use Rattle.std.specs.Prelude.{◌≡◌, ℕ, ◌+◌, ◌≤◌, if◌then◌else◌, List, [], ◌∷◌, length, sum_by, zip, slice_get}
use Rattle.std.specs.Prelude.{Option, Some, None}
use Rattle.std.specs.List.{AllZip}
use Rattle.std.specs.Option.{option_map_or}
use Rattle.scalar_types.specs.declared.Order.{Order}
use Rattle.rooted_graph.specs.BreadthOrder.{IsBreadthOrder}
use Rattle.file_grammar.specs.Structure.{Structure, size_of}
use Rattle.file_grammar.specs.Kind.{kind_of, is_target_kind}
use Rattle.file_grammar.specs.Item.{Item, EntryItem, OtherItem, Before, nothing_yet, after}
use Rattle.contents_table.specs.declared.kind.Kind.{Kind}
use Rattle.canonical_file.specs.Ordered.{frame_graph}
use Rattle.contents_table.specs.Channels.{channel_named}
use Rattle.channel_extract.specs.Cuts.{cut}
use Rattle.channel_extract.specs.Placed.{PlacedFrame, frame, record_at, placed_in}
use Rattle.channel_extract.specs.ByTable.{TableFrame}

-- of an item: the 14 bytes that begin each structure, and the bodies of all but the records that are passed over
abbrev pub item_bytes : Before → Item → ℕ
item_bytes b (EntryItem head run entry) = sum_by size_of (head ∷ run)
item_bytes b (OtherItem s) = if is_target_kind (kind_of b.dictionary s.class) then 14 else size_of s

abbrev pub items_bytes : Order → Before → List Item → ℕ
items_bytes order b [] = 0
items_bytes order b (item ∷ items) = item_bytes b item + items_bytes order (after order b item) items

-- the bytes that passing through a file takes: the header, and those of its items
abbrev pub pass_bytes : Order → List Item → ℕ
pass_bytes order items = 40 + items_bytes order nothing_yet items

-- the bodies of these records of a frame
abbrev pub body_length : Structure → ℕ
body_length s = length s.body

abbrev pub body_at : PlacedFrame → ℕ → ℕ
body_at p n = option_map_or body_length (slice_get p.records n) 0

abbrev pub bodies : PlacedFrame → List ℕ → ℕ
bodies p s = sum_by (body_at p) s

abbrev pub all_bodies : List PlacedFrame → List (List ℕ) → ℕ
all_bodies frames orders = sum_by (λ (p : PlacedFrame × List ℕ). bodies p.0 p.1) (zip frames orders)

-- the records of the frame's cut at a channel, in their order, and none where it has no such channel
abbrev pub AreRecordsAt : Kind → PlacedFrame → List ℕ → Option ℕ → Type 0
AreRecordsAt kind p s None = s ≡ []
AreRecordsAt kind p s (Some k) = IsBreadthOrder (frame_graph (cut (frame p) kind k)).graph s

abbrev pub AreCutRecords : Kind → List ℕ → PlacedFrame → List ℕ → Type 0
AreCutRecords kind name p s = AreRecordsAt kind p s (channel_named (frame p) kind name)

-- So many bytes are within the bound: those of passing, and the bodies of the records of the extraction's cuts.
pub record IsWithinBound (order : Order) (items : List Item) (kind : Kind) (name : List ℕ) (taken : ℕ) : Type 0
  where
    pub orders : List (List ℕ)
    pub records : AllZip (AreCutRecords kind name) (placed_in order items) orders
    pub within : taken ≤ pass_bytes order items + all_bodies (placed_in order items) orders

-- ---- what an extraction by the table takes

-- the records of the cut at a frame's position, in their order
abbrev pub AreTableRecords : Kind → TableFrame → List ℕ → Type 0
AreTableRecords kind p s = AreRecordsAt kind p.placed s (record_at p.placed p.at)

abbrev pub table_bodies : List TableFrame → List (List ℕ) → ℕ
table_bodies frames orders = sum_by (λ (p : TableFrame × List ℕ). bodies p.0.placed p.1) (zip frames orders)
