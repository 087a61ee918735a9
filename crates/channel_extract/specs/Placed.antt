-- The frames of a file with the places of their records.
use Rattle.std.specs.Prelude.{ℕ, ◌==◌, Bool, List, [], ◌∷◌, map, position, Option}
use Rattle.std.specs.Option.{option_map_or}
use Rattle.scalar_types.specs.declared.Order.{Order}
use Rattle.dictionary.specs.declared.entries.Entry.{Entry}
use Rattle.file_grammar.specs.declared.kind.Kind.{Kind as StructureKind}
use Rattle.file_grammar.specs.declared.kind.Kind.TheVariants.{FrSH, FrSE, FrameH, FrEndOfFrame, FrTOC, FrEndOfFile}
use Rattle.file_grammar.specs.declared.kind.Kind.TheVariants.{Other}
use Rattle.file_grammar.specs.Structure.{Structure}
use Rattle.file_grammar.specs.Kind.{kind_of}
use Rattle.file_grammar.specs.Item.{Item, Before, nothing_yet}
use Rattle.item_reader.specs.State.{bodied_of}
use Rattle.frame_content.specs.Frames.{Frame}
use Rattle.contents_table.specs.declared.kind.Kind.{Kind}
use Rattle.contents_table.specs.Channels.{header_of}
use Rattle.contents_table.specs.Built.{place_of}
use Rattle.file_content.specs.Stored.{StoredFrame, brought_in}
use Rattle.file_content.specs.Contents.{content_frame}
use Rattle.contents_table.specs.Channels.{channel_named}

-- A frame where it stands: the byte order of the file, the entries held at its end, its records in file order, and its
-- end record.
pub record PlacedFrame : Type 0 where
  pub order : Order
  pub held : List Entry
  pub records : List Structure
  pub end : Structure

-- what it holds; a record that does not read has no values and no links
abbrev pub stored : PlacedFrame → StoredFrame
stored p = record { held = p.held; nodes = map (bodied_of p.held) p.records; end = bodied_of p.held p.end }

abbrev pub frame : PlacedFrame → Frame
frame p = content_frame p.order (stored p)

-- the places of its records, and the place of its FrameH
abbrev pub place_in_file : Structure → ℕ
place_in_file s = s.at

abbrev pub places : PlacedFrame → List ℕ
places p = map place_in_file p.records

abbrev pub head_place : PlacedFrame → ℕ
head_place p = option_map_or (place_of (places p)) (header_of (frame p)) 0

-- the place of the channel of a name, or 0 where it has none
abbrev pub channel_place : Kind → List ℕ → PlacedFrame → ℕ
channel_place kind name p = option_map_or (place_of (places p)) (channel_named (frame p) kind name) 0

-- the number of the record that stands at a place
abbrev pub stands_at : ℕ → Structure → Bool
stands_at at s = s.at == at

abbrev pub record_at : PlacedFrame → ℕ → Option ℕ
record_at p at = position (stands_at at) p.records

-- the frame that a structure ends, and the frames of items
abbrev pub placed_of_kind : Order → StructureKind → Before → Structure → List PlacedFrame
placed_of_kind order FrEndOfFrame b s =
    record { order = order; held = b.dictionary; records = b.frame; end = s } ∷ []
placed_of_kind order FrameH b s = []
placed_of_kind order Other b s = []
placed_of_kind order FrTOC b s = []
placed_of_kind order FrEndOfFile b s = []
placed_of_kind order FrSH b s = []
placed_of_kind order FrSE b s = []

abbrev pub placed_ended : Order → Before → Structure → List PlacedFrame
placed_ended order b s = placed_of_kind order (kind_of b.dictionary s.class) b s

abbrev pub placed_in : Order → List Item → List PlacedFrame
placed_in order items = brought_in (placed_ended order) order nothing_yet items
