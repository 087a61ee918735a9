-- What stands in a file, item after item: its frames, its contents table, and the way back to it.
use Rattle.std.specs.Prelude.{ℕ, List, [], ◌∷◌, ◌++◌, map, codes, option_and_then, Option, Some, None}
use Rattle.std.specs.List.{last_or}
use Rattle.std.specs.Option.{option_map_or}
use Rattle.scalar_types.specs.declared.Order.{Order}
use Rattle.dictionary.specs.declared.entries.Element.{Element}
use Rattle.dictionary.specs.declared.entries.Entry.{Entry}
use Rattle.dictionary.specs.Dictionary.{entry_of}
use Rattle.link_graph.specs.Collected.{Bodied}
use Rattle.file_grammar.specs.declared.kind.Kind.{Kind}
use Rattle.file_grammar.specs.declared.kind.Kind.TheVariants.{FrSH, FrSE, FrameH, FrEndOfFrame, FrTOC, FrEndOfFile}
use Rattle.file_grammar.specs.declared.kind.Kind.TheVariants.{Other}
use Rattle.file_grammar.specs.Structure.{Structure}
use Rattle.file_grammar.specs.Kind.{kind_of}
use Rattle.file_grammar.specs.Record.{values_of}
use Rattle.file_grammar.specs.Item.{Item, EntryItem, OtherItem, Before, nothing_yet, after}
use Rattle.file_grammar.specs.Closing.{number_named}
use Rattle.item_reader.specs.State.{bodied_of}

-- what the items bring, each by what stands before it
abbrev pub structures_brought : {X : Type 0} → (Before → Structure → List X) → Before → Item → List X
structures_brought from b (EntryItem head run entry) = []
structures_brought from b (OtherItem s) = from b s

abbrev pub brought_in : {X : Type 0} → (Before → Structure → List X) → Order → Before → List Item → List X
brought_in from order b [] = []
brought_in from order b (item ∷ items) =
    structures_brought from b item ++ brought_in from order (after order b item) items

-- A frame as it stands: the entries held at its end, its records in file order, and its end record.
pub record StoredFrame : Type 0 where
  pub held : List Entry
  pub nodes : List Bodied
  pub end : Bodied

abbrev pub frame_of_kind : Kind → Before → Structure → List StoredFrame
frame_of_kind FrEndOfFrame b s = record {
  held = b.dictionary;
  nodes = map (bodied_of b.dictionary) b.frame;
  end = bodied_of b.dictionary s;
} ∷ []
frame_of_kind FrameH b s = []
frame_of_kind Other b s = []
frame_of_kind FrTOC b s = []
frame_of_kind FrEndOfFile b s = []
frame_of_kind FrSH b s = []
frame_of_kind FrSE b s = []

-- the frame that a structure ends
abbrev pub frame_ended : Before → Structure → List StoredFrame
frame_ended b s = frame_of_kind (kind_of b.dictionary s.class) b s

-- a contents table as it stands, with the entries held there
pub record StoredTable : Type 0 where
  pub held : List Entry
  pub structure : Structure

abbrev pub table_of_kind : Kind → Before → Structure → List StoredTable
table_of_kind FrTOC b s = record { held = b.dictionary; structure = s } ∷ []
table_of_kind FrEndOfFrame b s = []
table_of_kind FrameH b s = []
table_of_kind Other b s = []
table_of_kind FrEndOfFile b s = []
table_of_kind FrSH b s = []
table_of_kind FrSE b s = []

abbrev pub table_here : Before → Structure → List StoredTable
table_here b s = table_of_kind (kind_of b.dictionary s.class) b s

-- the way back from the end of the file to the table, in bytes, that FrEndOfFile tells
abbrev pub elements_of : List Entry → ℕ → List Element
elements_of held class = option_map_or (λ e. e.elements) (entry_of held class) []

abbrev pub seek_of_kind : Order → Kind → Before → Structure → List ℕ
seek_of_kind order FrEndOfFile b s =
    number_named (elements_of b.dictionary s.class) (values_of order b.dictionary s) (codes "seekTOC") ∷ []
seek_of_kind order FrTOC b s = []
seek_of_kind order FrEndOfFrame b s = []
seek_of_kind order FrameH b s = []
seek_of_kind order Other b s = []
seek_of_kind order FrSH b s = []
seek_of_kind order FrSE b s = []

abbrev pub seek_told : Order → Before → Structure → List ℕ
seek_told order b s = seek_of_kind order (kind_of b.dictionary s.class) b s

-- The frames of a file, its contents table (a well-formed file has one at most), and what its end tells of the table.
abbrev pub frames_in : Order → List Item → List StoredFrame
frames_in order items = brought_in frame_ended order nothing_yet items

abbrev pub table_in : Order → List Item → Option StoredTable
table_in order items = last_or None (brought_in table_here order nothing_yet items)

abbrev pub seek_in : Order → List Item → Option ℕ
seek_in order items = last_or None (brought_in (seek_told order) order nothing_yet items)
