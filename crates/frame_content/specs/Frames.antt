-- Frames as lists of labelled records, with their links and roots by number.
use Rattle.std.specs.Prelude.{ℕ, List, [], ◌++◌, map, slice_index_or, Option, option_and_then}
use Rattle.std.specs.Option.{option_map_or}
use Rattle.scalar_types.specs.declared.Order.{Order}
use Rattle.record_values.specs.declared.values.Value.{Value}
use Rattle.record_values.specs.Links.{links_in}
use Rattle.dictionary.specs.declared.entries.Entry.{Entry}
use Rattle.dictionary.specs.Dictionary.{entry_of}
use Rattle.link_graph.specs.declared.nodes.Root.TheVariants.{Head, Stat}
use Rattle.link_graph.specs.Collected.{Bodied, Collected, target_of}
use Rattle.link_graph.specs.Graph.{roots_from}
use Rattle.file_grammar.specs.Record.{Reading, reading_by, layout_in}
use Rattle.frame_content.specs.Labels.{Label, label_by, no_label}

-- A record of a frame: its label, and its links in order, each null or the number of the record that it leads to.
pub record Row : Type 0 where
  pub label : Label
  pub links : List (Option ℕ)

-- A frame: its records, numbered from 0, the numbers of its roots, and the label of its end record.
pub record Frame : Type 0 where
  pub rows : List Row
  pub roots : List ℕ
  pub end : Label

-- what stands for a record past the last one
abbrev pub no_row : Row
no_row = record { label = no_label; links = [] }

abbrev pub row_at : Frame → ℕ → Row
row_at f n = slice_index_or f.rows n no_row

abbrev pub label_at : Frame → ℕ → Label
label_at f n = (row_at f n).label

-- what a record holds by the layout of its class
abbrev pub reading_in : Order → List Entry → Bodied → Option Reading
reading_in order held r = option_and_then (reading_by order r.body) (layout_in held r.node.class)

abbrev pub values_in : Order → List Entry → Bodied → List Value
values_in order held r = option_map_or (λ reading. reading.values) (reading_in order held r) []

abbrev pub label_of : Order → List Entry → Bodied → Label
label_of order held r = label_by (entry_of held r.node.class) (reading_in order held r)

-- a record among those of its frame
abbrev pub row_of : Order → List Entry → List Bodied → Bodied → Row
row_of order held nodes r = record {
  label = label_of order held r;
  links = map (target_of nodes) (links_in (values_in order held r));
}

-- The frame of these records and end record, by the entries held. Its roots are the head, and then the static data in
-- file order.
abbrev pub frame_by : Order → List Entry → List Bodied → Option Bodied → Frame
frame_by order held nodes end_record = record {
  rows = map (row_of order held nodes) nodes;
  roots = roots_from Head 0 nodes ++ roots_from Stat 0 nodes;
  end = option_map_or (label_of order held) end_record no_label;
}

abbrev pub frame_of : List Entry → Collected → Frame
frame_of held s = frame_by s.order held s.nodes s.end_record
