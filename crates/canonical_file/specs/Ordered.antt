-- Frames as labelled rooted graphs, and a frame put into the order in which its records are written.
use Rattle.std.specs.Prelude.{◌≡◌, ℕ, ◌==◌, Bool, List, map, take, count_by, Option, Some, None, filter_map}
use Rattle.type_text.specs.declared.types.Link.{Link}
use Rattle.record_values.specs.declared.values.Value.{Value}
use Rattle.record_values.specs.Links.{with_links}
use Rattle.rooted_graph.specs.SameGraph.{Labelled, SameGraph}
use Rattle.rooted_graph.specs.BreadthOrder.{number_of, IsBreadthOrder}
use Rattle.rooted_graph.specs.InOrder.{renumbered}
use Rattle.frame_content.specs.Labels.{Label, null_link}
use Rattle.frame_content.specs.Frames.{Row, Frame, row_at, label_at}

-- the frame as a labelled rooted graph
abbrev pub row_links : Row → List (Option ℕ)
row_links r = r.links

abbrev pub frame_graph : Frame → Labelled Label
frame_graph f = record {
  graph = record { links = map row_links f.rows; roots = f.roots };
  label = label_at f;
  end_label = f.end;
}

-- Two frames hold the same: their graphs are equal.
abbrev pub SameFrame : Frame → Frame → Type 0
SameFrame f g = SameGraph (frame_graph f) (frame_graph g)

-- ---- a frame in an order of its records

-- the record of a number, its links by the numbers that their targets have in the order
abbrev pub row_in : Frame → List ℕ → ℕ → Row
row_in f s n = record { label = label_at f n; links = map (renumbered s) (row_at f n).links }

-- The frame with its records in this order. A record that is not in the order is left out.
abbrev pub ordered : Frame → List ℕ → Frame
ordered f s = record { rows = map (row_in f s) s; roots = filter_map (number_of s) f.roots; end = f.end }

-- The frame is the other one in its breadth-first order.
pub record IsInOrder (f o : Frame) : Type 0 where
  pub order : List ℕ
  pub breadth : IsBreadthOrder (frame_graph f).graph order
  pub is : o ≡ ordered f order

-- ---- classes and instances, where the records are written in the order of the frame

abbrev pub class_of : Row → ℕ
class_of r = r.label.entry.class

abbrev pub class_at : Frame → ℕ → ℕ
class_at f k = class_of (row_at f k)

abbrev pub is_of_class : ℕ → Row → Bool
is_of_class class r = class_of r == class

-- the instance of a record: as many are of its class before it
abbrev pub instance_at : Frame → ℕ → ℕ
instance_at f k = count_by (is_of_class (class_at f k)) (take k f.rows)

-- the link to a record
abbrev pub new_link : Frame → Option ℕ → Link
new_link f None = null_link
new_link f (Some k) = record { class = class_at f k; instance = instance_at f k }

-- the values of a record with such links
abbrev pub new_values : Frame → Row → List Value
new_values f r = with_links r.label.values (map (new_link f) r.links)
