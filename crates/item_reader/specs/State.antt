-- What the code keeps of what stands before a place.
use Rattle.std.specs.Prelude.{◌≡◌, ℕ, ◌+◌, ◌*◌, ◌≤◌, false, List, [], map, length, All, Option, None, Some, IsSome}
use Rattle.scalar_types.specs.declared.Order.{Order}
use Rattle.dictionary.specs.declared.entries.Entry.{Entry}
use Rattle.layout_plan.specs.Plans.{plan_of}
use Rattle.layout_plan.specs.BuiltIn.{structure_fields, element_fields}
use Rattle.link_graph.specs.declared.nodes.Node.{Node}
use Rattle.type_text.specs.declared.types.Link.{Link}
use Rattle.link_graph.specs.Collected.{Bodied, Collected}
use Rattle.link_graph.specs.Graph.{all_links}
use Rattle.file_grammar.specs.Structure.{Structure, record_limit, file_limit}
use Rattle.file_grammar.specs.Record.{layout_in, reading_of}
use Rattle.file_grammar.specs.Item.{Before}
use Rattle.file_grammar.specs.MayStand.{frames_limit}
use Rattle.file_grammar.specs.Fault.{Here, has_header}
use Rattle.item_reader.specs.declared.state.State.{State}
use Rattle.item_reader.specs.Roles.{root_of}

-- ---- the records of a frame as a segment has them

-- a record of a segment as the structure that it is
abbrev pub structure_of : Bodied → Structure
structure_of r = record { at = r.node.at; class = r.node.class; instance = r.node.instance; body = r.body }

-- the node of a structure
abbrev pub node_of : List Entry → Structure → Node
node_of held s = record { at = s.at; class = s.class; instance = s.instance; root = root_of held s.class }

-- a record of a frame as a segment has it
abbrev pub bodied_of : List Entry → Structure → Bodied
bodied_of held s = record { node = node_of held s; body = s.body }

-- the records of the frame that is open: after a frame's end, which a numbering goes with, none
abbrev pub open_records : Option (List ℕ) → Collected → List Structure
open_records None segment = map structure_of segment.nodes
open_records (Some numbers) segment = []

-- ---- what stands before the place

abbrev pub frame_of : State → List Structure
frame_of s = open_records s.numbering s.segment

abbrev pub before_of : State → Before
before_of s = record {
  place = s.at;
  dictionary = s.dictionary;
  frame = frame_of s;
  load = s.load;
  frames = s.frames;
  records = s.records;
  table = s.table;
  closed = s.closed;
}

-- the place reached, in a file
abbrev pub here_in : State → List ℕ → Here
here_in s file = record { order = s.segment.order; file = file; before = before_of s }

-- ---- what is kept fits together

-- a record's body reads by the layout of its class, and it is the root that its class is
pub record IsRecord (order : Order) (held : List Entry) (r : Bodied) : Type 0 where
  pub reads : IsSome (reading_of order held (structure_of r))
  pub root_is : r.node.root ≡ root_of held r.node.class

-- The segment is the frame that is open. Each record has 14 bytes beside its body, so the load bounds the bytes given
-- and the number of records alike.
pub record IsOpen (s : State) : Type 0 where
  pub end_record : s.segment.end_record ≡ None
  pub given : s.segment.given + 14 * length s.segment.nodes ≤ s.load + length s.segment.pending
  pub header_is : s.header ≡ has_header s.dictionary (map structure_of s.segment.nodes)

-- no frame is open
pub record HasNoFrame (s : State) : Type 0 where
  pub load : s.load ≡ 0
  pub header_is : s.header ≡ false

-- the plans of FrSH and FrSE are the built-in ones
pub record AreBuiltIn (s : State) : Type 0 where
  pub structure : s.built_in.structure ≡ structure_fields
  pub element : s.built_in.element ≡ element_fields

-- The plans are those of the dictionary's entries, by which the records of the segment read; the segment is the open
-- frame, or the one that has ended; and the numbers are within their limits.
pub record IsSound (s : State) : Type 0 where
  pub low : s.at ≤ file_limit
  pub header : 40 ≤ s.at
  pub built_in : AreBuiltIn s
  pub plans : (class : ℕ) → plan_of s.plans class ≡ layout_in s.dictionary class
  pub nodes : All (IsRecord s.segment.order s.dictionary) s.segment.nodes
  pub frame : s.numbering ≡ None → IsOpen s
  pub no_frame : IsSome s.numbering → HasNoFrame s
  pub load : s.load ≤ record_limit
  pub frames : s.frames ≤ frames_limit
  pub records : s.records ≤ s.at

-- The rows are the links of the open frame's records; where a frame has ended, there are none.
pub record HasRows (s : State) (rows : List (List Link)) : Type 0 where
  pub open_is : s.numbering ≡ None → rows ≡ all_links s.plans s.segment
  pub ended_is : IsSome s.numbering → rows ≡ []

-- the links of the open frame's records are the same
abbrev pub KeepsRows : State → State → Type 0
KeepsRows old new = (rows : List (List Link)) → HasRows old rows → HasRows new rows
