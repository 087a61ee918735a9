-- The cut of a frame where its records stand, in their segment.
use Rattle.std.specs.Prelude.{◌≡◌, ℕ, List, map, slice_get, slice_set, All, IfSome, Some, Option}
use Rattle.std.specs.Option.{option_to_list}
use Rattle.type_text.specs.declared.types.Link.{Link}
use Rattle.dictionary.specs.declared.entries.Entry.{Entry}
use Rattle.layout_plan.specs.Layout.{AreSound}
use Rattle.layout_plan.specs.Plans.{plan_of}
use Rattle.link_graph.specs.declared.nodes.Node.{Node}
use Rattle.link_graph.specs.declared.nodes.Root.TheVariants.{Head}
use Rattle.link_graph.specs.Collected.{Bodied, Collected, link_to, target_of}
use Rattle.link_graph.specs.Graph.{Layouts, ReadsBy, roots_from}
use Rattle.frame_content.specs.Frames.{Row, Frame, frame_of, row_at}
use Rattle.contents_table.specs.declared.kind.Kind.{Kind}
use Rattle.contents_table.specs.declared.layouts.ChannelLayouts.{ChannelLayouts}
use Rattle.contents_table.specs.Layouts.{AreOf}
use Rattle.contents_table.specs.Channels.{header_of, channel_named}

-- The plans and layouts are those of the entries, record k is the channel of a name in the frame, and the head of the
-- frame is its FrameH.
pub record IsChannelIn (held : List Entry) (plans : Layouts) (layouts : ChannelLayouts) (s : Collected) (kind : Kind)
    (k : ℕ) : Type 0 where
  pub are : AreOf held plans layouts
  pub name : List ℕ
  pub named : channel_named (frame_of held s) kind name ≡ Some k
  pub heads : roots_from Head 0 s.nodes ≡ option_to_list (header_of (frame_of held s))

-- the link that leads to a record
abbrev pub own_link : Bodied → Link
own_link r = link_to r.node

-- The records are of the same classes and instances in the same order, and read by the plans. All else of the segment,
-- but their bodies and roots, is as it was.
pub record KeepsRecords (plans : Layouts) (old new : Collected) : Type 0 where
  pub order : new.order ≡ old.order
  pub records : map own_link new.nodes ≡ map own_link old.nodes
  pub end : new.end_record ≡ old.end_record
  pub pending : new.pending ≡ old.pending
  pub given : new.given ≡ old.given
  pub spare : new.spare ≡ old.spare
  pub reads : All (ReadsBy plans new.order) new.nodes

-- ---- of the inside

abbrev pub node_of : Bodied → Node
node_of r = r.node

-- the records are the same but for their bodies
abbrev pub HaveSameNodes : Collected → Collected → Type 0
HaveSameNodes old new = map node_of new.nodes ≡ map node_of old.nodes

-- the dimensions of the record's class name earlier fields
abbrev pub IsSoundBy : Layouts → Bodied → Type 0
IsSoundBy plans r = IfSome (plan_of plans r.node.class) (AreSound 0)

-- a frame with these roots
abbrev pub with_roots : List ℕ → Frame → Frame
with_roots roots f = record f { roots = roots }

-- a row with these links in place of its own, and a frame whose record n has them
abbrev pub linked_row : Row → List (Option ℕ) → Row
linked_row row links = record row { links = links }

abbrev pub relinked_at : Frame → ℕ → List (Option ℕ) → Frame
relinked_at f n links = record f { rows = slice_set f.rows n (linked_row (row_at f n) links) }

-- the link to a record leads to it: it is the first of its class and instance
abbrev pub IsTarget : Collected → ℕ → Type 0
IsTarget s n = IfSome (slice_get s.nodes n) (λ r. target_of s.nodes (own_link r) ≡ Some n)
