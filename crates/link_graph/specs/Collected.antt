-- One frame being collected: its records with their bodies, its end record, and the body that is still to
-- be given to one of them.
use Rattle.std.specs.Prelude.{◌≡◌, ℕ, ◌==◌, ◌&&◌, Bool, true, false, if◌then◌else◌, List, [], ◌∷◌, ◌++◌}
use Rattle.std.specs.Prelude.{position, is_some, Option, Some, None}
use Rattle.scalar_types.specs.declared.Order.{Order}
use Rattle.type_text.specs.declared.types.Link.{Link}
use Rattle.link_graph.specs.declared.nodes.Root.{Root}
use Rattle.link_graph.specs.declared.nodes.Root.TheVariants.{No, Head, Stat}
use Rattle.link_graph.specs.declared.nodes.Node.{Node}

-- a record with its body
pub record Bodied : Type 0 where
  pub node : Node
  pub body : List ℕ

-- What callers know of a segment: the byte order of the bodies, the records by number, the end record, the
-- pending body, the bytes that `piece` brought since the last `clear`, and how many more it may bring
-- before memory is needed.
pub record Collected : Type 0 where
  pub order : Order
  pub nodes : List Bodied
  pub end_record : Option Bodied
  pub pending : List ℕ
  pub given : ℕ
  pub spare : ℕ

-- the record is the one that a link's class and instance name
abbrev pub is_named : Link → Node → Bool
is_named link node = node.class == link.class && node.instance == link.instance

-- the number of the first record with a link's class and instance
abbrev pub place_of : List Bodied → Link → Option ℕ
place_of nodes link = position (λ r. is_named link r.node) nodes

-- The number of a link's target among the records: none where the link is null or no record has its class and
-- instance. The end record is no target.
abbrev pub target_of : List Bodied → Link → Option ℕ
target_of nodes link = if link.class == 0 then None else place_of nodes link

-- the link that leads to a record
abbrev pub link_to : Node → Link
link_to node = record { class = node.class; instance = node.instance }

-- whether a record has the class and the instance of a node
abbrev pub is_held : List Bodied → Node → Bool
is_held nodes node = is_some (place_of nodes (link_to node))

-- whether two are the same
abbrev pub same_root : Root → Root → Bool
same_root No No = true
same_root Head Head = true
same_root Stat Stat = true
same_root root other = false

-- all is as told but the spare, of which nothing is said
pub record Becomes (new told : Collected) : Type 0 where
  pub order : new.order ≡ told.order
  pub nodes : new.nodes ≡ told.nodes
  pub end_record : new.end_record ≡ told.end_record
  pub pending : new.pending ≡ told.pending
  pub given : new.given ≡ told.given

-- a segment with nothing in it
abbrev pub nothing_in : Order → Collected
nothing_in order = record { order = order; nodes = []; end_record = None; pending = []; given = 0; spare = 0 }

-- the pending body becomes that of a new record
abbrev pub with_node : Node → Collected → Collected
with_node node s = record s { nodes = s.nodes ++ record { node = node; body = s.pending } ∷ []; pending = [] }

-- the pending body becomes that of the end record
abbrev pub with_end : Node → Collected → Collected
with_end node s = record s { end_record = Some (record { node = node; body = s.pending }); pending = [] }

-- static data are no root
abbrev pub without_stat_root : Root → Root
without_stat_root No = No
without_stat_root Head = Head
without_stat_root Stat = No

abbrev pub without_stat_node : Node → Node
without_stat_node node = record node { root = without_stat_root node.root }

abbrev pub without_stat : Bodied → Bodied
without_stat r = record { node = without_stat_node r.node; body = r.body }
