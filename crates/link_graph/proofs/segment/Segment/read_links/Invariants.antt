-- The rows of the records so far.
use Rattle.std.proofs.Common.{◌≡◌, map, take}
use Rattle.link_graph.specs.Graph.{links_of}
use Rattle.link_graph.proofs.segment.Segment.read_links.Given as goal

abbrev pub invariant-loop-k : goal.invariant-loop-k
invariant-loop-k l = l.links ≡ map (links_of l.plans l.self.order) (take l.k l.self.nodes)
