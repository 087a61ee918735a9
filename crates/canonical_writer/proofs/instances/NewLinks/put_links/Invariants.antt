use Rattle.std.proofs.Common.{◌≡◌, map, take}
use Rattle.link_graph.specs.Graph.{link_in}
use Rattle.canonical_writer.specs.NewLinks.{link_to}
use Rattle.canonical_writer.proofs.instances.NewLinks.put_links.Given as goal

-- the links so far
abbrev pub invariant-loop-found : goal.invariant-loop-found
invariant-loop-found l =
    l.into.items ≡ map (link_to l.segment.nodes l.self) (map link_in (take l.found-index l.read))
