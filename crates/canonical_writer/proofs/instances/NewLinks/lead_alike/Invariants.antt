use Rattle.std.proofs.Common.{map, take}
use Rattle.link_graph.specs.Graph.{link_in}
use Rattle.canonical_writer.specs.NewLinks.{LeadAlike}
use Rattle.canonical_writer.proofs.instances.NewLinks.lead_alike.Given as goal

-- the links so far are written alike
abbrev pub invariant-loop-found : goal.invariant-loop-found
invariant-loop-found l =
    LeadAlike l.segment.nodes l.self l.other.nodes l.others (map link_in (take l.found-index l.read))
