-- The targets of the links so far, none of which is loose.
use Rattle.link_graph.proofs.FirstLoose.{ArePut}
use Rattle.link_graph.proofs.rows.put_row.Given as goal

abbrev pub invariant-loop-k : goal.invariant-loop-k
invariant-loop-k l = ArePut l.segment.nodes l.links l.fn.targets.items l.targets.items l.k
