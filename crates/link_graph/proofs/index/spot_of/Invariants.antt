-- The walk from the number where it stands ends where the whole one does.
use Rattle.std.proofs.Common.{◌-◌, length}
use Rattle.link_graph.proofs.Walks.{IsOnWay}
use Rattle.link_graph.proofs.index.spot_of.Given as goal

abbrev pub invariant-loop-to : goal.invariant-loop-to
invariant-loop-to l = IsOnWay l.links l.children l.to l.number l.digits

abbrev pub decreases-loop-to : goal.decreases-loop-to
decreases-loop-to l = length l.links - l.number
