-- The records so far read.
use Rattle.std.proofs.Common.{take}
use Rattle.std.specs.Prelude.{All}
use Rattle.link_graph.specs.Graph.{ReadsBy}
use Rattle.link_graph.proofs.tests.all_read.Given as goal

abbrev pub invariant-loop-k : goal.invariant-loop-k
invariant-loop-k l = All (ReadsBy l.plans l.segment.order) (take l.k l.segment.nodes)
