use Rattle.std.proofs.Common.{◌≡◌, ◌-◌, length}
use Rattle.rooted_graph.proofs.Queues.{IsQueue}
use Rattle.rooted_graph.proofs.numbering.Numbering.fill.Given as goal

abbrev pub invariant-loop-place : goal.invariant-loop-place
invariant-loop-place g l =
    record {
      queue : IsQueue (g.G.LinkedNodes.graph l.graph) l.queue.nodes.items l.place;
      size : length l.queue.numbers.items ≡ length (g.G.LinkedNodes.graph l.graph).links;
    }

abbrev pub decreases-loop-place : goal.decreases-loop-place
decreases-loop-place g l = length l.queue.numbers.items - l.place
