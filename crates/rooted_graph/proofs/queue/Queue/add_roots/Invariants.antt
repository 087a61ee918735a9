use Rattle.std.proofs.Common.{◌≡◌, fold, length, take}
use Rattle.rooted_graph.specs.BreadthOrder.{added}
use Rattle.rooted_graph.proofs.queue.Queue.add_roots.Given as goal

abbrev pub invariant-loop-place : goal.invariant-loop-place
invariant-loop-place g l =
    record {
      nodes : l.self.nodes.items
          ≡ fold added l.initial.self.nodes.items (take l.place (g.G.LinkedNodes.graph l.graph).roots);
      size : length l.self.numbers.items ≡ length l.initial.self.numbers.items;
    }
