use Rattle.std.proofs.Common.{◌≡◌, fold, length}
use Rattle.std.specs.List.{filter_map}
use Rattle.rooted_graph.specs.BreadthOrder.{added, targets}
use Rattle.rooted_graph.proofs.queue.Queue.add_targets.Given as goal

abbrev pub invariant-loop-link : goal.invariant-loop-link
invariant-loop-link g l =
    record {
      walk : g.G.LinkedNodes.is_walk l.graph l.walk;
      nodes : fold added l.self.nodes.items (filter_map (λ link. link) (g.G.LinkedNodes.ahead l.graph l.walk))
          ≡ fold added l.initial.self.nodes.items (targets (g.G.LinkedNodes.graph l.graph) l.fn.node);
      size : length l.self.numbers.items ≡ length l.initial.self.numbers.items;
    }

abbrev pub decreases-loop-link : goal.decreases-loop-link
decreases-loop-link g l = length (g.G.LinkedNodes.ahead l.graph l.walk)
