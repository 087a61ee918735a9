use Rattle.std.proofs.Common.{◌∙◌}
use Rattle.rooted_graph.proofs.Firsts.{fold_more}
use Rattle.rooted_graph.proofs.queue.Queue.add_roots.Goals as goal

pub loop-place-preserved : goal.loop-place-preserved
loop-place-preserved g c =
    record {
      nodes = fold_more c.args.self.now.nodes.items (g.G.LinkedNodes.graph c.args.graph.now).roots
          c.loop-place.self.nodes.items c.add.new.self.nodes.items c.loop-place.place c.root.result c.root.ensures.root
          c.loop-place.invariant.nodes c.in_ok-add.ensures.nodes;
      size = c.add.ensures.size ∙ c.loop-place.invariant.size;
    }
