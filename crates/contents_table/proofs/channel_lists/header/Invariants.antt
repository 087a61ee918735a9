use Rattle.std.proofs.Common.{◌≡◌, drop}
use Rattle.std.specs.Prelude.{◌==◌}
use Rattle.std.specs.List.{position_from}
use Rattle.link_graph.specs.Collected.{Bodied}
use Rattle.contents_table.proofs.channel_lists.header.Given as goal

abbrev pub invariant-loop-node : goal.invariant-loop-node
invariant-loop-node l =
    position_from (λ (r : Bodied). r.node.class == l.class) l.node (drop l.node l.segment.nodes)
    ≡ position_from (λ (r : Bodied). r.node.class == l.class) 0 l.segment.nodes
