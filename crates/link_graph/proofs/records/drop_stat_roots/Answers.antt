use Rattle.std.proofs.Common.{rules}
use Rattle.link_graph.specs.declared.nodes.Root.TheVariants.{No}
use Rattle.link_graph.specs.declared.nodes.Kept.{Kept}
use Rattle.link_graph.proofs.Marking.{mark-more}
use Rattle.link_graph.proofs.records.drop_stat_roots.Goals as goal

pub loop-k-preserved : goal.loop-k-preserved
loop-k-preserved c =
    let none : Kept = record {
      node = record { at = 0; class = 0; instance = 0; root = No };
      span =
          record { at = 0; length = 0; era = 0 };
    } in
    mark-more c.args.kept.now c.loop-k.kept c.loop-k.k none c.without_stat_root.result (search rules)
    c.loop-k.invariant c.without_stat_root.ensures
