use Rattle.link_graph.proofs.FirstLoose.{none-put}
use Rattle.link_graph.proofs.rows.put_row.Goals as goal

pub loop-k-init : goal.loop-k-init
loop-k-init c = none-put c.args.segment.now.nodes c.args.links.now c.args.targets.now.items
