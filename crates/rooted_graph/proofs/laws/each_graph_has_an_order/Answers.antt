use Rattle.rooted_graph.proofs.Queues.{order_exists}
use Rattle.rooted_graph.proofs.laws.each_graph_has_an_order.Goals as goal

pub returns : goal.returns
returns c = order_exists
