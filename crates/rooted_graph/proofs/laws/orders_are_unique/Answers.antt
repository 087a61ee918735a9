use Rattle.rooted_graph.proofs.Orders.{order_unique}
use Rattle.rooted_graph.proofs.laws.orders_are_unique.Goals as goal

pub returns : goal.returns
returns c = order_unique
