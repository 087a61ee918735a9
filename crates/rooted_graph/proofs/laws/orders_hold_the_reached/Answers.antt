use Rattle.rooted_graph.proofs.Reached.{order_holds_reached}
use Rattle.rooted_graph.proofs.laws.orders_hold_the_reached.Goals as goal

pub returns : goal.returns
returns c = order_holds_reached
