use Rattle.rooted_graph.proofs.Equality.{same_where_looks_same}
use Rattle.rooted_graph.proofs.laws.equal_where_orders_look_the_same.Goals as goal

pub returns : goal.returns
returns g c = same_where_looks_same
