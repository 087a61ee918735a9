use Rattle.rooted_graph.proofs.Ordered.{same_in_order, counts_up}
use Rattle.rooted_graph.proofs.laws.ordered_graphs_are_equal.Goals as goal

pub returns-clause-equal : goal.returns-clause-equal
returns-clause-equal g c = same_in_order

pub returns-clause-counts_up : goal.returns-clause-counts_up
returns-clause-counts_up g c = counts_up
