use Rattle.rooted_graph.proofs.Ends.{same_refl, same_sym, same_trans}
use Rattle.rooted_graph.proofs.laws.equality_is_an_equivalence.Goals as goal

pub returns-clause-reflexive : goal.returns-clause-reflexive
returns-clause-reflexive g c = same_refl

pub returns-clause-symmetric : goal.returns-clause-symmetric
returns-clause-symmetric g c = same_sym

pub returns-clause-transitive : goal.returns-clause-transitive
returns-clause-transitive g c = same_trans
