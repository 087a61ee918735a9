use Rattle.rooted_graph.proofs.Sharing.{alike_along_paths, not_equal}
use Rattle.rooted_graph.proofs.laws.paths_alone_do_not_tell.Goals as goal

pub returns : goal.returns
returns c = (alike_along_paths, not_equal)
