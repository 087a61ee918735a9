-- The first records are marked, and the others are as they were.
use Rattle.std.proofs.Common.{◌≡◌, ◌++◌, map, take, drop}
use Rattle.link_graph.specs.Kept.{without_stat_kept}
use Rattle.link_graph.proofs.records.drop_stat_roots.Given as goal

abbrev pub invariant-loop-k : goal.invariant-loop-k
invariant-loop-k l = l.kept ≡ map without_stat_kept (take l.k l.fn.kept) ++ drop l.k l.fn.kept
