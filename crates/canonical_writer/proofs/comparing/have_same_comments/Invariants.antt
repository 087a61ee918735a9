-- the comments so far
use Rattle.std.proofs.Common.{◌≡◌, map, take}
use Rattle.canonical_writer.proofs.comparing.have_same_comments.Given as goal

abbrev pub invariant-loop-k : goal.invariant-loop-k
invariant-loop-k l = map (λ e. e.comment) (take l.k l.first) ≡ map (λ e. e.comment) (take l.k l.second)
