use Rattle.std.proofs.Common.{◌≡◌, drop}
use Rattle.layout_plan.specs.Layout.{counts_of}
use Rattle.layout_plan.specs.Names.{count_at}
use Rattle.layout_plan.proofs.LayoutLemmas.{prefixed}
use Rattle.layout_plan.proofs.plan.counts_of.Given as goal

-- the counts so far before those of the other dimensions are those of all
abbrev pub invariant-loop-dim : goal.invariant-loop-dim
invariant-loop-dim l =
    prefixed l.counts (counts_of (count_at l.names) (drop l.dim-index l.dims)) ≡ counts_of (count_at l.names) l.dims
