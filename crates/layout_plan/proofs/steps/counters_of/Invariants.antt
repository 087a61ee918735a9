use Rattle.std.proofs.Common.{◌≡◌, ◌++◌, drop}
use Rattle.layout_plan.specs.Steps.{counters_of}
use Rattle.layout_plan.proofs.steps.counters_of.Given as goal

-- the counters so far before those of the other dimensions are those of all
abbrev pub invariant-loop-count : goal.invariant-loop-count
invariant-loop-count l =
    l.counters ++ counters_of l.fields (drop l.count-index l.counts) ≡ counters_of l.fields l.counts
