use Rattle.std.proofs.Common.{◌-◌}
use Rattle.contents_table.proofs.InOrder.{IsAround}
use Rattle.contents_table.proofs.names.place_in.Given as goal

abbrev pub invariant-loop-low : goal.invariant-loop-low
invariant-loop-low l = IsAround l.frame l.found l.low l.high

abbrev pub decreases-loop-low : goal.decreases-loop-low
decreases-loop-low l = l.high - l.low
