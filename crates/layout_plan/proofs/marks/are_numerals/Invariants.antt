use Rattle.std.proofs.Common.{◌≡◌, drop}
use Rattle.layout_plan.specs.Marks.{are_numerals}
use Rattle.layout_plan.proofs.marks.are_numerals.Given as goal

abbrev pub invariant-loop-count : goal.invariant-loop-count
invariant-loop-count l = are_numerals (drop l.count-index l.counts) ≡ are_numerals l.counts
