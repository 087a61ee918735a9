use Rattle.std.proofs.Common.{◌≡◌, ◌*◌, ◌-◌, ◌^◌, ◌≤◌, min, drop}
use Rattle.layout_plan.specs.Marks.{product_by, numeral_of, factor_of}
use Rattle.layout_plan.proofs.marks.factor_of.Given as goal

-- the product so far times those left is the product of all, as far as it fits
abbrev pub invariant-loop-count : goal.invariant-loop-count
invariant-loop-count l = record {
  product : min (l.factor * product_by numeral_of (drop l.count-index l.counts)) (2 ^ 64 - 1) ≡ factor_of l.counts;
  capped : l.factor ≤ 2 ^ 64 - 1;
}
