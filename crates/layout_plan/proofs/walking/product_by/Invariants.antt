use Rattle.std.proofs.Common.{◌≡◌, ◌*◌, ◌-◌, ◌^◌, ◌≤◌, min, drop}
use Rattle.layout_plan.specs.Marks.{product_by}
use Rattle.layout_plan.specs.Steps.{counter_value}
use Rattle.layout_plan.proofs.walking.product_by.Given as goal

-- the count so far times those left is the product of all, as far as it fits
abbrev pub invariant-loop-counter : goal.invariant-loop-counter
invariant-loop-counter l = record {
  product : min (l.count * product_by (counter_value l.order l.body l.ends) (drop l.counter-index l.counters))
      (2 ^ 64 - 1)
      ≡ min (product_by (counter_value l.order l.body l.ends) l.counters) (2 ^ 64 - 1);
  capped : l.count ≤ 2 ^ 64 - 1;
}
