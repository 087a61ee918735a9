use Rattle.std.proofs.Common.{◌≡◌, ◌∙◌, ◌*◌, ◌-◌, ◌^◌, min, drop, ap, arith}
use Rattle.std.proofs.lemmas.List.{drop_all}
use Rattle.layout_plan.specs.Marks.{product_by}
use Rattle.layout_plan.specs.Steps.{counter_value}
use Rattle.layout_plan.proofs.StepLemmas.{product-more, capped-none}
use Rattle.layout_plan.proofs.walking.product_by.Goals as goal

pub extent_at-requires : goal.extent_at-requires
extent_at-requires c = c.requires c.loop-counter.counter-index _ c.loop-counter-test.true

pub loop-counter-preserved : goal.loop-counter-preserved
loop-counter-preserved c = record {
  product = product-more (counter_value c.args.order c.args.body.now c.args.ends.now) c.args.counters.now
      c.loop-counter.counter-index _ c.loop-counter.count c.extent_at.result c.capped_product-count.result
      (2 ^ 64 - 1) (omega arith) c.extent_at.ensures c.capped_product-count.ensures
      ∙ c.loop-counter.invariant.product;
  capped = omega (arith, c.capped_product-count.ensures);
}

pub returns-then-count-eq0 : goal.returns-then-count-eq0
returns-then-count-eq0 c =
    let value = product_by (counter_value c.args.order c.args.body.now c.args.ends.now) in
    capped-none c.loop-counter.count (value (drop c.loop-counter.counter-index c.args.counters.now))
    (value c.args.counters.now) (2 ^ 64 - 1) c.if-count-eq0.true c.loop-counter.invariant.product

pub returns : goal.returns
returns c =
    let value = product_by (counter_value c.args.order c.args.body.now c.args.ends.now) in
    let none = ap value (drop_all c.loop-counter.counter-index c.args.counters.now c.loop-counter-test.false) in
    let whole : min (c.loop-counter.count * 1) (2 ^ 64 - 1) ≡ min (value c.args.counters.now) (2 ^ 64 - 1) =
    rw none at c.loop-counter.invariant.product in
    omega (arith, whole, c.loop-counter.invariant.capped)
