use Rattle.std.proofs.Common.{◌∙◌, drop, arith}
use Rattle.layout_plan.specs.Body.{item_count}
use Rattle.layout_plan.proofs.SpelledLemmas.{capped-more}
use Rattle.layout_plan.proofs.StepLemmas.{capped-none}
use Rattle.layout_plan.proofs.spelled.capped_count.Goals as goal

pub returns-then-count-eq0 : goal.returns-then-count-eq0
returns-then-count-eq0 c =
    capped-none c.loop-each.count (item_count c.args.numbers.now (drop c.loop-each.each-index c.args.counts.now))
    (item_count c.args.numbers.now c.args.counts.now) c.args.cap c.if-count-eq0.true c.loop-each.invariant.0

pub loop-each-preserved : goal.loop-each-preserved
loop-each-preserved c = (
  capped-more c.args.numbers.now c.args.counts.now c.loop-each.each-index _ c.loop-each.count c.extent.result
      c.capped_product-count.result c.args.cap (omega arith) c.extent.ensures c.capped_product-count.ensures
      ∙ c.loop-each.invariant.0,
  omega arith,
)
