use Rattle.std.proofs.Common.{◌-◌, ◌^◌, ◌∙◌, arith}
use Rattle.layout_plan.specs.Marks.{numeral_of}
use Rattle.layout_plan.proofs.StepLemmas.{product-more}
use Rattle.layout_plan.proofs.marks.factor_of.Goals as goal

pub loop-count-preserved : goal.loop-count-preserved
loop-count-preserved c = record {
  product = product-more numeral_of c.args.counts.now c.loop-count.count-index _ c.loop-count.factor c.numeral_of.result
      c.capped_product-factor.result (2 ^ 64 - 1) (omega arith) c.numeral_of.ensures c.capped_product-factor.ensures
      ∙ c.loop-count.invariant.product;
  capped = omega (arith, c.capped_product-factor.ensures);
}
