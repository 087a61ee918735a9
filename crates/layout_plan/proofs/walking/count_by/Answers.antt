use Rattle.std.proofs.Common.{◌∙◌, ap, arith}
use Rattle.layout_plan.specs.Steps.{counter_value, counted_by, AreThere}
use Rattle.layout_plan.proofs.StepLemmas.{product-one}
use Rattle.layout_plan.proofs.PassLemmas.{one-counted}
use Rattle.layout_plan.proofs.walking.count_by.Goals as goal

pub extent_at-requires : goal.extent_at-requires
extent_at-requires c =
    let there : AreThere c.args.body.now c.args.ends.now c.as_slice-counters.result.now =
    rw c.as_slice-counters.ensures c.requires.there in
    there 0 _ (omega (arith, c.if-counters-eq1.true))

pub product_by-requires : goal.product_by-requires
product_by-requires c = rw c.as_slice-counters.ensures c.requires.there

pub returns-then-counters-eq1 : goal.returns-then-counters-eq1
returns-then-counters-eq1 c =
    one-counted c.extent_at.result _ (c.extent_at.ensures
    ∙ product-one (counter_value c.args.order c.args.body.now c.args.ends.now) c.as_slice-counters.result.now _
    c.if-counters-eq1.true) (omega arith)
    ∙ ap (counted_by c.args.order c.args.body.now c.args.ends.now) c.as_slice-counters.ensures

pub returns : goal.returns
returns c =
    c.product_by.ensures ∙ ap (counted_by c.args.order c.args.body.now c.args.ends.now) c.as_slice-counters.ensures
