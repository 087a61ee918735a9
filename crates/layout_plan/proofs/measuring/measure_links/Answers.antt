use Rattle.std.proofs.Common.{arith}
use Rattle.layout_plan.proofs.StepLemmas.{steps-all}
use Rattle.layout_plan.proofs.WholeLemmas.{TellsLinks-ok}
use Rattle.layout_plan.proofs.measuring.measure_links.Goals as goal

pub measure_links_in-requires : goal.measure_links_in-requires
measure_links_in-requires c = omega (arith, steps-all c.args.plan.now c.steps.result.now c.steps.ensures.steps)

pub returns-then-steps-le-FEWEST_FIELDS-clause-ok : goal.returns-then-steps-le-FEWEST_FIELDS-clause-ok
returns-then-steps-le-FEWEST_FIELDS-clause-ok c =
    TellsLinks-ok c.args.order c.args.plan.now c.args.body.now _ _ c.measure_links_in.result
    c.steps.ensures.layout.sound c.measure_links_in.ensures

pub returns-clause-ok : goal.returns-clause-ok
returns-clause-ok c =
    TellsLinks-ok c.args.order c.args.plan.now c.args.body.now _ _ c.measure_links_many.result
    c.steps.ensures.layout.sound c.measure_links_many.ensures
