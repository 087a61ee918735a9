use Rattle.std.proofs.Common.{arith}
use Rattle.layout_plan.proofs.StepLemmas.{steps-all}
use Rattle.layout_plan.proofs.WalkLemmas.{TellsBody-ok}
use Rattle.layout_plan.proofs.measuring.measure.Goals as goal

pub measure_in-requires : goal.measure_in-requires
measure_in-requires c = omega (arith, steps-all c.args.plan.now c.steps.result.now c.steps.ensures.steps)

pub returns-then-steps-le-FEWEST_FIELDS-clause-ok : goal.returns-then-steps-le-FEWEST_FIELDS-clause-ok
returns-then-steps-le-FEWEST_FIELDS-clause-ok c =
    TellsBody-ok c.args.order c.args.plan.now c.args.body.now c.measure_in.result c.steps.ensures.layout.sound
    c.measure_in.ensures

pub returns-clause-ok : goal.returns-clause-ok
returns-clause-ok c =
    TellsBody-ok c.args.order c.args.plan.now c.args.body.now c.measure_many.result c.steps.ensures.layout.sound
    c.measure_many.ensures
