use Rattle.std.proofs.Common.{arith, length}
use Rattle.layout_plan.proofs.MarkLemmas.{mark_of-few}
use Rattle.layout_plan.proofs.StepLemmas.{steps-all}
use Rattle.layout_plan.proofs.measuring.measure_links_many.Goals as goal

pub measure_links_in-requires : goal.measure_links_in-requires
measure_links_in-requires c =
    omega (arith, steps-all c.args.plan.now c.steps.result.now c.steps.ensures.steps)

pub measure_links_in-requires-2 : goal.measure_links_in-requires-2
measure_links_in-requires-2 c =
    omega (arith, mark_of-few c.args.plan.now (length c.args.plan.now) (omega arith), c.steps.ensures.layout.short)
