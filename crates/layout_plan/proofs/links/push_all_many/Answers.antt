use Rattle.std.proofs.Common.{arith, length}
use Rattle.layout_plan.proofs.MarkLemmas.{mark_of-few}
use Rattle.layout_plan.proofs.StepLemmas.{steps-all}
use Rattle.layout_plan.proofs.links.push_all_many.Goals as goal

pub push_all_in-requires-clause-room : goal.push_all_in-requires-clause-room
push_all_in-requires-clause-room c =
    omega (arith, steps-all c.args.plan.now c.steps.result.now c.steps.ensures.steps)

pub push_all_in-requires-2-clause-room : goal.push_all_in-requires-2-clause-room
push_all_in-requires-2-clause-room c =
    omega (arith, mark_of-few c.args.plan.now (length c.args.plan.now) (omega arith), c.steps.ensures.layout.short)
