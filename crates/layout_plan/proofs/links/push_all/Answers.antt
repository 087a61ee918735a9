use Rattle.std.proofs.Common.{arith}
use Rattle.layout_plan.proofs.StepLemmas.{steps-all}
use Rattle.layout_plan.proofs.links.push_all.Goals as goal

pub push_all_in-requires-clause-room : goal.push_all_in-requires-clause-room
push_all_in-requires-clause-room c = omega (arith, steps-all c.args.plan.now c.steps.result.now c.steps.ensures.steps)
