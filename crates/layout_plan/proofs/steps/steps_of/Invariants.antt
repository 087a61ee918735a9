use Rattle.layout_plan.proofs.StepLemmas.{AreStepsSoFar}
use Rattle.layout_plan.proofs.steps.steps_of.Given as goal

abbrev pub invariant-loop-i : goal.invariant-loop-i
invariant-loop-i l = AreStepsSoFar l.fields l.i l.steps
