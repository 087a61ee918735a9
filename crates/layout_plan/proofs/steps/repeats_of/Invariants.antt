use Rattle.layout_plan.proofs.PassLemmas.{AreRepeatsSoFar}
use Rattle.layout_plan.proofs.steps.repeats_of.Given as goal

abbrev pub invariant-loop-j : goal.invariant-loop-j
invariant-loop-j l = AreRepeatsSoFar l.steps l.j l.repeats
