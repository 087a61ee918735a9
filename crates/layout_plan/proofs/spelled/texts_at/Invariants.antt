use Rattle.layout_plan.proofs.SpelledLemmas.{AreTextsSoFar}
use Rattle.layout_plan.proofs.spelled.texts_at.Given as goal

abbrev pub invariant-loop-i : goal.invariant-loop-i
invariant-loop-i l = AreTextsSoFar l.order l.count l.bytes l._i l.at l.zeros
