use Rattle.layout_plan.proofs.MarkLemmas.{AreMarksSoFar}
use Rattle.layout_plan.proofs.marks.marks_of.Given as goal

abbrev pub invariant-loop-field : goal.invariant-loop-field
invariant-loop-field l = AreMarksSoFar l.fields l.field-index l.marks l.mark
