use Rattle.layout_plan.proofs.LayoutLemmas.{IsCompiled}
use Rattle.layout_plan.proofs.plan.compile.Given as goal

abbrev pub invariant-loop-i : goal.invariant-loop-i
invariant-loop-i l = IsCompiled l.fn.entry.elements l.i l.fields l.names
