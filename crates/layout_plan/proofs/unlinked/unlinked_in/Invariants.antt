use Rattle.layout_plan.proofs.UnlinkedLemmas.{AreUnlinkedUpTo}
use Rattle.layout_plan.proofs.unlinked.unlinked_in.Given as goal

-- the fields so far
abbrev pub invariant-loop-k : goal.invariant-loop-k
invariant-loop-k l = AreUnlinkedUpTo l.fn.order l.plan l.body l.k l.bytes.items
