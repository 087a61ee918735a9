use Rattle.layout_plan.proofs.LinkLemmas.{AreCountedLinks}
use Rattle.layout_plan.proofs.links.count_links.Given as goal

-- the links of the fields so far
abbrev pub invariant-loop-field : goal.invariant-loop-field
invariant-loop-field l = AreCountedLinks l.fn.order l.plan l.fn.body l.field-items l.field-index l.count
