use Rattle.layout_plan.specs.Appends.{Appends}
use Rattle.layout_plan.proofs.RewriteLemmas.{AreRewrittenUpTo}
use Rattle.layout_plan.proofs.rewriting.push_each.Given as goal

-- the fields so far
abbrev pub invariant-loop-k : goal.invariant-loop-k
invariant-loop-k l = Appends (AreRewrittenUpTo l.order l.plan l.body l.links l.k l.next) l.fn.into.items l.into.items
