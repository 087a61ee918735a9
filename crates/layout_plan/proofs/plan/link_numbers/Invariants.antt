use Rattle.layout_plan.specs.Links.{is_link}
use Rattle.layout_plan.proofs.MarkLemmas.{AreNumbersSoFar}
use Rattle.layout_plan.proofs.plan.link_numbers.Given as goal

abbrev pub invariant-loop-i : goal.invariant-loop-i
invariant-loop-i l = AreNumbersSoFar is_link l.fields l.i l.links
