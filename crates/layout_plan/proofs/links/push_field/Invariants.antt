use Rattle.layout_plan.specs.Appends.{Appends}
use Rattle.layout_plan.specs.Made.{IsMadeOf}
use Rattle.layout_plan.proofs.LinkLemmas.{AreFirstLinks}
use Rattle.layout_plan.proofs.links.push_field.Given as goal

-- the links so far
abbrev pub invariant-loop-i : goal.invariant-loop-i
invariant-loop-i g l =
    Appends (IsMadeOf g.T.From.from_gives (AreFirstLinks l.order l.field l.bytes l.i)) l.fn.into.items l.into.items
