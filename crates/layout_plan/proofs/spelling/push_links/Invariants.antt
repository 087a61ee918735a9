use Rattle.record_values.specs.Spelling.{IsLink}
use Rattle.layout_plan.specs.Appends.{Appends}
use Rattle.layout_plan.proofs.RespelledLemmas.{SpellsUpTo}
use Rattle.layout_plan.proofs.spelling.push_links.Given as goal

-- the links so far
abbrev pub invariant-loop-link : goal.invariant-loop-link
invariant-loop-link l = Appends (SpellsUpTo (IsLink l.order) l.links l.link-index) l.fn.into.items l.into.items
