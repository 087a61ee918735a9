use Rattle.std.proofs.Common.{◌-◌, length, drop}
use Rattle.scalar_types.specs.declared.Order.TheVariants.{Little}
use Rattle.record_values.specs.Spelling.{IsText, IsClosedText}
use Rattle.layout_plan.specs.Appends.{Appends}
use Rattle.layout_plan.proofs.RespelledLemmas.{RespellsUpTo}
use Rattle.layout_plan.proofs.respelled.push_texts.Given as goal

-- the texts so far
abbrev pub invariant-loop-at : goal.invariant-loop-at
invariant-loop-at l =
    Appends (RespellsUpTo (IsText l.order) (IsClosedText Little) l.bytes
    (drop l.at l.bytes)) l.fn.into.items l.into.items

abbrev pub decreases-loop-at : goal.decreases-loop-at
decreases-loop-at l = length l.bytes - l.at
