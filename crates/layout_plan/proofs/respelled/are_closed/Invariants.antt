use Rattle.std.proofs.Common.{◌-◌, ◌≤◌, length, take, drop}
use Rattle.scalar_types.specs.declared.Order.TheVariants.{Little}
use Rattle.record_values.specs.Spelling.{IsText, IsClosedText}
use Rattle.layout_plan.proofs.RespelledLemmas.{RespellsUpTo}
use Rattle.layout_plan.proofs.respelled.are_closed.Given as goal

-- the texts so far
abbrev pub invariant-loop-at : goal.invariant-loop-at
invariant-loop-at l = record {
  within : l.at ≤ length l.bytes;
  texts : RespellsUpTo (IsText Little) (IsClosedText Little) l.bytes (drop l.at l.bytes) (take l.at l.bytes);
}

abbrev pub decreases-loop-at : goal.decreases-loop-at
decreases-loop-at l = length l.bytes - l.at
