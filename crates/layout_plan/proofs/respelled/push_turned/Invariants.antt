use Rattle.std.proofs.Common.{◌*◌, drop}
use Rattle.scalar_types.specs.declared.Order.TheVariants.{Big, Little}
use Rattle.scalar_types.specs.Number.{size_of}
use Rattle.record_values.specs.Spelling.{IsNumber}
use Rattle.layout_plan.specs.Appends.{Appends}
use Rattle.layout_plan.proofs.RespelledLemmas.{RespellsUpTo}
use Rattle.layout_plan.proofs.respelled.push_turned.Given as goal

-- the numbers so far
abbrev pub invariant-loop-i : goal.invariant-loop-i
invariant-loop-i l =
    Appends (RespellsUpTo (IsNumber Big l.width) (IsNumber Little l.width) l.bytes
    (drop (l.i * size_of l.width) l.bytes)) l.fn.into.items l.into.items
