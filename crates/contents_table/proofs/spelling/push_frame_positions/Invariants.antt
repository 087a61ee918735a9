use Rattle.std.proofs.Common.{take, map}
use Rattle.scalar_types.specs.declared.Order.TheVariants.{Little}
use Rattle.scalar_types.specs.declared.Width.TheVariants.{Eight}
use Rattle.record_values.specs.Spelling.{IsNumber, AreItems}
use Rattle.layout_plan.specs.Appends.{Appends}
use Rattle.contents_table.specs.Built.{name_in, position_in}
use Rattle.contents_table.proofs.spelling.push_frame_positions.Given as goal

abbrev pub invariant-loop-k : goal.invariant-loop-k
invariant-loop-k l =
    Appends
    (AreItems (IsNumber Little Eight) (take l.k (map (λ name. position_in l.names name l.frame)
    (map name_in l.names))))
    l.initial.into.items l.into.items
