use Rattle.std.proofs.Common.{take, map}
use Rattle.std.specs.List.{flat_map}
use Rattle.scalar_types.specs.declared.Order.TheVariants.{Little}
use Rattle.scalar_types.specs.declared.Width.TheVariants.{Eight}
use Rattle.record_values.specs.Spelling.{IsNumber, AreItems}
use Rattle.layout_plan.specs.Appends.{Appends}
use Rattle.contents_table.specs.Built.{name_in}
use Rattle.contents_table.proofs.RowPositions.{positions_of_name}
use Rattle.contents_table.proofs.spelling.push_by_name.Given as goal

abbrev pub invariant-loop-k : goal.invariant-loop-k
invariant-loop-k l =
    Appends
    (AreItems (IsNumber Little Eight)
    (flat_map (positions_of_name l.names l.frames) (take l.k (map name_in l.names))))
    l.initial.into.items l.into.items
