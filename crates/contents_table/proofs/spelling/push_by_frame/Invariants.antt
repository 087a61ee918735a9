use Rattle.std.specs.List.{flat_map}
use Rattle.scalar_types.specs.declared.Order.TheVariants.{Little}
use Rattle.scalar_types.specs.declared.Width.TheVariants.{Eight}
use Rattle.record_values.specs.Spelling.{IsNumber, AreItems}
use Rattle.layout_plan.specs.Appends.{Appends}
use Rattle.contents_table.specs.Built.{numbers_below}
use Rattle.contents_table.proofs.RowPositions.{positions_in_frame}
use Rattle.contents_table.proofs.spelling.push_by_frame.Given as goal

abbrev pub invariant-loop-frame : goal.invariant-loop-frame
invariant-loop-frame l =
    Appends (AreItems (IsNumber Little Eight) (flat_map (positions_in_frame l.names) (numbers_below l.frame)))
    l.initial.into.items l.into.items
