use Rattle.std.proofs.Common.{map}
use Rattle.scalar_types.specs.declared.Order.TheVariants.{Little}
use Rattle.scalar_types.specs.declared.Width.TheVariants.{Eight}
use Rattle.record_values.specs.Spelling.{IsNumber, AreItems}
use Rattle.layout_plan.specs.Appends.{Appends}
use Rattle.contents_table.specs.Built.{position_in, numbers_below}
use Rattle.contents_table.specs.Tells.{name_of_number}
use Rattle.contents_table.proofs.spelling.push_name_positions.Given as goal

abbrev pub invariant-loop-frame : goal.invariant-loop-frame
invariant-loop-frame l =
    Appends
    (AreItems (IsNumber Little Eight) (map (position_in l.names (name_of_number l.names l.k))
    (numbers_below l.frame)))
    l.initial.into.items l.into.items
