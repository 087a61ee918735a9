use Rattle.std.proofs.Common.{take, map}
use Rattle.scalar_types.specs.declared.Order.TheVariants.{Little}
use Rattle.record_values.specs.Spelling.{IsClosedText, AreItems}
use Rattle.layout_plan.specs.Appends.{Appends}
use Rattle.contents_table.specs.Built.{name_in}
use Rattle.contents_table.proofs.spelling.push_names.Given as goal

abbrev pub invariant-loop-k : goal.invariant-loop-k
invariant-loop-k l =
    Appends (AreItems (IsClosedText Little) (take l.k (map name_in l.names))) l.initial.into.items
    l.into.items
