use Rattle.std.proofs.Common.{take}
use Rattle.record_values.specs.Spelling.{IsNumber, AreItems}
use Rattle.layout_plan.specs.Appends.{Appends}
use Rattle.record_writer.proofs.spelling.push_numbers.Given as goal

abbrev pub invariant-loop-number : goal.invariant-loop-number
invariant-loop-number l =
    Appends (AreItems (IsNumber l.order l.width) (take l.number-index l.numbers)) l.initial.into.items l.into.items
