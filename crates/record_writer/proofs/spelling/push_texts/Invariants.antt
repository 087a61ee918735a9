use Rattle.std.proofs.Common.{take}
use Rattle.record_values.specs.Spelling.{IsClosedText, AreItems}
use Rattle.layout_plan.specs.Appends.{Appends}
use Rattle.record_writer.proofs.spelling.push_texts.Given as goal

abbrev pub invariant-loop-text : goal.invariant-loop-text
invariant-loop-text l = Appends
    (AreItems (IsClosedText l.order) (take l.text-index l.texts)) l.initial.into.items l.into.items
