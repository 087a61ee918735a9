use Rattle.std.proofs.Common.{take}
use Rattle.record_values.specs.Spelling.{IsPair, AreItems}
use Rattle.layout_plan.specs.Appends.{Appends}
use Rattle.record_writer.proofs.spelling.push_pairs.Given as goal

abbrev pub invariant-loop-pair : goal.invariant-loop-pair
invariant-loop-pair l = Appends
    (AreItems (IsPair l.order l.width) (take l.pair-index l.pairs)) l.initial.into.items l.into.items
