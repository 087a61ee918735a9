use Rattle.std.proofs.Common.{[], replicate}
use Rattle.scalar_types.specs.declared.Order.TheVariants.{Little}
use Rattle.record_values.specs.Spelling.{IsClosedText, AreItems}
use Rattle.layout_plan.specs.Appends.{Appends}
use Rattle.contents_table.proofs.spelling.push_empty_texts.Given as goal

abbrev pub invariant-loop : goal.invariant-loop
invariant-loop l =
    Appends (AreItems (IsClosedText Little) (replicate l.counter [])) l.initial.into.items l.into.items
