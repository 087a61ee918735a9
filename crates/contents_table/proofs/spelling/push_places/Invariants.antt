use Rattle.std.proofs.Common.{take}
use Rattle.scalar_types.specs.declared.Order.TheVariants.{Little}
use Rattle.scalar_types.specs.declared.Width.TheVariants.{Eight}
use Rattle.record_values.specs.Spelling.{IsNumber, AreItems}
use Rattle.layout_plan.specs.Appends.{Appends}
use Rattle.contents_table.proofs.spelling.push_places.Given as goal

abbrev pub invariant-loop-place : goal.invariant-loop-place
invariant-loop-place l =
    Appends (AreItems (IsNumber Little Eight) (take l.place-index l.places)) l.initial.into.items l.into.items
