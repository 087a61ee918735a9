use Rattle.std.proofs.Common.{drop}
use Rattle.scalar_types.specs.declared.Order.TheVariants.{Little}
use Rattle.record_values.specs.Spelling.{IsClosedText}
use Rattle.layout_plan.specs.Appends.{Appends}
use Rattle.record_writer.proofs.Rests.{AreFieldsBefore}
use Rattle.contents_table.specs.Told.{table_values}
use Rattle.contents_table.proofs.builder.TableBuilder.push_fields.Given as goal

abbrev pub invariant-loop-k : goal.invariant-loop-k
invariant-loop-k l =
    let values = table_values l.layout l.fields l.self in
    Appends
    (AreFieldsBefore (IsClosedText Little) Little l.numbers l.fields values (drop l.k l.fields)
    (drop l.k values))
    l.initial.into.items l.into.items
