use Rattle.scalar_types.specs.declared.Order.TheVariants.{Little}
use Rattle.record_writer.proofs.ClosedLemmas.{appends_body}
use Rattle.contents_table.specs.Told.{table_values}
use Rattle.contents_table.proofs.builder.TableBuilder.write.Goals as goal

pub returns-then-not-is_within_limit-clause-small : goal.returns-then-not-is_within_limit-clause-small
returns-then-not-is_within_limit-clause-small c =
    rw c.fields-fields.ensures.fields at c.if-not-is_within_limit.ensures

pub returns-clause-written : goal.returns-clause-written
returns-clause-written c = λ ok.
    rw c.in_default.is at
    (appends_body c.push_fields.result Little c.args.plan.now
    (table_values c.args.layout.now c.args.plan.now c.args.self.now) c.args.into.now.items
    c.push_fields.new.into.items c.fields-fields.ensures.layout.sound
    (rw (c.fields-fields.ensures.fields, c.as_slice-2.ensures.value, c.in_ok-numbers.ensures) at
    c.push_fields.ensures))
