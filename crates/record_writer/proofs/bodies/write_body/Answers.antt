use Rattle.record_writer.proofs.ClosedLemmas.{appends_body}
use Rattle.record_writer.proofs.bodies.write_body.Goals as goal

pub returns-else-is_err-clause-ok : goal.returns-else-is_err-clause-ok
returns-else-is_err-clause-ok c =
    appends_body c.push_fields-written.result c.args.order c.args.plan.now c.args.values.now c.args.into.now.items
    c.push_fields-written.new.into.items c.fields.ensures.layout.sound
    (rw c.fields.ensures.fields at c.push_fields-written.ensures)
