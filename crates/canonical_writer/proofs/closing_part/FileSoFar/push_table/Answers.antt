use Rattle.std.proofs.Common.{sym, ◌∙◌}
use Rattle.canonical_writer.specs.Closed.{written_of}
use Rattle.canonical_writer.proofs.ClosingBytes.{table-appended}
use Rattle.canonical_writer.proofs.closing_part.FileSoFar.push_table.Goals as goal

pub returns-clause-written : goal.returns-clause-written
returns-clause-written c =
    table-appended c.push_table_record.result (written_of c.args.self.now) c.args.entry.now c.count.result
    c.in-Some-of.layout c.in-Some.plan c.args.into.now.items c.push_last.new.into.items c.push_table_record.new.into.items
    (sym c.in_ok-plan.ensures ∙ c.in-Some.is) c.in-Some-of.ensures.fields c.count.ensures c.in_ok-push_last.ensures
    c.push_table_record.ensures.written
