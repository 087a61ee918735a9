use Rattle.std.proofs.Common.{◌-◌, ap, Ok, sym, ◌∙◌}
use Rattle.std.proofs.lemmas.Bool.{true≢false}
use Rattle.canonical_writer.proofs.ClosingBytes.{table-refused, table-written}
use Rattle.canonical_writer.proofs.closing_part.FileSoFar.push_table_record.Goals as goal

pub returns-then-not-branch-clause-written : goal.returns-then-not-branch-clause-written
returns-then-not-branch-clause-written c =
    table-refused c.args.class c.args.layout.now c.args.plan.now c.args.self.now.built.now c.in_ok-start.start
    c.args.into.now.items c.begin_structure.new.into.items c.write.new.into.items c.truncate.new.self.items
    (λ small. true≢false (sym (c.in_ok-write.ensures.small.1 small) ∙ c.if-not-branch.true))
    c.in_ok-start.ensures.start c.in_ok-start.ensures.room
    (c.in_ok-write.ensures.unwritten (ap Ok c.if-not-branch.true)) c.truncate.ensures.items

pub returns-clause-written : goal.returns-clause-written
returns-clause-written c =
    (table-written c.args.class c.args.layout.now c.args.plan.now c.args.self.now.built.now c.in_ok-start.start
    (c.len.result - c.in_ok-start.start) c.args.into.now.items c.begin_structure.new.into.items c.write.new.into.items
    c.end_structure.new.into.items c.type_inv.into (c.in_ok-write.ensures.small.0 c.if-not-branch.false)
    c.in_ok-start.ensures.start c.in_ok-start.ensures.room
    (c.in_ok-write.ensures.written (ap Ok c.if-not-branch.false)) c.end_structure.ensures
    (λ i. (c.len.ensures ∙ c.write.new.into.ok.0) i - c.in_ok-start.start)).0

pub returns-clause-small : goal.returns-clause-small
returns-clause-small c =
    (table-written c.args.class c.args.layout.now c.args.plan.now c.args.self.now.built.now c.in_ok-start.start
    (c.len.result - c.in_ok-start.start) c.args.into.now.items c.begin_structure.new.into.items c.write.new.into.items
    c.end_structure.new.into.items c.type_inv.into (c.in_ok-write.ensures.small.0 c.if-not-branch.false)
    c.in_ok-start.ensures.start c.in_ok-start.ensures.room
    (c.in_ok-write.ensures.written (ap Ok c.if-not-branch.false)) c.end_structure.ensures
    (λ i. (c.len.ensures ∙ c.write.new.into.ok.0) i - c.in_ok-start.start)).1
