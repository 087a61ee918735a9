use Rattle.std.proofs.Common.{not, [], sym, ap, ◌∙◌}
use Rattle.canonical_writer.proofs.Clashes.{clashes-first, clashes-one_name}
use Rattle.canonical_writer.proofs.used.clashes_with_one.Goals as goal

pub returns-then-end-entry : goal.returns-then-end-entry
returns-then-end-entry c =
    ap not c.same_entry.ensures.tests
    ∙ sym (clashes-first c.args.end.now c.args.entry.now [] c.if-end-entry.true c.requires.read)

pub returns : goal.returns
returns c = c.is_named.ensures ∙ sym (clashes-one_name c.args.end.now c.args.entry.now c.if-end-entry.false)
