use Rattle.std.proofs.Common.{sym, ◌∙◌}
use Rattle.frame_reader.proofs.NamedEntries.{class-entry}
use Rattle.frame_reader.proofs.closings.entry_named.Goals as goal

pub returns-clause-entry : goal.returns-clause-entry
returns-clause-entry c =
    c.get.ensures.entry
    ∙ class-entry c.args.dictionary.now c.args.name.now c.in_ok-named.field-0 c.named.ensures.sound
    (sym c.in_ok-named.ensures.class)
