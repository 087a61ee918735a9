-- No slot was found that writes the file under another name.
use Rattle.std.proofs.Common.{sym, ap, ◌∙◌}
use Rattle.std.specs.List.{list_any}
use Rattle.frame_outside.specs.Opened.{is_other_name_of}
use Rattle.frame_outside.proofs.dir_shelf.opening.open_source.Goals as goal

pub returns-clause-apart : goal.returns-clause-apart
returns-clause-apart g c =
    ap (λ identity. list_any (is_other_name_of identity c.args.name.now) c.open_file.new.slots.items)
    c.new-2.ensures.identity
    ∙ ap (list_any (is_other_name_of c.of-identity.result c.args.name.now)) (sym c.deref.ensures.value)
    ∙ sym c.is_written_as_another.ensures ∙ c.if-is_written_as_another.false
