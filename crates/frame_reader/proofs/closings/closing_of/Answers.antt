use Rattle.std.proofs.Common.{◌≡◌, true, Some, sym, ap, ◌∙◌}
use Rattle.dictionary.specs.declared.entries.Entry.{Entry}
use Rattle.file_grammar.specs.Closing.{closes}
use Rattle.frame_reader.proofs.NamedEntries.{closing-usable}
use Rattle.frame_reader.proofs.closings.closing_of.Goals as goal

pub returns-clause-usable : goal.returns-clause-usable
returns-clause-usable c =
    let end = c.in_ok-copy.field-0 in
    let closed : closes end.elements ≡ true =
    ap (λ (e : Entry). closes e.elements) c.in_ok-copy.ensures ∙ ap closes (sym c.as_slice.ensures)
    ∙ sym c.closes.ensures ∙ c.if-not-closes.false in
    closing-usable c.args.dictionary.now (record { end = end; table = c.in_ok-table_of.field-0 })
    c.in-Some.ensures.sound (sym c.in-Some.ensures.entry ∙ ap Some (sym c.in_ok-copy.ensures)) closed
    c.in_ok-table_of.ensures
