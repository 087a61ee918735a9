use Rattle.std.proofs.Common.{sym, ◌∙◌}
use Rattle.type_text.proofs.NumeralLemmas.{numeral_from-stop, numeral_from-end}
use Rattle.type_text.proofs.numerals.numeral.Goals as goal

pub returns-in_err-number : goal.returns-in_err-number
returns-in_err-number c =
    let turn = c.loop-digit in
    c.from_residual.ensures
    ∙ sym (numeral_from-stop turn.number c.args.word.now turn.digit-index c.loop-digit-test.true c.in_err-number.ensures)
    ∙ turn.invariant.same

pub returns : goal.returns
returns c =
    let turn = c.loop-digit in
    sym (numeral_from-end turn.number c.args.word.now turn.digit-index c.loop-digit-test.false turn.invariant.fits)
    ∙ turn.invariant.same
