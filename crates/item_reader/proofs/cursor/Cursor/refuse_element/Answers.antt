-- The fault of an FrSE that is in no entry's run.
use Rattle.item_reader.proofs.Giving.{refused-in, within, err-within}
use Rattle.item_reader.proofs.cursor.Cursor.refuse_element.Goals as goal

pub returns-in_err-bring_own-clause-answers : goal.returns-in_err-bring_own-clause-answers
returns-in_err-bring_own-clause-answers g c =
    refused-in (g.S.Shelf.outside c.args.shelf.now) c.args.self.now c.from_residual.result c.in_err-bring_own.field-0.0
    c.bring_own.new.self c.from_residual.ensures.1 c.in_err-bring_own.ensures.cut

pub returns-in_err-bring_own-clause-ahead : goal.returns-in_err-bring_own-clause-ahead
returns-in_err-bring_own-clause-ahead g c =
    err-within c.from_residual.result (g.S.Shelf.outside c.args.shelf.now) c.args.self.now c.bring_own.new.self.source
    c.in_err-bring_own.ensures.ahead

pub returns-clause-ahead : goal.returns-clause-ahead
returns-clause-ahead g c =
    within (g.S.Shelf.outside c.args.shelf.now) c.args.self.now c.bring_own.new.self.source
    c.in_ok-bring_own.ensures.ahead
