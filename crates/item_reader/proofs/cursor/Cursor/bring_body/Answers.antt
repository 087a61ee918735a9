-- The body of a record of a frame.
use Rattle.std.proofs.Common.{arith}
use Rattle.item_reader.proofs.Passing.{passed-look, passed-cut, passed-body}
use Rattle.item_reader.proofs.cursor.Cursor.bring_body.Goals as goal

pub returns-in_err-whole-clause-ahead : goal.returns-in_err-whole-clause-ahead
returns-in_err-whole-clause-ahead g c =
    passed-look (g.S.Shelf.outside c.args.shelf.now) c.args.self.now c.args.placed c.body_size-size.result
    c.bring_body.new.self c.requires.passed (omega (arith, c.body_size-size.ensures, c.requires.passed.here.head))
    c.in_err-whole.ensures.bounded

pub returns-then-not-whole-clause-cut : goal.returns-then-not-whole-clause-cut
returns-then-not-whole-clause-cut g c = λ fault is reading told.
    let cut = passed-cut (g.S.Shelf.outside c.args.shelf.now) c.args.self.now c.args.placed c.body_size-size.result
    c.bring_body.new.self c.requires.passed c.body_size-size.ensures
    (rw c.if-not-whole.true at c.in_ok-whole.ensures.passes) reading told in
    cc

pub returns-then-not-whole-clause-ahead : goal.returns-then-not-whole-clause-ahead
returns-then-not-whole-clause-ahead g c =
    passed-look (g.S.Shelf.outside c.args.shelf.now) c.args.self.now c.args.placed c.body_size-size.result
    c.bring_body.new.self c.requires.passed (omega (arith, c.body_size-size.ensures, c.requires.passed.here.head))
    c.in_ok-whole.ensures.bounded

pub returns-clause-body : goal.returns-clause-body
returns-clause-body g c =
    passed-body (g.S.Shelf.outside c.args.shelf.now) c.args.self.now c.args.placed c.body_size-size.result
    c.bring_body.new.self c.args.self.now.state.segment.pending c.bring_body.new.segment.pending c.requires.passed
    c.body_size-size.ensures
    (rw c.if-not-whole.false at c.in_ok-whole.ensures.passes) c.in_ok-whole.ensures.brings.pending
    c.requires.passed.pending

pub returns-clause-ahead : goal.returns-clause-ahead
returns-clause-ahead g c =
    passed-look (g.S.Shelf.outside c.args.shelf.now) c.args.self.now c.args.placed c.body_size-size.result
    c.bring_body.new.self c.requires.passed (omega (arith, c.body_size-size.ensures, c.requires.passed.here.head))
    c.in_ok-whole.ensures.bounded
