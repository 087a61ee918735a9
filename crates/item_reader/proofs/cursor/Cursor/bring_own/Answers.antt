-- A body that is no frame record's.
use Rattle.std.proofs.Common.{arith}
use Rattle.item_reader.proofs.Passing.{passed-look, passed-cut, passed-body}
use Rattle.item_reader.proofs.cursor.Cursor.bring_own.Goals as goal

pub returns-in_err-bring_bytes-clause-ahead : goal.returns-in_err-bring_bytes-clause-ahead
returns-in_err-bring_bytes-clause-ahead g c =
    passed-look (g.S.Shelf.outside c.args.shelf.now) c.args.self.now c.args.placed c.body_size-size.result
    c.bring_bytes.new.self c.requires.passed (omega (arith, c.body_size-size.ensures, c.requires.passed.here.head))
    c.in_err-bring_bytes.ensures.bounded

pub returns-then-not-branch-clause-cut : goal.returns-then-not-branch-clause-cut
returns-then-not-branch-clause-cut g c = λ fault is reading told.
    let cut = passed-cut (g.S.Shelf.outside c.args.shelf.now) c.args.self.now c.args.placed c.body_size-size.result
    c.bring_bytes.new.self c.requires.passed c.body_size-size.ensures
    (rw c.if-not-branch.true at c.in_ok-bring_bytes.ensures.passes) reading told in
    cc

pub returns-then-not-branch-clause-ahead : goal.returns-then-not-branch-clause-ahead
returns-then-not-branch-clause-ahead g c =
    passed-look (g.S.Shelf.outside c.args.shelf.now) c.args.self.now c.args.placed c.body_size-size.result
    c.bring_bytes.new.self c.requires.passed (omega (arith, c.body_size-size.ensures, c.requires.passed.here.head))
    c.in_ok-bring_bytes.ensures.bounded

pub returns-clause-body : goal.returns-clause-body
returns-clause-body g c =
    passed-body (g.S.Shelf.outside c.args.shelf.now) c.args.self.now c.args.placed c.body_size-size.result
    c.bring_bytes.new.self c.clear.new.self.items c.bring_bytes.new.bytes.items c.requires.passed
    c.body_size-size.ensures
    (rw c.if-not-branch.false at c.in_ok-bring_bytes.ensures.passes) c.in_ok-bring_bytes.ensures.appends
    c.clear.ensures.items

pub returns-clause-ahead : goal.returns-clause-ahead
returns-clause-ahead g c =
    passed-look (g.S.Shelf.outside c.args.shelf.now) c.args.self.now c.args.placed c.body_size-size.result
    c.bring_bytes.new.self c.requires.passed (omega (arith, c.body_size-size.ensures, c.requires.passed.here.head))
    c.in_ok-bring_bytes.ensures.bounded
