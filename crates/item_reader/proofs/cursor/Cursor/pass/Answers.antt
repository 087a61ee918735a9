-- A body that is passed over.
use Rattle.std.proofs.Common.{arith}
use Rattle.item_reader.proofs.Passing.{passed-look, passed-cut, passed-placed}
use Rattle.item_reader.proofs.cursor.Cursor.pass.Goals as goal

pub returns-in_err-skip-clause-ahead : goal.returns-in_err-skip-clause-ahead
returns-in_err-skip-clause-ahead g c =
    passed-look (g.S.Shelf.outside c.args.shelf.now) c.args.self.now c.args.placed c.body_size.result c.skip.new.self
    c.requires.passed (omega (arith, c.body_size.ensures, c.requires.passed.here.head)) c.in_err-skip.ensures.bounded

pub returns-then-not-branch-clause-cut : goal.returns-then-not-branch-clause-cut
returns-then-not-branch-clause-cut g c = λ fault is reading told.
    let cut = passed-cut (g.S.Shelf.outside c.args.shelf.now) c.args.self.now c.args.placed c.body_size.result
    c.skip.new.self c.requires.passed c.body_size.ensures
    (rw c.if-not-branch.true at c.in_ok-skip.ensures.passes) reading told in
    cc

pub returns-then-not-branch-clause-ahead : goal.returns-then-not-branch-clause-ahead
returns-then-not-branch-clause-ahead g c =
    passed-look (g.S.Shelf.outside c.args.shelf.now) c.args.self.now c.args.placed c.body_size.result c.skip.new.self
    c.requires.passed (omega (arith, c.body_size.ensures, c.requires.passed.here.head)) c.in_ok-skip.ensures.bounded

pub returns-clause-whole : goal.returns-clause-whole
returns-clause-whole g c =
    passed-placed (g.S.Shelf.outside c.args.shelf.now) c.args.self.now c.args.placed c.body_size.result
    c.skip.new.self c.requires.passed c.body_size.ensures
    (rw c.if-not-branch.false at c.in_ok-skip.ensures.passes)

pub returns-clause-ahead : goal.returns-clause-ahead
returns-clause-ahead g c =
    passed-look (g.S.Shelf.outside c.args.shelf.now) c.args.self.now c.args.placed c.body_size.result c.skip.new.self
    c.requires.passed (omega (arith, c.body_size.ensures, c.requires.passed.here.head)) c.in_ok-skip.ensures.bounded
