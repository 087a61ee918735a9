use Rattle.std.proofs.Common.{arith}
use Rattle.layout_plan.proofs.lent.place_in.Goals as goal

pub place_by-requires-clause-places : goal.place_by-requires-clause-places
place_by-requires-clause-places c = (c.args.order, c.args.body.now, c.walk_body.ensures, omega arith)

pub returns : goal.returns
returns c = c.place_by.ensures c.args.order c.args.body.now c.walk_body.ensures
