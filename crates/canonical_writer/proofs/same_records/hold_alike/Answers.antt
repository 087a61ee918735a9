-- Record by record.
use Rattle.std.proofs.Common.{arith}
use Rattle.canonical_writer.proofs.StandingAlike.{hold-alike}
use Rattle.canonical_writer.proofs.same_records.hold_alike.Goals as goal

pub returns : goal.returns
returns c = λ t.
    hold-alike c.args.first.now.nodes c.args.second.now.nodes
    (omega (arith, c.len.ensures, c.len-2.ensures, c.if-len.false))
    (λ k within. c.loop-k.invariant k (omega (arith, within, c.loop-k-test.false, c.len-k-end.ensures)))
