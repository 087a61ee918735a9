use Rattle.std.proofs.Common.{arith, rules}
use Rattle.link_graph.proofs.Reading.{reads-more, reads-all}
use Rattle.link_graph.proofs.tests.all_read.Goals as goal

pub loop-k-preserved : goal.loop-k-preserved
loop-k-preserved c =
    reads-more c.args.plans.now c.args.segment.now.order c.args.segment.now.nodes c.loop-k.k
    (omega (arith, c.loop-k-test.true, c.len-k-end.ensures)) c.loop-k.invariant (search rules)

pub returns : goal.returns
returns c = λ _. reads-all c.args.plans.now c.args.segment.now.order c.args.segment.now.nodes c.loop-k.k
    (omega (arith, c.loop-k-test.false, c.len-k-end.ensures)) c.loop-k.invariant
