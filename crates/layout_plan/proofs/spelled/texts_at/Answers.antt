use Rattle.std.proofs.Common.{Ok, Err, arith}
use Rattle.layout_plan.proofs.SpelledLemmas.{AreTextsSoFar-more, AreTextsSoFar-stops, AreTextsSoFar-all, TellsText-rest}
use Rattle.layout_plan.proofs.spelled.texts_at.Goals as goal

pub loop-i-preserved : goal.loop-i-preserved
loop-i-preserved c =
    rw c.zero_texts-zeros.ensures
    (AreTextsSoFar-more c.args.order c.args.count c.args.bytes.now c.loop-i._i c.loop-i.at c.loop-i.zeros
    c.in-Ok.length c.loop-i.invariant (omega arith)
    (TellsText-rest c.args.order c.args.bytes.now c.loop-i.at (Ok c.in-Ok.length) c.in-Ok.ensures))

pub returns-in-Err : goal.returns-in-Err
returns-in-Err c =
    AreTextsSoFar-stops c.args.order c.args.count c.args.bytes.now c.loop-i._i c.loop-i.at c.loop-i.zeros
    c.in-Err.reason c.loop-i.invariant (omega arith)
    (TellsText-rest c.args.order c.args.bytes.now c.loop-i.at (Err c.in-Err.reason) c.in-Err.ensures)

pub returns : goal.returns
returns c =
    AreTextsSoFar-all c.args.order c.args.count c.args.bytes.now c.loop-i._i c.loop-i.at c.loop-i.zeros
    c.loop-i.invariant (omega arith)
