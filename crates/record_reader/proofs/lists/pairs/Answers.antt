use Rattle.std.proofs.Common.{arith}
use Rattle.layout_plan.specs.Reading.{pair_in, items_in}
use Rattle.record_reader.proofs.ListLemmas.{TakesOrStops-at, AreTaken-none, AreTaken-more, AreTaken-stops, AreTaken-all}
use Rattle.record_reader.proofs.lists.pairs.Goals as goal

pub loop-i-init : goal.loop-i-init
loop-i-init c = rw c.new-list.ensures (AreTaken-none (pair_in c.args.order c.args.width) c.args.count c.args.cursor.now)

pub returns-in_err-pair : goal.returns-in_err-pair
returns-in_err-pair c =
    TakesOrStops-at (items_in (pair_in c.args.order c.args.width) c.args.count c.args.cursor.now) c.from_residual.result
    c.pair.new.self c.in_err-pair.field-0.0 c.from_residual.ensures.1
    (AreTaken-stops (pair_in c.args.order c.args.width) c.args.count c.args.cursor.now c.loop-i._i c.loop-i.list
    c.loop-i.cursor c.in_err-pair.field-0.0 c.loop-i.invariant (omega arith) c.in_err-pair.ensures)

pub loop-i-preserved : goal.loop-i-preserved
loop-i-preserved c =
    rw c.in_ok-push.ensures.ok
    (AreTaken-more (pair_in c.args.order c.args.width) c.args.count c.args.cursor.now c.loop-i._i c.loop-i.list
    c.loop-i.cursor c.in_ok-pair.field-0 c.pair.new.self c.loop-i.invariant (omega arith) c.in_ok-pair.ensures)

pub returns : goal.returns
returns c =
    AreTaken-all (pair_in c.args.order c.args.width) c.args.count c.args.cursor.now c.loop-i._i c.loop-i.list
    c.loop-i.cursor c.loop-i.invariant (omega arith)
