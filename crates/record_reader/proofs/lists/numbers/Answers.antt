use Rattle.std.proofs.Common.{arith}
use Rattle.layout_plan.specs.Reading.{number_in, items_in}
use Rattle.record_reader.proofs.ListLemmas.{TakesOrStops-at, AreTaken-none, AreTaken-more, AreTaken-stops, AreTaken-all}
use Rattle.record_reader.proofs.lists.numbers.Goals as goal

pub loop-i-init : goal.loop-i-init
loop-i-init c = rw c.new-list.ensures
    (AreTaken-none (number_in c.args.order c.args.width) c.args.count c.args.cursor.now)

pub returns-in_err-number : goal.returns-in_err-number
returns-in_err-number c =
    TakesOrStops-at (items_in (number_in c.args.order c.args.width) c.args.count c.args.cursor.now)
    c.from_residual.result c.number.new.self c.in_err-number.field-0.0 c.from_residual.ensures.1
    (AreTaken-stops (number_in c.args.order c.args.width) c.args.count c.args.cursor.now c.loop-i._i c.loop-i.list
    c.loop-i.cursor c.in_err-number.field-0.0 c.loop-i.invariant (omega arith) c.in_err-number.ensures.takes)

pub loop-i-preserved : goal.loop-i-preserved
loop-i-preserved c =
    rw c.in_ok-push.ensures.ok
    (AreTaken-more (number_in c.args.order c.args.width) c.args.count c.args.cursor.now c.loop-i._i c.loop-i.list
    c.loop-i.cursor c.in_ok-number.field-0 c.number.new.self c.loop-i.invariant (omega arith)
    c.in_ok-number.ensures.takes)

pub returns : goal.returns
returns c =
    AreTaken-all (number_in c.args.order c.args.width) c.args.count c.args.cursor.now c.loop-i._i c.loop-i.list
    c.loop-i.cursor c.loop-i.invariant (omega arith)
