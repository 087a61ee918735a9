use Rattle.std.proofs.Common.{arith}
use Rattle.layout_plan.specs.Reading.{text_in, items_in}
use Rattle.record_reader.proofs.ListLemmas.{TakesOrStops-as, AreTaken-none, AreTaken-more, AreTaken-stops, AreTaken-all}
use Rattle.record_reader.proofs.lists.texts.Goals as goal

pub loop-i-init : goal.loop-i-init
loop-i-init c = rw c.new-list.ensures (AreTaken-none (text_in c.args.order) c.args.count c.args.cursor.now)

pub returns-in_err-text : goal.returns-in_err-text
returns-in_err-text c =
    TakesOrStops-as (items_in (text_in c.args.order) c.args.count c.args.cursor.now) c.from_residual.result
    c.text.new.self (text_in c.args.order c.loop-i.cursor) c.in_err-text.field-0.0 c.text.new.self
    c.from_residual.ensures.1 c.in_err-text.ensures
    (λ reason. AreTaken-stops (text_in c.args.order) c.args.count c.args.cursor.now c.loop-i._i c.loop-i.list
    c.loop-i.cursor reason c.loop-i.invariant (omega arith))

pub loop-i-preserved : goal.loop-i-preserved
loop-i-preserved c =
    rw c.in_ok-push.ensures.ok
    (AreTaken-more (text_in c.args.order) c.args.count c.args.cursor.now c.loop-i._i c.loop-i.list c.loop-i.cursor
    c.in_ok-text.field-0 c.text.new.self c.loop-i.invariant (omega arith) c.in_ok-text.ensures)

pub returns : goal.returns
returns c =
    AreTaken-all (text_in c.args.order) c.args.count c.args.cursor.now c.loop-i._i c.loop-i.list c.loop-i.cursor
    c.loop-i.invariant (omega arith)
