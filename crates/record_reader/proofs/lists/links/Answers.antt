use Rattle.std.proofs.Common.{arith}
use Rattle.layout_plan.specs.Reading.{link_in, items_in}
use Rattle.record_reader.proofs.ListLemmas.{TakesOrStops-at, AreTaken-none, AreTaken-more, AreTaken-stops, AreTaken-all}
use Rattle.record_reader.proofs.lists.links.Goals as goal

pub loop-i-init : goal.loop-i-init
loop-i-init c = rw c.new-list.ensures (AreTaken-none (link_in c.args.order) c.args.count c.args.cursor.now)

pub returns-in_err-link : goal.returns-in_err-link
returns-in_err-link c =
    TakesOrStops-at (items_in (link_in c.args.order) c.args.count c.args.cursor.now) c.from_residual.result
    c.link.new.self c.in_err-link.field-0.0 c.from_residual.ensures.1
    (AreTaken-stops (link_in c.args.order) c.args.count c.args.cursor.now c.loop-i._i c.loop-i.list c.loop-i.cursor
    c.in_err-link.field-0.0 c.loop-i.invariant (omega arith) c.in_err-link.ensures)

pub loop-i-preserved : goal.loop-i-preserved
loop-i-preserved c =
    rw c.in_ok-push.ensures.ok
    (AreTaken-more (link_in c.args.order) c.args.count c.args.cursor.now c.loop-i._i c.loop-i.list c.loop-i.cursor
    c.in_ok-link.field-0 c.link.new.self c.loop-i.invariant (omega arith) c.in_ok-link.ensures)

pub returns : goal.returns
returns c =
    AreTaken-all (link_in c.args.order) c.args.count c.args.cursor.now c.loop-i._i c.loop-i.list c.loop-i.cursor
    c.loop-i.invariant (omega arith)
