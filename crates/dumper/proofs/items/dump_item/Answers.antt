-- What was put before a refusal is a prefix of the lines.
use Rattle.dumper.specs.Given.{given_text}
use Rattle.dumper.specs.Page.{pending}
use Rattle.dumper.proofs.Pages.{carried}
use Rattle.dumper.proofs.DumpEnds.{put-cut}
use Rattle.dumper.proofs.items.dump_item.Goals as goal

pub returns-clause-err : goal.returns-clause-err
returns-clause-err g c =
    let old = g.O.Sink.output c.args.out.now in
    let mid = g.O.Sink.output c.print_item.new.out in
    let new = g.O.Sink.output c.flush.new.out in
    let page = pending c.new-page.result in
    let middle = pending c.print_item.new.page in
    let text = given_text c.args.reader.now c.args.item.now in
    put-cut old mid new page middle (pending c.flush.new.self) text c.flush.result c.new-page.ensures
    (carried old mid page middle text c.in_ok-print_item.field-0 c.print_item.result c.in_ok-print_item.was
    c.print_item.ensures)
    c.flush.ensures.put
