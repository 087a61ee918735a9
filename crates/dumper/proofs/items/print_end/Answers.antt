-- The structure, and then the last line.
use Rattle.std.proofs.Common.{◌++◌, ap}
use Rattle.dumper.specs.Lines.{end_line}
use Rattle.dumper.specs.Given.{last_text}
use Rattle.dumper.specs.Page.{pending}
use Rattle.dumper.proofs.Pages.{carried, handed-on, prints-is, prints-then, prints-stopped, settled}
use Rattle.dumper.proofs.items.print_end.Goals as goal

pub returns-in_err-print_last : goal.returns-in_err-print_last
returns-in_err-print_last g c =
    let s = c.args.told in
    let e = c.in_err-print_last.field-0.0 in
    prints-stopped (g.O.Sink.output c.args.out.now) (g.O.Sink.output c.print_last.new.out) (pending c.args.page.now)
    (pending c.print_last.new.page) (pending c.print_last.new.page)
    (last_text c.args.reader.now s.at s.class s.instance s.length) (end_line c.args.reader.now.before.place) e
    c.print_last.result c.from_residual.result c.in_err-print_last.was
    (handed-on e c.from_residual.result c.from_residual.ensures.1) c.print_last.ensures

pub returns : goal.returns
returns g c =
    let s = c.args.told in
    let text = last_text c.args.reader.now s.at s.class s.instance s.length in
    let last = end_line c.place.result in
    let old = g.O.Sink.output c.args.out.now in
    let mid = g.O.Sink.output c.print_last.new.out in
    let new = g.O.Sink.output c.settle.new.out in
    let page = pending c.args.page.now in
    let middle = pending c.print_last.new.page in
    let now = pending c.settle.new.self in
    prints-is old new page now (text ++ last) (text ++ end_line c.args.reader.now.before.place) c.settle.result
    (ap (λ place. text ++ end_line place) c.place.ensures)
    (prints-then old mid new page middle now text last c.settle.result
    (carried old mid page middle text c.in_ok-print_last.field-0 c.print_last.result c.in_ok-print_last.was
    c.print_last.ensures)
    (settled mid new middle (c.push_end-composed.new.text.items) now last c.push_end-composed.result
    c.settle.result c.push_end-composed.ensures c.settle.ensures.composed c.settle.ensures.refused))
