-- The first line, and then what the body holds.
use Rattle.std.proofs.Common.{refl}
use Rattle.layout_plan.specs.Layout.{layout_of}
use Rattle.dumper.specs.Lines.{body_text}
use Rattle.dumper.specs.Page.{pending}
use Rattle.dumper.proofs.Pages.{settled, prints-then, prints-stopped, prints-is, carried, handed-on}
use Rattle.dumper.proofs.Structures.{structure_text-held}
use Rattle.dumper.proofs.lines.print_structure.Goals as goal

pub returns-in_err-settle : goal.returns-in_err-settle
returns-in_err-settle g c =
    let told = c.args.told in
    let entry = c.in-Some.entry.now in
    prints-is _ _ _ _ _ _ _
    (structure_text-held c.args.order c.args.dictionary.now told.at told.class told.instance told.length
    c.args.body.now entry c.bytes.result.now entry.elements c.in-Some.ensures.entry c.bytes.ensures refl)
    (prints-stopped _ _ _ (pending c.settle.new.self) _ _
    (body_text c.args.order entry.elements (layout_of entry.elements) c.args.body.now) _ c.settle.result _
    c.in_err-settle.was (handed-on _ _ c.from_residual.ensures.1)
    (settled _ _ _ _ _ _ _ _ c.push_told-composed.ensures c.settle.ensures.composed c.settle.ensures.refused))

pub returns : goal.returns
returns g c =
    let told = c.args.told in
    prints-is _ _ _ _ _ _ _
    (structure_text-held c.args.order c.args.dictionary.now told.at told.class told.instance told.length
    c.args.body.now c.in-Some.entry.now c.bytes.result.now c.as_slice-elements.result.now c.in-Some.ensures.entry
    c.bytes.ensures c.as_slice-elements.ensures)
    (prints-then _ (g.O.Sink.output c.settle.new.out) _ _ (pending c.settle.new.self) _ _ _ _
    (carried _ _ _ _ _ _ c.settle.result c.in_ok-settle.was
    (settled _ _ _ _ _ _ _ _ c.push_told-composed.ensures c.settle.ensures.composed c.settle.ensures.refused))
    c.print_body.ensures)
