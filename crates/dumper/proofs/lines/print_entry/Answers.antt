-- The first line, and then the line of each element.
use Rattle.std.proofs.Common.{◌+◌, ◌++◌, take, drop, ap, ◌∙◌, arith}
use Rattle.std.specs.List.{flat_map}
use Rattle.dumper.specs.Lines.{element_line, entry_line}
use Rattle.dumper.specs.Page.{pending}
use Rattle.dumper.proofs.Pages.{settled, prints-then, prints-stopped, prints-is, carried, carried-then}
use Rattle.dumper.proofs.Pages.{carries-is, handed-on}
use Rattle.dumper.proofs.Texts.{text-more, text-left}
use Rattle.dumper.proofs.lines.print_entry.Goals as goal

pub returns-in_err-settle : goal.returns-in_err-settle
returns-in_err-settle g c =
    prints-stopped _ _ _ (pending c.settle.new.self) _ (entry_line c.args.entry.now) _ _ c.settle.result _
    c.in_err-settle.was (handed-on _ _ c.from_residual.ensures.1)
    (settled _ _ _ _ _ _ _ _ c.push_entry-composed.ensures c.settle.ensures.composed c.settle.ensures.refused)

pub returns-in_err-settle-2 : goal.returns-in_err-settle-2
returns-in_err-settle-2 g c =
    let line = entry_line c.args.entry.now in
    let items = c.as_slice-element-items.result.now in
    let i = c.loop-element.element-index in
    let element = c.element-item.result in
    let left = flat_map element_line (drop (i + 1) items) in
    prints-is _ _ _ _ _ _ _
    (text-left element_line line items i element (omega arith) c.element-item.is
    ∙ ap (λ es. line ++ flat_map element_line es) c.as_slice-element-items.ensures)
    (prints-then _ (g.O.Sink.output c.loop-element.out) _ _ (pending c.loop-element.page) _
    (line ++ flat_map element_line (take i items)) (element_line element ++ left) _ c.loop-element.invariant
    (prints-stopped _ _ _ (pending c.settle-in-loop-element.new.self) _ (element_line element) left _
    c.settle-in-loop-element.result _ c.in_err-settle-2.was
    (handed-on _ _ c.from_residual-in_err-settle-2.ensures.1)
    (settled _ _ _ _ _ _ _ _ c.push_element-composed.ensures c.settle-in-loop-element.ensures.composed
    c.settle-in-loop-element.ensures.refused)))

pub loop-element-preserved : goal.loop-element-preserved
loop-element-preserved g c =
    let line = entry_line c.args.entry.now in
    let items = c.as_slice-element-items.result.now in
    let i = c.loop-element.element-index in
    let element = c.element-item.result in
    carries-is _ _ _ _ _ _ (text-more element_line line items i element (omega arith) c.element-item.is)
    (carried-then _ _ _ _ _ _ (line ++ flat_map element_line (take i items)) (element_line element)
    c.loop-element.invariant
    (carried _ _ _ _ _ _ c.settle-in-loop-element.result c.in_ok-settle-2.was
    (settled _ _ _ _ _ _ _ _ c.push_element-composed.ensures c.settle-in-loop-element.ensures.composed
    c.settle-in-loop-element.ensures.refused)))
