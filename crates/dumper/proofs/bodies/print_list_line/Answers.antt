-- What stands before the value, the value, and the end of the line.
use Rattle.std.proofs.Common.{◌++◌, List, ℕ, ap}
use Rattle.std.specs.Prelude.{codes}
use Rattle.dumper.specs.Printed.{escaped, value_text}
use Rattle.dumper.specs.Lines.{base_of}
use Rattle.dumper.specs.Page.{pending}
use Rattle.dumper.proofs.Pages.{settled, prints-then, prints-stopped, prints-is, carried, handed-on, pushed}
use Rattle.dumper.proofs.FieldLines.{line-parts}
use Rattle.dumper.proofs.bodies.print_list_line.Goals as goal

pub returns-in_err-settle : goal.returns-in_err-settle
returns-in_err-settle g c = λ numbers v s.
    let e = c.args.element.now in
    let begin : List ℕ = codes "  " ++ (escaped c.bytes-name.result.now ++ codes " = ") in
    let others : List ℕ = value_text (base_of e) v ++ codes "\n" in
    prints-is _ _ _ _ _ _ _ (line-parts c.bytes-name.result.now e v c.bytes-name.ensures)
    (prints-stopped _ _ _ (pending c.settle.new.self) _ begin others _ c.settle.result _ c.in_err-settle.was
    (handed-on _ _ c.from_residual.ensures.1)
    (settled _ _ _ _ _ begin _ _ c.push-composed.ensures c.settle.ensures.composed c.settle.ensures.refused))

pub returns-in_err-print_listed : goal.returns-in_err-print_listed
returns-in_err-print_listed g c = λ numbers v s.
    let e = c.args.element.now in
    let begin : List ℕ = codes "  " ++ (escaped c.bytes-name.result.now ++ codes " = ") in
    let value : List ℕ = value_text (base_of e) v in
    prints-is _ _ _ _ _ _ _ (line-parts c.bytes-name.result.now e v c.bytes-name.ensures)
    (prints-then _ (g.O.Sink.output c.settle.new.out) _ _ (pending c.settle.new.self) _ begin (value ++ codes "\n") _
    (carried _ _ _ _ begin _ c.settle.result c.in_ok-settle.was
    (settled _ _ _ _ _ begin _ _ c.push-composed.ensures c.settle.ensures.composed c.settle.ensures.refused))
    (prints-stopped _ _ _ (pending c.print_listed.new.page) _ value (codes "\n") _ c.print_listed.result _
    c.in_err-print_listed.was (handed-on _ _ c.from_residual-in_err-print_listed.ensures.1)
    (prints-is _ _ _ _ _ value _ (ap (λ base. value_text base v) c.base_of.ensures)
    (c.print_listed.ensures numbers v s))))

pub returns : goal.returns
returns g c = λ numbers v s.
    let e = c.args.element.now in
    let begin : List ℕ = codes "  " ++ (escaped c.bytes-name.result.now ++ codes " = ") in
    let value : List ℕ = value_text (base_of e) v in
    prints-is _ _ _ _ _ _ _ (line-parts c.bytes-name.result.now e v c.bytes-name.ensures)
    (prints-then _ (g.O.Sink.output c.settle.new.out) _ _ (pending c.settle.new.self) _ begin (value ++ codes "\n") _
    (carried _ _ _ _ begin _ c.settle.result c.in_ok-settle.was
    (settled _ _ _ _ _ begin _ _ c.push-composed.ensures c.settle.ensures.composed c.settle.ensures.refused))
    (prints-then _ (g.O.Sink.output c.print_listed.new.out) _ _ (pending c.print_listed.new.page) _ value (codes "\n") _
    (carried _ _ _ _ value _ c.print_listed.result c.in_ok-print_listed.was
    (prints-is _ _ _ _ _ value _ (ap (λ base. value_text base v) c.base_of.ensures)
    (c.print_listed.ensures numbers v s)))
    (settled _ _ _ _ _ (codes "\n") _ _
    (pushed _ _ (codes "\n") c.extend_from_slice-composed.result c.extend_from_slice-composed.ensures.items) c.settle-2.ensures.composed
    c.settle-2.ensures.refused)))
