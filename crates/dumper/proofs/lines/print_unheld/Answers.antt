-- The first line, and then that the body is not read.
use Rattle.std.proofs.Common.{codes}
use Rattle.dumper.specs.Page.{pending}
use Rattle.dumper.proofs.Pages.{settled, prints-then, prints-stopped, carried, handed-on, pushed}
use Rattle.dumper.proofs.lines.print_unheld.Goals as goal

pub returns-in_err-settle : goal.returns-in_err-settle
returns-in_err-settle g c =
    prints-stopped _ _ _ (pending c.settle.new.self) _ _ (codes "  unread\n") _ c.settle.result _ c.in_err-settle.was
    (handed-on _ _ c.from_residual.ensures.1)
    (settled _ _ _ _ _ _ _ _ c.push_told-composed.ensures c.settle.ensures.composed c.settle.ensures.refused)

pub returns : goal.returns
returns g c =
    prints-then _ (g.O.Sink.output c.settle.new.out) _ _ (pending c.settle.new.self) _ _ (codes "  unread\n") _
    (carried _ _ _ _ _ _ c.settle.result c.in_ok-settle.was
    (settled _ _ _ _ _ _ _ _ c.push_told-composed.ensures c.settle.ensures.composed c.settle.ensures.refused))
    (settled _ _ _ _ _ _ _ _ (pushed _ _ (codes "  unread\n") _ c.extend_from_slice-composed.ensures.items)
    c.settle-2.ensures.composed c.settle-2.ensures.refused)
