-- A body is read just where it is measured.
use Rattle.std.proofs.Common.{◌≡◌, Some, ap, sym, ◌∙◌}
use Rattle.std.specs.Prelude.{codes}
use Rattle.std.specs.Option.{option_copied}
use Rattle.std.proofs.lemmas.Bool.{both_ways}
use Rattle.layout_plan.specs.Layout.{layout_of}
use Rattle.dumper.specs.Lines.{body_text}
use Rattle.dumper.proofs.Pages.{settled, prints-is, pushed}
use Rattle.dumper.proofs.BodyReadings.{text-read, text-unread, text-without, layout-read}
use Rattle.dumper.proofs.bodies.print_body.Goals as goal
use Rattle.dumper.proofs.bodies.print_body.Goals.{in_default-via-in-Some+else-does_read, in_default-via-in_default}

pub returns-in-Some : goal.returns-in-Some
returns-in-Some g c =
    let fields = c.in-Some.plan.now in
    let layout : layout_of c.args.elements.now ≡ Some fields = sym c.requires.plan ∙ ap option_copied c.in-Some.is in
    let read = layout-read c.args.order c.args.elements.now fields c.args.body.now layout
    (c.does_read.ensures.0 c.if-does_read.true) in
    prints-is _ _ _ _ _ _ _ (text-read c.args.order c.args.elements.now fields c.args.body.now read.0 layout read.1)
    (c.print_fields-printed.ensures read.0 read.1)

pub returns-in_default : goal.returns-in_default
returns-in_default g c =
    let text : codes "  unread\n"
    ≡ body_text c.args.order c.args.elements.now (layout_of c.args.elements.now) c.args.body.now =
    elim c.in_default.branch [
      | in_default-via-in-Some+else-does_read w ↦
          text-unread c.args.order c.args.elements.now w.in-Some.plan.now c.args.body.now
          (sym c.requires.plan ∙ ap option_copied w.in-Some.is)
          (λ has. both_ways w.does_read.result w.if-does_read.false (w.does_read.ensures.1 has))
      | in_default-via-in_default w ↦
          text-without c.args.order c.args.elements.now c.args.body.now
          (sym c.requires.plan ∙ ap option_copied w.in_default.is)
    ] in
    prints-is _ _ _ _ _ _ _ text
    (settled _ _ _ _ _ (codes "  unread\n") _ _
    (pushed _ _ (codes "  unread\n") c.extend_from_slice-composed.result c.extend_from_slice-composed.ensures.items)
    c.settle.ensures.composed c.settle.ensures.refused)
