-- A closing with printed types may be used too.
use Rattle.std.proofs.Common.{◌≡◌, Some, sym, ap, ◌∙◌, subst}
use Rattle.std.specs.Option.{option_map}
use Rattle.frame_content.specs.Labels.{printed_entry}
use Rattle.canonical_file.specs.declared.closing.Closing.{Closing}
use Rattle.canonical_writer.specs.Parts.{IsUsableClosing, printed_closing}
use Rattle.canonical_writer.proofs.PrintedClosings.{closing-printed}
use Rattle.canonical_writer.proofs.writer.CanonWriter.hold_closing.Goals as goal
use Rattle.canonical_writer.proofs.writer.CanonWriter.hold_closing.Goals.{in-Some+in_ok-printed-in-Some, in-None}

pub invariant_of-self : goal.invariant_of-self
invariant_of-self c =
    let closing : Closing = c.args.closing.now in
    let table : c.match-closing.table ≡ option_map printed_entry closing.table = elim c.match-closing.branch [
      | in-Some+in_ok-printed-in-Some w ↦
          w.table-is ∙ ap Some w.in_ok-printed-in-Some.ensures ∙ sym (ap (option_map printed_entry) w.in-Some.is)
      | in-None w ↦ w.table-is ∙ sym (ap (option_map printed_entry) w.in-None.is)
    ] in
    let same : record { end = c.in_ok-printed.field-0; table = c.match-closing.table } ≡ printed_closing closing =
    λ i. record { end = c.in_ok-printed.ensures i; table = table i } in
    (c.self.invariant.0, c.self.invariant.1, subst IsUsableClosing (sym same) (closing-printed closing c.requires))
