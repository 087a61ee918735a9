-- The record that describes the frame is the first of the class of FrameH.
use Rattle.std.proofs.Common.{ap, sym, ◌∙◌}
use Rattle.std.specs.Prelude.{option_and_then}
use Rattle.contents_table.proofs.UpperRecords.{first_of_class, header-layout, header-named}
use Rattle.contents_table.proofs.channel_lists.header_record.Goals as goal

pub returns-in_err-layouts-clause-header : goal.returns-in_err-layouts-clause-header
returns-in_err-layouts-clause-header c = λ held plans are reads.
    c.from_residual.ensures
    ∙ sym (header-layout held plans c.args.layouts.now c.args.segment.now are reads
    ∙ ap (option_and_then (first_of_class c.args.segment.now)) c.in_err-layouts.was)

pub returns-clause-header : goal.returns-clause-header
returns-clause-header c = λ held plans are reads.
    c.header.ensures
    ∙ sym (header-layout held plans c.args.layouts.now c.args.segment.now are reads
    ∙ ap (option_and_then (first_of_class c.args.segment.now)) c.in_ok-layouts.was)

pub returns-clause-named : goal.returns-clause-named
returns-clause-named c = λ held plans are.
    header-named held plans c.args.layouts.now c.args.segment.now c.in_ok-layouts.field-0 c.header.result are
    c.in_ok-layouts.was c.header.ensures
