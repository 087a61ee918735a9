-- The record that describes the frame is the first of the class of FrameH.
use Rattle.std.proofs.Common.{Some, ap, sym, ◌∙◌}
use Rattle.std.specs.Prelude.{option_and_then}
use Rattle.std.specs.Option.{option_map}
use Rattle.contents_table.specs.Built.{place_of, places_in}
use Rattle.contents_table.proofs.UpperRecords.{first_of_class, header-layout}
use Rattle.contents_table.proofs.builder.header_place.Goals as goal

pub returns-in_err-layouts : goal.returns-in_err-layouts
returns-in_err-layouts c = λ held plans are reads.
    c.from_residual.ensures
    ∙ sym (ap (option_map (place_of (places_in c.args.segment.now.nodes c.args.places)))
    (header-layout held plans c.args.layouts.now c.args.segment.now are reads
    ∙ ap (option_and_then (first_of_class c.args.segment.now)) c.in_err-layouts.was))

pub returns-in_err-node : goal.returns-in_err-node
returns-in_err-node c = λ held plans are reads.
    c.from_residual-in_err-node.ensures
    ∙ sym (ap (option_map (place_of (places_in c.args.segment.now.nodes c.args.places)))
    (header-layout held plans c.args.layouts.now c.args.segment.now are reads
    ∙ ap (option_and_then (first_of_class c.args.segment.now)) c.in_ok-layouts.was
    ∙ sym c.in_err-node.ensures))

pub returns : goal.returns
returns c = λ held plans are reads.
    ap Some c.«of».ensures
    ∙ sym (ap (option_map (place_of (places_in c.args.segment.now.nodes c.args.places)))
    (header-layout held plans c.args.layouts.now c.args.segment.now are reads
    ∙ ap (option_and_then (first_of_class c.args.segment.now)) c.in_ok-layouts.was
    ∙ sym c.in_ok-node.ensures))
