use Rattle.std.proofs.Common.{sym, ap, ◌∙◌}
use Rattle.std.specs.Prelude.{option_and_then}
use Rattle.contents_table.specs.Channels.{raw_data, frame_header}
use Rattle.contents_table.proofs.ReadRecords.{plans-of}
use Rattle.contents_table.proofs.ListHeads.{head-class, head-link, target_by}
use Rattle.contents_table.proofs.UpperRecords.{first_of_class, header-at, upper-none, upper-header}
use Rattle.contents_table.proofs.UpperRecords.{header-upper, upper-raw}
use Rattle.contents_table.proofs.UpperRecords.{raw-layout, class-within, first-within}
use Rattle.contents_table.proofs.channel_lists.upper_record.Goals as goal

pub returns-in_err-layouts-clause-upper : goal.returns-in_err-layouts-clause-upper
returns-in_err-layouts-clause-upper c = λ held are.
    c.from_residual.ensures
    ∙ sym (upper-none held c.args.plans.now c.args.layouts.now c.args.segment.now c.args.kind are c.requires.bodies
    (ap (option_and_then (first_of_class c.args.segment.now)) c.in_err-layouts.was))

pub returns-in_err-frame_header-clause-upper : goal.returns-in_err-frame_header-clause-upper
returns-in_err-frame_header-clause-upper c = λ held are.
    c.from_residual-in_err-frame_header.ensures
    ∙ sym (upper-none held c.args.plans.now c.args.layouts.now c.args.segment.now c.args.kind are c.requires.bodies
    (ap (option_and_then (first_of_class c.args.segment.now)) c.in_ok-layouts.was
    ∙ sym c.in_err-frame_header.ensures))

pub returns-in_err-layouts-2-clause-upper : goal.returns-in_err-layouts-2-clause-upper
returns-in_err-layouts-2-clause-upper c = λ held are.
    let s = c.args.segment.now in
    let node = c.in_ok-frame_header.frame_header in
    let header = header-at held c.args.plans.now c.args.layouts.now s c.in_ok-layouts.field-0 node are
    c.requires.bodies
    c.in_ok-layouts.was c.in_ok-frame_header.ensures in
    c.from_residual-in_err-layouts-2.ensures
    ∙ sym (upper-raw held c.args.plans.now c.args.layouts.now s c.args.kind node are c.requires.bodies header
    c.if-is_under_raw_data.ensures ∙ ap (target_by held s raw_data node) c.in_err-layouts-2.was)

pub returns-in_ok-layouts-2-clause-upper : goal.returns-in_ok-layouts-2-clause-upper
returns-in_ok-layouts-2-clause-upper c = λ held are.
    let s = c.args.segment.now in
    let node = c.in_ok-frame_header.frame_header in
    let to = c.in_ok-layouts-2.field-0 in
    let header = header-at held c.args.plans.now c.args.layouts.now s c.in_ok-layouts.field-0 node are
    c.requires.bodies
    c.in_ok-layouts.was c.in_ok-frame_header.ensures in
    let named = head-class held frame_header raw_data to
    (raw-layout held c.args.plans.now c.args.layouts.now to are c.in_ok-layouts-2.was) in
    c.target.ensures.target held raw_data are.plans_are are.sound named
    (head-link held c.args.plans.now s frame_header raw_data node to
    (plans-of held c.args.plans.now c.args.layouts.now are) c.requires.bodies header.named
    (raw-layout held c.args.plans.now c.args.layouts.now to are c.in_ok-layouts-2.was))
    ∙ sym (upper-raw held c.args.plans.now c.args.layouts.now s c.args.kind node are c.requires.bodies header
    c.if-is_under_raw_data.ensures ∙ ap (target_by held s raw_data node) c.in_ok-layouts-2.was)

pub returns-else-is_under_raw_data-clause-upper : goal.returns-else-is_under_raw_data-clause-upper
returns-else-is_under_raw_data-clause-upper c = λ held are.
    upper-header held c.args.segment.now c.args.kind c.in_ok-frame_header.frame_header
    (header-at held c.args.plans.now c.args.layouts.now c.args.segment.now c.in_ok-layouts.field-0
    c.in_ok-frame_header.frame_header are c.requires.bodies c.in_ok-layouts.was c.in_ok-frame_header.ensures)
    c.if-is_under_raw_data.ensures

pub returns-else-is_under_raw_data-clause-named : goal.returns-else-is_under_raw_data-clause-named
returns-else-is_under_raw_data-clause-named c = λ held are.
    header-upper held c.args.segment.now c.args.kind c.in_ok-frame_header.frame_header
    (header-at held c.args.plans.now c.args.layouts.now c.args.segment.now c.in_ok-layouts.field-0
    c.in_ok-frame_header.frame_header are c.requires.bodies c.in_ok-layouts.was c.in_ok-frame_header.ensures)
    c.if-is_under_raw_data.ensures

pub returns-in_ok-layouts-2-clause-within : goal.returns-in_ok-layouts-2-clause-within
returns-in_ok-layouts-2-clause-within c =
    class-within c.args.segment.now c.in_ok-layouts-2.field-0.class c.target.result c.target.ensures.class

pub returns-else-is_under_raw_data-clause-within : goal.returns-else-is_under_raw_data-clause-within
returns-else-is_under_raw_data-clause-within c =
    first-within c.args.segment.now c.in_ok-layouts.field-0 c.in_ok-frame_header.frame_header
    c.in_ok-frame_header.ensures
