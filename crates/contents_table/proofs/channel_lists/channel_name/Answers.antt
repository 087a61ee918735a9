use Rattle.std.proofs.Common.{List, ℕ, Bor, sym, ap, ◌∙◌}
use Rattle.std.specs.Prelude.{option_and_then, slice_get}
use Rattle.std.specs.Option.{option_map}
use Rattle.frame_content.specs.Frames.{frame_of, label_at}
use Rattle.contents_table.specs.Channels.{text_of}
use Rattle.contents_table.proofs.ChannelNames.{channel-record, none-unlisted, body-read, plan-there}
use Rattle.contents_table.proofs.SomeValues.{some-and}
use Rattle.contents_table.proofs.ChannelNames.{name-is, name-text, name-told}
use Rattle.contents_table.proofs.channel_lists.channel_name.Goals as goal

pub returns-in_err-list-clause-name : goal.returns-in_err-list-clause-name
returns-in_err-list-clause-name c = λ held are is.
    absurd (none-unlisted held c.args.plans.now c.args.layouts.now c.args.segment.now c.args.kind c.args.node are
    c.requires.bodies c.in_err-list.ensures is)

pub returns-in_err-field-clause-name : goal.returns-in_err-field-clause-name
returns-in_err-field-clause-name c = λ held are is.
    let f = frame_of held c.args.segment.now in
    ap (option_map (λ (name : Bor (List ℕ)). name.now)) c.from_residual-in_err-field.ensures
    ∙ sym (name-is held c.args.plans.now c.args.layouts.now c.args.segment.now c.args.kind c.args.node
    c.in_ok-list.field-0 are c.requires.bodies
    (channel-record held c.args.plans.now c.args.layouts.now c.args.segment.now c.args.kind c.args.node are
    c.requires.bodies is) c.in_ok-list.ensures
    ∙ ap (λ o. option_and_then text_of (option_and_then (slice_get (label_at f c.args.node).values) o))
    c.in_err-field.was)

pub returns-in_err-plan-clause-name : goal.returns-in_err-plan-clause-name
returns-in_err-plan-clause-name c = λ held are is.
    absurd (plan-there c.args.plans.now c.args.segment.now c.args.node c.node.result.now c.requires.bodies
    c.requires.node c.node.ensures c.in_err-plan.ensures)

pub single_text-requires : goal.single_text-requires
single_text-requires c =
    body-read c.args.plans.now c.args.segment.now c.args.node c.order.result c.in_ok-plan.plan.now c.node.result.now
    c.body.result.now c.requires.bodies c.requires.node c.node.ensures c.body.ensures.body c.in_ok-plan.ensures
    c.order.ensures

pub returns-clause-name : goal.returns-clause-name
returns-clause-name c = λ held are is.
    let named = channel-record held c.args.plans.now c.args.layouts.now c.args.segment.now c.args.kind c.args.node
    are c.requires.bodies is in
    let told = some-and c.single_text.result _ (c.single_text.ensures.text
    (name-text held c.args.plans.now c.args.layouts.now c.args.segment.now c.args.kind c.args.node
    c.in_ok-list.field-0 c.in_ok-field.field c.in_ok-plan.plan.now c.node.result.now are c.requires.bodies named
    c.in_ok-list.ensures c.in_ok-field.was c.node.ensures c.in_ok-plan.ensures)) in
    ap (option_map (λ (name : Bor (List ℕ)). name.now)) told.1
    ∙ name-told held c.args.plans.now c.args.layouts.now c.args.segment.now c.args.kind c.args.node
    c.in_ok-list.field-0 c.in_ok-field.field c.order.result c.in_ok-plan.plan.now c.node.result.now
    c.body.result.now told.0.now are c.requires.bodies named
    c.in_ok-list.ensures c.in_ok-field.was c.node.ensures c.body.ensures.body c.in_ok-plan.ensures c.order.ensures
    told.2
