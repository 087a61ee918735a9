use Rattle.std.proofs.Common.{sym, ap, ◌∙◌}
use Rattle.frame_content.specs.Frames.{frame_of}
use Rattle.contents_table.specs.Channels.{structure_of, target}
use Rattle.contents_table.proofs.ChannelLinks.{next-is, next-link, list-class}
use Rattle.contents_table.proofs.UpperRecords.{class-within}
use Rattle.contents_table.proofs.channel_lists.next_channel.Goals as goal

pub returns-in_err-list-2-clause-next : goal.returns-in_err-list-2-clause-next
returns-in_err-list-2-clause-next c = λ held are.
    let s = c.args.segment.now in
    c.from_residual-in_err-list-2.ensures
    ∙ sym (next-is held c.args.plans.now c.args.layouts.now s c.args.kind c.args.node c.in_ok-list.list are
    c.requires.bodies (c.requires.named held are) c.in_ok-list.ensures
    ∙ ap (target (frame_of held s) (structure_of c.args.kind) c.args.node) c.in_err-list-2.was)

pub returns-clause-next : goal.returns-clause-next
returns-clause-next c = λ held are.
    let s = c.args.segment.now in
    c.target.ensures.target held (structure_of c.args.kind) are.plans_are are.sound
    (list-class held c.args.plans.now c.args.layouts.now c.args.kind c.in_ok-list.list are c.in_ok-list.ensures)
    (next-link held c.args.plans.now c.args.layouts.now s c.args.kind c.args.node c.in_ok-list.list
    c.in_ok-list-2.field-0 are c.requires.bodies (c.requires.named held are) c.in_ok-list.ensures
    c.in_ok-list-2.was)
    ∙ sym (next-is held c.args.plans.now c.args.layouts.now s c.args.kind c.args.node c.in_ok-list.list are
    c.requires.bodies (c.requires.named held are) c.in_ok-list.ensures
    ∙ ap (target (frame_of held s) (structure_of c.args.kind) c.args.node) c.in_ok-list-2.was)

pub returns-clause-within : goal.returns-clause-within
returns-clause-within c =
    class-within c.args.segment.now c.in_ok-list.list.head.class c.target.result c.target.ensures.class
