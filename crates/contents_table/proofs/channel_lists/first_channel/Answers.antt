use Rattle.std.proofs.Common.{sym, ◌∙◌}
use Rattle.contents_table.specs.Channels.{structure_of}
use Rattle.contents_table.proofs.ChannelLinks.{first-none, first-some, first-link, list-class}
use Rattle.contents_table.proofs.UpperRecords.{named-found, class-within}
use Rattle.contents_table.proofs.channel_lists.first_channel.Goals as goal

pub returns-in_err-list-clause-first : goal.returns-in_err-list-clause-first
returns-in_err-list-clause-first c = λ held are.
    c.from_residual-in_err-list.ensures
    ∙ sym (first-none held c.args.plans.now c.args.layouts.now c.args.segment.now c.args.kind
    c.in_ok-upper.upper are
    c.requires.bodies (c.in_ok-upper.ensures.upper held are) (c.in_ok-upper.ensures.named held are)
    c.in_err-list.ensures)

pub returns-clause-first : goal.returns-clause-first
returns-clause-first c = λ held are.
    let list = c.in_ok-list.list in
    c.target.ensures.target held (structure_of c.args.kind) are.plans_are are.sound
    (list-class held c.args.plans.now c.args.layouts.now c.args.kind list are c.in_ok-list.ensures)
    (first-link held c.args.plans.now c.args.layouts.now c.args.segment.now c.args.kind c.in_ok-upper.upper list are
    c.requires.bodies (c.in_ok-upper.ensures.named held are) c.in_ok-list.ensures)
    ∙ sym (first-some held c.args.plans.now c.args.layouts.now c.args.segment.now c.args.kind
    c.in_ok-upper.upper list
    are c.requires.bodies (c.in_ok-upper.ensures.upper held are) (c.in_ok-upper.ensures.named held are)
    c.in_ok-list.ensures)

pub returns-clause-named : goal.returns-clause-named
returns-clause-named c = λ held are.
    named-found held c.args.segment.now (structure_of c.args.kind) c.in_ok-list.list.head.class c.target.result
    (list-class held c.args.plans.now c.args.layouts.now c.args.kind c.in_ok-list.list are c.in_ok-list.ensures)
    c.target.ensures.class

pub returns-clause-within : goal.returns-clause-within
returns-clause-within c =
    class-within c.args.segment.now c.in_ok-list.list.head.class c.target.result c.target.ensures.class
