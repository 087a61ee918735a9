use Rattle.std.proofs.Common.{refl, ◌∙◌}
use Rattle.contents_table.proofs.NamedChannels.{others-more, channel-here, channel-none, channel-of_kind, channel-first}
use Rattle.contents_table.proofs.channel_lists.channel_named.Goals as goal

pub loop-node-init : goal.loop-node-init
loop-node-init c = record { left = λ held are. refl }

pub loop-node-preserved : goal.loop-node-preserved
loop-node-preserved c =
    others-more c.args.plans.now c.args.layouts.now c.args.segment.now c.args.kind c.args.name.now
    c.as_slice-node-items.result.now
    (λ held are. c.as_slice-node-items.ensures ∙ c.in_ok-nodes.ensures.channels held are) c.loop-node.node-index
    c.has_name.result c.loop-node-test.true c.if-has_name.false c.has_name.ensures c.loop-node.invariant

pub returns-then-has_name-clause-channel : goal.returns-then-has_name-clause-channel
returns-then-has_name-clause-channel c =
    channel-here c.args.plans.now c.args.layouts.now c.args.segment.now c.args.kind c.args.name.now
    c.as_slice-node-items.result.now
    (λ held are. c.as_slice-node-items.ensures ∙ c.in_ok-nodes.ensures.channels held are) c.loop-node.node-index
    c.has_name.result c.loop-node-test.true c.if-has_name.true c.has_name.ensures c.loop-node.invariant

pub returns-then-has_name-clause-named : goal.returns-then-has_name-clause-named
returns-then-has_name-clause-named c =
    channel-of_kind c.args.plans.now c.args.layouts.now c.args.segment.now c.args.kind c.args.name.now
    c.as_slice-node-items.result.now
    (λ held are. c.as_slice-node-items.ensures ∙ c.in_ok-nodes.ensures.channels held are) c.loop-node.node-index
    c.loop-node-test.true c.requires.bodies

pub returns-then-has_name-clause-first : goal.returns-then-has_name-clause-first
returns-then-has_name-clause-first c = λ held are some.
    channel-first c.args.plans.now c.args.layouts.now c.args.segment.now c.args.kind c.args.name.now
    c.as_slice-node-items.result.now
    (λ held are. c.as_slice-node-items.ensures ∙ c.in_ok-nodes.ensures.channels held are) c.loop-node.node-index
    c.loop-node-test.true held are

pub returns-clause-channel : goal.returns-clause-channel
returns-clause-channel c =
    channel-none c.args.plans.now c.args.layouts.now c.args.segment.now c.args.kind c.args.name.now
    c.as_slice-node-items.result.now
    (λ held are. c.as_slice-node-items.ensures ∙ c.in_ok-nodes.ensures.channels held are) c.loop-node.node-index
    c.loop-node-test.false c.loop-node.invariant
