use Rattle.std.proofs.Common.{◌∙◌}
use Rattle.contents_table.specs.Built.{places_in}
use Rattle.contents_table.proofs.AddedChannels.{all-added}
use Rattle.contents_table.proofs.builder.TableBuilder.add_channels.Goals as goal

pub returns-clause-ok : goal.returns-clause-ok
returns-clause-ok c =
    all-added c.args.plans.now c.args.layouts.now (places_in c.args.segment.now.nodes c.args.places)
    c.args.segment.now c.args.kind c.args.self.now c.loop-node.self
    c.as_slice-node-items.result.now c.loop-node.node-index c.loop-node.invariant c.loop-node-test.false
    (λ held are. c.as_slice-node-items.ensures ∙ c.in_ok-nodes.ensures.channels held are)
