-- The channels so far are added.
use Rattle.contents_table.specs.Built.{places_in}
use Rattle.contents_table.proofs.AddedChannels.{AreAdded}
use Rattle.contents_table.proofs.builder.TableBuilder.add_channels.Given as goal

abbrev pub invariant-loop-node : goal.invariant-loop-node
invariant-loop-node l = AreAdded l.plans l.layouts (places_in l.segment.nodes l.places) l.segment l.kind
    l.initial.self l.self l.node-items l.node-index
