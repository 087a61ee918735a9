-- The channels so far have other names.
use Rattle.contents_table.proofs.NamedChannels.{AreOthers}
use Rattle.contents_table.proofs.channel_lists.channel_named.Given as goal

abbrev pub invariant-loop-node : goal.invariant-loop-node
invariant-loop-node l = AreOthers l.plans l.layouts l.segment l.name l.node-items l.node-index
