use Rattle.std.proofs.Common.{length, ◌-◌}
use Rattle.contents_table.proofs.ChannelWalk.{IsWalked}
use Rattle.contents_table.proofs.channel_lists.channels.Given as goal

abbrev pub invariant-loop-at : goal.invariant-loop-at
invariant-loop-at l = IsWalked l.plans l.layouts l.segment l.kind l.met.items l.nodes l.at

abbrev pub decreases-loop-at : goal.decreases-loop-at
decreases-loop-at l = length l.segment.nodes - length l.nodes
