-- The links and the counts of those that stand before, where the order is one.
use Rattle.std.proofs.Common.{◌≡◌, length, take}
use Rattle.canonical_writer.specs.NewLinks.{IsOrder, classes_of}
use Rattle.canonical_writer.proofs.Numbering.{IsNumbered}
use Rattle.canonical_writer.proofs.instances.NewLinks.number.Given as goal

abbrev pub invariant-loop-node : goal.invariant-loop-node
invariant-loop-node l =
    (length l.self-inside.links.items ≡ length l.segment.nodes)
    × (length l.counts ≡ 256)
    × (IsOrder (classes_of l.segment.nodes) l.order
    → IsNumbered (classes_of l.segment.nodes) (take l.node-index l.order) l.self-inside.links.items l.counts)
