-- What stands after the first records of the order.
use Rattle.std.specs.Option.{option_copied}
use Rattle.canonical_writer.specs.Parts.{IsReady}
use Rattle.canonical_writer.specs.Filled.{IsSource}
use Rattle.canonical_writer.proofs.Filling.{IsFilledTo}
use Rattle.canonical_writer.proofs.frame_part.FramePart.fill.Given as goal

abbrev pub invariant-loop-node : goal.invariant-loop-node
invariant-loop-node l =
    IsSource l.frame → IsReady l.fn.self.met (option_copied l.closing) l.fn.used l.frame.dictionary.now
    → IsFilledTo l.at (option_copied l.closing) l.fn.used l.used l.frame l.node-index l.self
