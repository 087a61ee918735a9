-- The parts so far are written.
use Rattle.std.proofs.Common.{◌≡◌, fold, take}
use Rattle.frame_head.specs.NumberPart.{with_part}
use Rattle.frame_head.proofs.header.write_parts.Given as goal

abbrev pub invariant-loop-part : goal.invariant-loop-part
invariant-loop-part l = l.into ≡ fold with_part l.initial.into (take l.part-index l.parts)
