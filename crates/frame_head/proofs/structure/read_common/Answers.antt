-- The instance's four bytes, taken from the four that are left at 10, are the range from 10 to 14.
use Rattle.std.proofs.Common.{drop, arith}
use Rattle.std.proofs.lemmas.List.{take-take}
use Rattle.frame_head.proofs.structure.read_common.Goals as goal

pub returns : goal.returns
returns c = rw (
  c.read_num.ensures.value,
  c.read_num-2.ensures.value,
  take-take 4 4 (drop 10 c.args.bytes.now) (omega arith),
)
