use Rattle.std.proofs.Common.{◌-◌, ◌≤◌, ◌++◌, length, take}
use Rattle.std.specs.Prelude.{codes}
use Rattle.hex.specs.Hex.{encode_lower}
use Rattle.dumper.specs.Page.{pending, Carries}
use Rattle.dumper.proofs.values.print_bytes.Given as goal

-- the bytes so far
abbrev pub invariant-loop-at : goal.invariant-loop-at
invariant-loop-at g l = record {
  within : l.at ≤ length l.bytes;
  printed : Carries (g.O.Sink.output l.fn.out) (g.O.Sink.output l.out) (pending l.fn.page) (pending l.page)
      (codes "#" ++ encode_lower (take l.at l.bytes));
}

abbrev pub decreases-loop-at : goal.decreases-loop-at
decreases-loop-at g l = length l.bytes - l.at
