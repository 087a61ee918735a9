use Rattle.std.proofs.Common.{◌≡◌}
use Rattle.std.specs.Prelude.{map}
use Rattle.sample_file.specs.Sample.{sample, numbers_below}
use Rattle.sample_file.proofs.records.samples.Given as goal

abbrev pub invariant-loop-i : goal.invariant-loop-i
invariant-loop-i l = l.bytes.items ≡ map (sample l.k l.j) (numbers_below l.i)
