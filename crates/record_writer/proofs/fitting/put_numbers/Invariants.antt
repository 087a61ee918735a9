use Rattle.std.proofs.Common.{◌≡◌, map, take}
use Rattle.layout_plan.specs.Body.{number_of}
use Rattle.record_writer.proofs.fitting.put_numbers.Given as goal

abbrev pub invariant-loop-i : goal.invariant-loop-i
invariant-loop-i l = take l.i l.numbers ≡ map number_of (take l.i l.values)
