-- What is appended and what the rest of the bytes is printed as are what all of them are printed as.
use Rattle.std.proofs.Common.{◌≡◌, ◌++◌, length}
use Rattle.dumper.specs.Printed.{escaped}
use Rattle.dumper.proofs.escapes.put_escaped.Given as goal

abbrev pub invariant-loop-text : goal.invariant-loop-text
invariant-loop-text l = l.text.items ++ escaped l.rest ≡ l.initial.text.items ++ escaped l.bytes

abbrev pub decreases-loop-text : goal.decreases-loop-text
decreases-loop-text l = length l.rest
