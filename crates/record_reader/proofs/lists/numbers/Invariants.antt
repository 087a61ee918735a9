use Rattle.layout_plan.specs.Reading.{number_in}
use Rattle.record_reader.proofs.ListLemmas.{AreTaken}
use Rattle.record_reader.proofs.lists.numbers.Given as goal

abbrev pub invariant-loop-i : goal.invariant-loop-i
invariant-loop-i l = AreTaken (number_in l.order l.width) l.count l.initial.cursor l._i l.list l.cursor
