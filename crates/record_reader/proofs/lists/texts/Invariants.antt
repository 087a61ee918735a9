use Rattle.layout_plan.specs.Reading.{text_in}
use Rattle.record_reader.proofs.ListLemmas.{AreTaken}
use Rattle.record_reader.proofs.lists.texts.Given as goal

abbrev pub invariant-loop-i : goal.invariant-loop-i
invariant-loop-i l = AreTaken (text_in l.order) l.count l.initial.cursor l._i l.list l.cursor
