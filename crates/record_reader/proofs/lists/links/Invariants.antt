use Rattle.layout_plan.specs.Reading.{link_in}
use Rattle.record_reader.proofs.ListLemmas.{AreTaken}
use Rattle.record_reader.proofs.lists.links.Given as goal

abbrev pub invariant-loop-i : goal.invariant-loop-i
invariant-loop-i l = AreTaken (link_in l.order) l.count l.initial.cursor l._i l.list l.cursor
