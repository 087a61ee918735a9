use Rattle.std.proofs.Common.{◌+◌, ◌-◌}
use Rattle.file_grammar.specs.Structure.{file_limit, record_limit}
use Rattle.item_reader.proofs.Running.{IsRunning}
use Rattle.item_reader.proofs.entries.read_run.Given as goal

abbrev pub invariant-loop-elements : goal.invariant-loop-elements
invariant-loop-elements g l =
    IsRunning l.order (g.S.Shelf.outside l.fn.shelf) (g.S.Shelf.outside l.shelf) l.fn.source l.source
    l.elements

abbrev pub decreases-loop-elements : goal.decreases-loop-elements
decreases-loop-elements g l = file_limit + record_limit - l.source.at
