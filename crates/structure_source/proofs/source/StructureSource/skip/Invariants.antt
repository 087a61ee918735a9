-- So many bytes are left to be passed.
use Rattle.structure_source.proofs.Going.{Underway}
use Rattle.structure_source.proofs.source.StructureSource.skip.Given as goal

abbrev pub invariant-loop-left : goal.invariant-loop-left
invariant-loop-left g l =
    Underway (g.S.Shelf.outside l.fn.shelf) (g.S.Shelf.outside l.shelf) l.fn.self l.self l.n l.left

abbrev pub decreases-loop-left : goal.decreases-loop-left
decreases-loop-left g l = l.left
