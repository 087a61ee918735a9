-- So many bytes are left to be passed, and what was passed stands at the end of the pending body.
use Rattle.frame_outside.specs.Shelf.{reading_at}
use Rattle.structure_source.specs.Source.{Brings}
use Rattle.structure_source.proofs.Going.{Underway}
use Rattle.structure_source.proofs.source.StructureSource.bring_body.Given as goal

abbrev pub invariant-loop-left : goal.invariant-loop-left
invariant-loop-left g l = record {
  way : Underway (g.S.Shelf.outside l.fn.shelf) (g.S.Shelf.outside l.shelf) l.fn.self l.self l.n l.left;
  brings : Brings (reading_at (g.S.Shelf.outside l.fn.shelf).slots l.fn.self.slot) l.fn.self l.self
      l.fn.segment l.segment;
}

abbrev pub decreases-loop-left : goal.decreases-loop-left
decreases-loop-left g l = l.left
