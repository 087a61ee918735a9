-- What is filled so far is what was passed.
use Rattle.std.proofs.Common.{◌≡◌, ◌-◌, ◌≤◌, length, take, drop}
use Rattle.frame_outside.specs.Shelf.{Told, reading_at}
use Rattle.structure_source.proofs.Going.{Underway}
use Rattle.structure_source.proofs.source.StructureSource.fill.Given as goal

abbrev pub invariant-loop-filled : goal.invariant-loop-filled
invariant-loop-filled g l = record {
  room : l.filled ≤ length l.into;
  way : Underway (g.S.Shelf.outside l.fn.shelf) (g.S.Shelf.outside l.shelf) l.fn.self l.self
      (length l.into) (length l.into - l.filled);
  filled : Told (reading_at (g.S.Shelf.outside l.fn.shelf).slots l.fn.self.slot)
      (λ reading. take l.filled l.into ≡ take l.filled (drop l.fn.self.at reading.opened));
}

abbrev pub decreases-loop-filled : goal.decreases-loop-filled
decreases-loop-filled g l = length l.initial.into - l.filled
