-- The reader is on its way, and what it passed is structures that may stand.
use Rattle.std.proofs.Common.{◌+◌, ◌-◌, ◌*◌, ◌≤◌}
use Rattle.frame_outside.specs.Shelf.{Told}
use Rattle.frame_outside.specs.SlotReader.{to_come}
use Rattle.frame_outside.proofs.Reading.{HasGone}
use Rattle.frame_tool.specs.Walk.{file_limit}
use Rattle.frame_tool.specs.WalkSteps.{Stood}
use Rattle.frame_tool.proofs.walk.walk_structures.Given as goal

abbrev pub invariant-structures : goal.invariant-structures
invariant-structures g l = record {
  begun : 40 ≤ l.at;
  within : l.at ≤ file_limit;
  counted : 40 + 14 * l.structures ≤ l.at;
  gone : HasGone (g.S.Shelf.outside l.fn.shelf) (g.S.Shelf.outside l.shelf) l.fn.reader l.reader (l.at - 40);
  stood : Told (to_come (g.S.Shelf.outside l.fn.shelf) l.fn.reader)
      (λ rest. Stood l.order rest (l.at - 40) l.structures);
}

abbrev pub decreases-structures : goal.decreases-structures
decreases-structures g l = file_limit - l.at
