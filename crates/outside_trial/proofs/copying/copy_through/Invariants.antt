-- What was copied so far, which grows by at least a byte each time.
use Rattle.std.proofs.Common.{◌-◌, ◌<◌, length}
use Rattle.outside_trial.proofs.Pieces.{HasCopied}
use Rattle.outside_trial.proofs.copying.copy_through.Given as goal

abbrev pub invariant-pieces : goal.invariant-pieces
invariant-pieces g l = record {
  room : 0 < length l.buffer;
  copied : HasCopied (g.S.Shelf.outside l.fn.shelf) (g.S.Shelf.outside l.shelf) l.from l.to l.copied;
}

abbrev pub decreases-pieces : goal.decreases-pieces
decreases-pieces g l = 18446744073709551615 - l.copied
