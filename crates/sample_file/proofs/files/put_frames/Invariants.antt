-- The frames before k are written.
use Rattle.std.proofs.Common.{◌≡◌, ℕ, ◌≤◌, List}
use Rattle.frame_outside.specs.Shelf.{Outside, IsTarget}
use Rattle.sample_file.specs.Lent.{IsSampleRoom}
use Rattle.sample_file.specs.Put.{sample_head, HasMade, HasWritten}
use Rattle.sample_file.proofs.files.put_frames.Given as goal

abbrev pub invariant-loop-k : goal.invariant-loop-k
invariant-loop-k g l = record {
  room : IsSampleRoom l.sample;
  slot : l.writer.slot ≡ l.initial.writer.slot;
  target : IsTarget (g.S.Shelf.outside l.shelf).slots l.writer.slot;
  written : HasWritten l.k l.writer;
  faults : (g.S.Shelf.outside l.initial.shelf).faults ≤ (g.S.Shelf.outside l.shelf).faults;
  made : (old : Outside) (name : List ℕ)
      → HasMade old (g.S.Shelf.outside l.initial.shelf) name l.initial.writer.slot (sample_head 0)
      → HasMade old (g.S.Shelf.outside l.shelf) name l.initial.writer.slot (sample_head l.k);
}
