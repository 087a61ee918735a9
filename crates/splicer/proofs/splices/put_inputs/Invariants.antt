-- The inputs before a number are written.
use Rattle.std.proofs.Common.{◌≡◌, ℕ, ◌≤◌, List, length, map, None, IsSome}
use Rattle.std.specs.String.{string_bytes}
use Rattle.frame_outside.specs.Shelf.{Outside, Files, IsTarget}
use Rattle.splicer.specs.Made.{IsMade}
use Rattle.splicer.specs.Spliced.{HasOpened, HasSpliced}
use Rattle.splicer.proofs.splices.put_inputs.Given as goal

abbrev pub invariant-inputs : goal.invariant-inputs
invariant-inputs g l = record {
  target : IsTarget (g.S.Shelf.outside l.shelf).slots l.writer.slot;
  error : l.writer.error ≡ None;
  holds : IsSome l.writer.closing;
  puts : (old : Outside) (to : List ℕ) (files : Files)
      → HasOpened files (map string_bytes l.from) old (g.S.Shelf.outside l.fn.shelf) to 0 l.fn.slot l.fn.writer
      → HasSpliced files (map string_bytes l.from) old (g.S.Shelf.outside l.shelf) to l.number l.writer;
  made : (old : Outside) (to : List ℕ) → length old.slots ≤ l.fn.slot
      → IsMade old (g.S.Shelf.outside l.fn.shelf) to 1 l.fn.writer.slot
      → IsMade old (g.S.Shelf.outside l.shelf) to l.number l.writer.slot;
}
