-- The reader is on its way to the end of its file.
use Rattle.std.proofs.Common.{◌≡◌, ◌-◌, true, None}
use Rattle.structure_source.specs.Source.{GoesOn as Passes}
use Rattle.file_grammar.specs.Structure.{file_limit}
use Rattle.item_reader.specs.Reader.{Reads}
use Rattle.content_compare.proofs.ReadingOn.{ReadsOn}
use Rattle.content_compare.proofs.differences.read_to_end.Given as goal

abbrev pub invariant-frames : goal.invariant-frames
invariant-frames g l = record {
  reads : Reads (g.S.Shelf.outside l.shelf) l.frames.reader;
  error : l.frames.reader.error ≡ None;
  again : l.initial.frames.reader.before.closed ≡ true → l.frames ≡ l.initial.frames;
  passes : Passes (g.S.Shelf.outside l.initial.shelf) (g.S.Shelf.outside l.shelf) l.initial.frames.reader.position
      l.frames.reader.position;
  on : ReadsOn (g.S.Shelf.outside l.initial.shelf) l.initial.frames l.frames;
}

abbrev pub decreases-frames : goal.decreases-frames
decreases-frames g l = file_limit - l.frames.reader.before.place
