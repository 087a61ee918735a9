-- The reader is on its way through the file, and what was put of it is what its frames so far bring.
use Rattle.std.proofs.Common.{◌≡◌, ◌≤◌, ◌-◌, false, None}
use Rattle.frame_outside.specs.Shelf.{IsTarget}
use Rattle.file_grammar.specs.Structure.{file_limit}
use Rattle.item_reader.specs.Reader.{Reads, file_of}
use Rattle.splicer.proofs.PutsOn.{PutsOn, MadeOn}
use Rattle.splicer.proofs.ReadsOn.{ReadsOn}
use Rattle.splicer.proofs.inputs.put_frames.Given as goal

abbrev pub invariant-frames : goal.invariant-frames
invariant-frames g l = record {
  reads : Reads (g.S.Shelf.outside l.shelf) l.frames.reader;
  slot : l.frames.reader.position.slot ≡ l.initial.frames.reader.position.slot;
  unclosed : l.frames.reader.before.closed ≡ false;
  error : l.frames.reader.error ≡ None;
  target : IsTarget (g.S.Shelf.outside l.shelf).slots l.writer.slot;
  no_error : l.writer.error ≡ None;
  writes : l.writer.slot ≡ l.initial.writer.slot;
  closing : l.writer.closing ≡ l.initial.writer.closing;
  faults : (g.S.Shelf.outside l.initial.shelf).faults ≤ (g.S.Shelf.outside l.shelf).faults;
  file : file_of (g.S.Shelf.outside l.shelf) l.initial.frames.reader.position.slot
      ≡ file_of (g.S.Shelf.outside l.initial.shelf) l.initial.frames.reader.position.slot;
  puts : PutsOn (g.S.Shelf.outside l.initial.shelf) (g.S.Shelf.outside l.shelf) l.initial.frames l.frames
      l.initial.writer l.writer;
  made : MadeOn (g.S.Shelf.outside l.initial.shelf) (g.S.Shelf.outside l.shelf) l.initial.frames.reader.position.slot
      l.initial.writer l.writer;
  drawn : ReadsOn (g.S.Shelf.outside l.initial.shelf) (g.S.Shelf.outside l.shelf) l.initial.frames.reader
      l.frames.reader;
}

abbrev pub decreases-frames : goal.decreases-frames
decreases-frames g l = file_limit - l.frames.reader.before.place
