-- The reader is on its way through the file.
use Rattle.item_reader.specs.Reader.{Reads}
use Rattle.frame_tool.proofs.tests.reader.first_other.Given as goal

abbrev pub invariant-loop-i : goal.invariant-loop-i
invariant-loop-i g l = Reads (g.S.Shelf.outside l.shelf) l.reader
