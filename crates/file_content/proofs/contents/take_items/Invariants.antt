-- The reader is on its way through the file, and what was kept is what the items so far hold.
use Rattle.std.proofs.Common.{◌≡◌, ◌-◌, false, None}
use Rattle.frame_outside.specs.SlotReader.{Draws}
use Rattle.file_grammar.specs.Structure.{file_limit}
use Rattle.item_reader.specs.Reader.{Reads}
use Rattle.file_content.specs.Scanned.{Scans}
use Rattle.file_content.proofs.contents.take_items.Given as goal

abbrev pub invariant-items : goal.invariant-items
invariant-items g l = record {
  reads : Reads (g.S.Shelf.outside l.shelf) l.reader;
  draws : Draws (g.S.Shelf.outside l.initial.shelf) (g.S.Shelf.outside l.shelf) l.initial.reader.position.slot;
  slot : l.reader.position.slot ≡ l.initial.reader.position.slot;
  unclosed : l.reader.before.closed ≡ false;
  error : l.reader.error ≡ None;
  scanned : Scans (g.S.Shelf.outside l.initial.shelf) l.initial.reader.position.slot l.initial.reader l.initial.scan
      l.reader l.scan;
}

abbrev pub decreases-items : goal.decreases-items
decreases-items g l = file_limit - l.reader.before.place
