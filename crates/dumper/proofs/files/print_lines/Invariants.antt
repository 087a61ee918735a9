-- The reader is on its way through the file, and the lines of its items so far were printed.
use Rattle.std.proofs.Common.{◌≡◌, ◌≤◌, ◌-◌, false, None}
use Rattle.frame_outside.specs.Shelf.{Told}
use Rattle.frame_outside.specs.SlotReader.{Draws}
use Rattle.file_grammar.specs.Structure.{file_limit}
use Rattle.item_reader.specs.Reader.{file_of, Reads}
use Rattle.dumper.specs.Page.{pending}
use Rattle.dumper.specs.Printing.{PrintsOn}
use Rattle.dumper.proofs.files.print_lines.Given as goal

abbrev pub invariant-items : goal.invariant-items
invariant-items g l = record {
  reads : Reads (g.S.Shelf.outside l.shelf) l.reader;
  error : l.reader.error ≡ None;
  unclosed : l.reader.before.closed ≡ false;
  draws : Draws (g.S.Shelf.outside l.fn.shelf) (g.S.Shelf.outside l.shelf) l.fn.reader.position.slot;
  slot : l.reader.position.slot ≡ l.fn.reader.position.slot;
  order : l.reader.order ≡ l.fn.reader.order;
  sink : (g.O.Sink.output l.fn.out).faults ≤ (g.O.Sink.output l.out).faults;
  lines : Told (file_of (g.S.Shelf.outside l.fn.shelf) l.fn.reader.position.slot) (λ file.
      PrintsOn file l.fn.reader.order l.reader.before (g.O.Sink.output l.fn.out) (g.O.Sink.output l.out)
      (pending l.fn.page) (pending l.page));
}

abbrev pub decreases-items : goal.decreases-items
decreases-items g l = file_limit - l.reader.before.place
