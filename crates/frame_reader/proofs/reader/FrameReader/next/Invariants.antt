-- The reader of items is on its way to the next frame: no frame has ended since.
use Rattle.std.proofs.Common.{◌≡◌, ◌-◌, ◌≤◌, true, false, None}
use Rattle.structure_source.specs.Source.{GoesOn as Passes}
use Rattle.file_grammar.specs.Structure.{file_limit}
use Rattle.item_reader.specs.Reader.{Reads}
use Rattle.frame_reader.proofs.Giving.{GivenOn}
use Rattle.frame_reader.proofs.reader.FrameReader.next.Given as goal

abbrev pub invariant-items : goal.invariant-items
invariant-items g l = record {
  reads : Reads (g.S.Shelf.outside l.shelf) l.self.reader;
  error : l.self.reader.error ≡ None;
  again : l.initial.self.reader.before.closed ≡ true → l.self ≡ l.initial.self;
  unclosed : l.initial.self.reader.before.closed ≡ false → l.self.reader.before.closed ≡ false;
  passes : Passes (g.S.Shelf.outside l.initial.shelf) (g.S.Shelf.outside l.shelf) l.initial.self.reader.position
      l.self.reader.position;
  order : l.self.reader.order ≡ l.initial.self.reader.order;
  place : l.initial.self.reader.before.place ≤ l.self.reader.before.place;
  given : GivenOn (g.S.Shelf.outside l.initial.shelf) l.initial.self l.self;
}

abbrev pub decreases-items : goal.decreases-items
decreases-items g l = file_limit - l.self.reader.before.place
