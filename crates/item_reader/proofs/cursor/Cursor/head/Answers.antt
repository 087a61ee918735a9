-- The 14 bytes at the place reached.
use Rattle.std.proofs.Common.{refl}
use Rattle.structure_source.proofs.Going.{goes-none}
use Rattle.item_reader.specs.State.{before_of}
use Rattle.item_reader.proofs.cursor.Cursor.head.Goals as goal

pub returns-in-Seen-clause-on : goal.returns-in-Seen-clause-on
returns-in-Seen-clause-on g c = goes-none (g.S.Shelf.outside c.args.shelf.now) c.args.self.now.source

pub returns-in-Wrong-clause-on : goal.returns-in-Wrong-clause-on
returns-in-Wrong-clause-on g c = goes-none (g.S.Shelf.outside c.args.shelf.now) c.args.self.now.source

pub returns-in-Wrong-clause-fault : goal.returns-in-Wrong-clause-fault
returns-in-Wrong-clause-fault g c = λ fault is reading told.
    let looked = rw c.in-Wrong.is at c.requires.looked reading told in
    let there = looked.0 (before_of c.args.self.now.state) refl c.requires.unclosed in
    cc
