-- The next item or the first fault after what was read.
use Rattle.std.proofs.Common.{◌≡◌, None, Some, ap, sym, subst, ◌∙◌}
use Rattle.structure_source.specs.Source.{bytes_drawn}
use Rattle.structure_source.proofs.Going.{goes-none}
use Rattle.item_reader.specs.Looked.{IsWithinLook}
use Rattle.item_reader.specs.Cursor.{InFile, GivesNext}
use Rattle.item_reader.specs.Reader.{Reader, Faults}
use Rattle.item_reader.proofs.LentBody.{shown}
use Rattle.item_reader.proofs.ReadOn.{given-again, closed-by, has-ended, is-going, is-ready, in-reader}
use Rattle.item_reader.proofs.ReadOn.{next-goes, next-read, next-reads, first-reader}
use Rattle.item_reader.proofs.reader.ItemReader.next.Goals as goal

pub returns-in-Some-clause-draws : goal.returns-in-Some-clause-draws
returns-in-Some-clause-draws g c = goes-none (g.S.Shelf.outside c.args.shelf.now) c.args.self.now.position

pub returns-in-Some-end_given-clause-draws : goal.returns-in-Some-end_given-clause-draws
returns-in-Some-end_given-clause-draws g c = goes-none
    (g.S.Shelf.outside c.args.shelf.now) c.args.self.now.position

pub returns-in-Some-end_given-clause-item : goal.returns-in-Some-end_given-clause-item
returns-in-Some-end_given-clause-item g c = λ unclosed.
    let again = given-again c.args.self.now.before.closed c.args.self.now.last c.in-Some-end_given.item
    (sym c.end_given.ensures ∙ c.in-Some-end_given.is) in
    absurd cc

pub returns-in-Some-end_given-clause-end : goal.returns-in-Some-end_given-clause-end
returns-in-Some-end_given-clause-end g c = λ end file told.
    let r : Reader = c.args.self.now in
    let again = given-again r.before.closed r.last c.in-Some-end_given.item
    (sym c.end_given.ensures ∙ c.in-Some-end_given.is) in
    let none : r.error ≡ None = ap (λ (r : Reader). r.error) (sym c.self.view_is) ∙ c.in_default.is in
    has-ended file r (c.requires.reads.read none file told) again.0

pub advance-requires : goal.advance-requires
advance-requires g c =
    let s = c.self.inside in
    let r : Reader = c.args.self.now in
    let old = g.S.Shelf.outside c.args.shelf.now in
    let going = is-going old s.cursor s.last s.error r c.end_given.result c.self.view_is c.self.invariant
    c.in_default.is c.end_given.ensures c.in_default-end_given.is c.requires.reads in
    is-ready old s.cursor s.last s.error r going

pub returns-in-Ok-clause-reads : goal.returns-in-Ok-clause-reads
returns-in-Ok-clause-reads g c =
    let s = c.self.inside in
    let r : Reader = c.args.self.now in
    let old = g.S.Shelf.outside c.args.shelf.now in
    let going = is-going old s.cursor s.last s.error r c.end_given.result c.self.view_is c.self.invariant
    c.in_default.is c.end_given.ensures c.in_default-end_given.is c.requires.reads in
    next-reads old (g.S.Shelf.outside c.advance.new.shelf) s.cursor c.advance.new.self s.last s.error r
    c.in-Ok.item going c.in-Ok.ensures.answers
    c.in-Ok.ensures.order c.in-Ok.ensures.stands c.in-Ok.ensures.on

pub returns-in-Ok-clause-item : goal.returns-in-Ok-clause-item
returns-in-Ok-clause-item g c = λ unclosed.
    let s = c.self.inside in
    let r : Reader = c.args.self.now in
    let old = g.S.Shelf.outside c.args.shelf.now in
    let going = is-going old s.cursor s.last s.error r c.end_given.result c.self.view_is c.self.invariant
    c.in_default.is c.end_given.ensures c.in_default-end_given.is c.requires.reads in
    next-goes old s.cursor c.advance.new.self s.last s.error r c.in-Ok.item going c.in-Ok.ensures.answers

pub returns-in-Ok-clause-end : goal.returns-in-Ok-clause-end
returns-in-Ok-clause-end g c = λ end file told.
    let s = c.self.inside in
    let r : Reader = c.args.self.now in
    let old = g.S.Shelf.outside c.args.shelf.now in
    let going = is-going old s.cursor s.last s.error r c.end_given.result c.self.view_is c.self.invariant
    c.in_default.is c.end_given.ensures c.in_default-end_given.is c.requires.reads in
    has-ended file (shown c.advance.new.self (Some c.in-Ok.item) s.error)
    (next-read old s.cursor c.advance.new.self s.last s.error r c.in-Ok.item going c.in-Ok.ensures.answers
    c.in-Ok.ensures.order file told)
    (closed-by c.in-Ok.item c.advance.new.self.state.closed c.in-Ok.ensures.closed end)

pub returns-in-Err-clause-fault : goal.returns-in-Err-clause-fault
returns-in-Err-clause-fault g c = λ fault given none.
    let s = c.self.inside in
    let r : Reader = c.args.self.now in
    let old = g.S.Shelf.outside c.args.shelf.now in
    let going = is-going old s.cursor s.last s.error r c.end_given.result c.self.view_is c.self.invariant
    c.in_default.is c.end_given.ensures c.in_default-end_given.is c.requires.reads in
    first-reader old s.cursor s.last s.error r fault going
    (subst (λ result. InFile old s.cursor
    (λ h. GivesNext h result c.advance.new.self)) given c.in-Err.ensures.answers)

pub returns-in-Err-clause-at : goal.returns-in-Err-clause-at
returns-in-Err-clause-at g c = λ fault given none.
    let s = c.self.inside in
    let r : Reader = c.args.self.now in
    let old = g.S.Shelf.outside c.args.shelf.now in
    let going = is-going old s.cursor s.last s.error r c.end_given.result c.self.view_is c.self.invariant
    c.in_default.is c.end_given.ensures c.in_default-end_given.is c.requires.reads in
    in-reader old s.cursor s.last s.error r (λ h. Faults h fault) going
    (subst (λ result. InFile old s.cursor
    (λ h. GivesNext h result c.advance.new.self)) given c.in-Err.ensures.answers)

pub returns-in-Err-clause-ahead : goal.returns-in-Err-clause-ahead
returns-in-Err-clause-ahead g c = λ none.
    let s = c.self.inside in
    let r : Reader = c.args.self.now in
    let old = g.S.Shelf.outside c.args.shelf.now in
    let going = is-going old s.cursor s.last s.error r c.end_given.result c.self.view_is c.self.invariant
    c.in_default.is c.end_given.ensures c.in_default-end_given.is c.requires.reads in
    in-reader old s.cursor s.last s.error r
    (λ h. IsWithinLook h.order h.file h.before.place
    (bytes_drawn c.advance.new.self.source)) going c.in-Err.ensures.ahead
