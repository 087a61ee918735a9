-- Each step by the lemma of its name on a reader on its way.
use Rattle.std.proofs.Common.{◌≡◌, Some, Err, refl, sym, subst, ◌∙◌, rules}
use Rattle.item_reader.specs.declared.item.ReadError.TheVariants as error
use Rattle.item_reader.specs.Reader.{IsFileEnd, file_of}
use Rattle.file_content.proofs.WholeFiles.{draws_none, draws_more, file_of-drawn, goes_on, unclosed}
use Rattle.file_content.proofs.WholeFiles.{scans-init, scans-told, scans-more}
use Rattle.file_content.proofs.contents.take_items.Goals as goal

pub items-init : goal.items-init
items-init g c = record {
  reads = c.requires.reads;
  draws = draws_none (g.S.Shelf.outside c.args.shelf.now) c.args.reader.now.position.slot;
  slot = refl;
  unclosed = c.requires.unclosed;
  error = c.requires.error;
  scanned = scans-init (g.S.Shelf.outside c.args.shelf.now) c.args.reader.now.position.slot c.args.reader.now
      c.args.scan.now;
}

pub returns-in_err-item-clause-fault : goal.returns-in_err-item-clause-fault
returns-in_err-item-clause-fault g c = λ fault is file told.
    let was : c.next.result ≡ Err (error.Fault fault) = search rules in
    let here : file_of (g.S.Shelf.outside c.items.shelf) c.items.reader.position.slot ≡ Some file =
    rw c.items.invariant.slot (file_of-drawn _ _ _ c.items.invariant.draws ∙ told) in
    c.next.ensures.fault fault was c.items.invariant.error file here

pub returns-in_err-item-clause-draws : goal.returns-in_err-item-clause-draws
returns-in_err-item-clause-draws g c =
    draws_more _ _ _ _ _ c.items.invariant.draws c.items.invariant.slot c.next.ensures.draws.draws

pub returns-in_err-take-clause-draws : goal.returns-in_err-take-clause-draws
returns-in_err-take-clause-draws g c =
    draws_more _ _ _ _ _ c.items.invariant.draws c.items.invariant.slot c.next.ensures.draws.draws

pub returns-in-FileEnd-clause-scanned : goal.returns-in-FileEnd-clause-scanned
returns-in-FileEnd-clause-scanned g c = λ file told scanned.
    let here : file_of (g.S.Shelf.outside c.items.shelf) c.items.reader.position.slot ≡ Some file =
    rw c.items.invariant.slot (file_of-drawn _ _ _ c.items.invariant.draws ∙ told) in
    c.in_ok-take.ensures file c.items.reader
    (scans-told _ _ _ _ _ _ c.items.invariant.scanned file told scanned)
    (c.in_ok-item.ensures.item c.items.invariant.unclosed file here) c.next.ensures.order

pub returns-in-FileEnd-clause-end : goal.returns-in-FileEnd-clause-end
returns-in-FileEnd-clause-end g c = λ file told.
    let here : file_of (g.S.Shelf.outside c.items.shelf) c.items.reader.position.slot ≡ Some file =
    rw c.items.invariant.slot (file_of-drawn _ _ _ c.items.invariant.draws ∙ told) in
    c.in_ok-item.ensures.end (subst IsFileEnd (sym c.in-FileEnd.is) tt) file here

pub returns-in-FileEnd-clause-draws : goal.returns-in-FileEnd-clause-draws
returns-in-FileEnd-clause-draws g c =
    draws_more _ _ _ _ _ c.items.invariant.draws c.items.invariant.slot c.next.ensures.draws.draws

pub items-preserved : goal.items-preserved
items-preserved g c = record {
  reads = c.next.ensures.reads;
  draws = draws_more _ _ _ _ _ c.items.invariant.draws c.items.invariant.slot c.next.ensures.draws.draws;
  slot = c.next.ensures.draws.slot ∙ c.items.invariant.slot;
  unclosed = unclosed _ _ c.in_ok-item.ensures.closed.1 (goes_on _ c.in_default.not-FileEnd);
  error = search rules;
  scanned = scans-more _ _ _ _ _ _ _ _ c.items.invariant.scanned (λ file told scanned.
      let here : file_of (g.S.Shelf.outside c.items.shelf) c.items.reader.position.slot ≡ Some file =
      rw c.items.invariant.slot (file_of-drawn _ _ _ c.items.invariant.draws ∙ told) in
      c.in_ok-take.ensures file c.items.reader scanned
      (c.in_ok-item.ensures.item c.items.invariant.unclosed file here) c.next.ensures.order);
}
