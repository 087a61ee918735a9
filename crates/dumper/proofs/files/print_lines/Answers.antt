-- Each end of a printing by the lemma of its name on the lines so far.
use Rattle.std.proofs.Common.{◌≤◌, Err, inl, inr, refl, sym, ap, subst, ◌∙◌, arith, rules}
use Rattle.std.proofs.lemmas.Result.{err_from_is_err_and}
use Rattle.item_reader.specs.Reader.{IsFileEnd}
use Rattle.dumper.specs.declared.files.DumpError.TheVariants.{Device}
use Rattle.dumper.specs.Errors.{read_error, shelf_error}
use Rattle.dumper.specs.Lines.{heading}
use Rattle.dumper.specs.Page.{Carries, CarriesOrStops, pending}
use Rattle.dumper.specs.Given.{given_text}
use Rattle.dumper.specs.Printing.{PrintsLines}
use Rattle.dumper.proofs.Pages.{carried, settled}
use Rattle.dumper.proofs.ReadFiles.{draws-none, draws-more, told-drawn}
use Rattle.dumper.proofs.DumpErrors.{same-error, read-device, rose-after, stopped-rose}
use Rattle.dumper.proofs.PrintedItems.{heading-on, heading-cut, printed-more, printed-cut, printed-all, unread}
use Rattle.dumper.proofs.PrintedItems.{faults-grow, ended-place, goes-on, unclosed-by}
use Rattle.dumper.proofs.files.print_lines.Goals as goal

-- ---- the first line

pub items-init : goal.items-init
items-init g c =
    let r = c.args.reader.now in
    let old = g.O.Sink.output c.args.out.now in
    let new = g.O.Sink.output c.settle.new.out in
    let page = pending c.args.page.now in
    let now = pending c.settle.new.self in
    let first = settled old new page (c.push_heading-composed.new.text.items) now (heading c.order.result)
    c.push_heading-composed.result c.settle.result c.push_heading-composed.ensures c.settle.ensures.composed
    c.settle.ensures.refused in
    record {
      reads = c.requires.reads;
      error = c.requires.error;
      unclosed = ap (λ b. b.closed) c.requires.begun;
      draws = draws-none (g.S.Shelf.outside c.args.shelf.now) r.position.slot;
      slot = refl;
      order = refl;
      sink = faults-grow old new page now (heading c.order.result) c.settle.result first;
      lines = λ file told.
          heading-on file r old new page now (c.requires.reads.read c.requires.error file told) c.requires.begun
          (subst (λ o. Carries old new page now (heading o)) c.order.ensures
          (carried old new page now (heading c.order.result) c.in_ok-settle.field-0 c.settle.result c.in_ok-settle.was
          first));
    }

pub returns-in_err-settle-clause-lines : goal.returns-in_err-settle-clause-lines
returns-in_err-settle-clause-lines g c = λ file told.
    let r = c.args.reader.now in
    let old = g.O.Sink.output c.args.out.now in
    let new = g.O.Sink.output c.settle.new.out in
    let page = pending c.args.page.now in
    let now = pending c.settle.new.self in
    let e = c.in_err-settle.field-0.0 in
    let from = err_from_is_err_and c.from_residual.result c.from_residual.ensures.1 in
    subst (PrintsLines file r.order old new c.args.page.now c.settle.new.self)
    (sym (from.1 ∙ ap (λ e. Err e) from.2))
    (heading-cut file r old new c.args.page.now c.settle.new.self now e c.settle.result c.in_err-settle.was
    (c.requires.reads.read c.requires.error file told) c.requires.begun
    (subst (λ o. CarriesOrStops old new page now (heading o) c.settle.result) c.order.ensures
    (settled old new page (c.push_heading-composed.new.text.items) now (heading c.order.result)
    c.push_heading-composed.result c.settle.result c.push_heading-composed.ensures c.settle.ensures.composed
    c.settle.ensures.refused)))

pub returns-in_err-settle-clause-draws : goal.returns-in_err-settle-clause-draws
returns-in_err-settle-clause-draws g c =
    draws-none (g.S.Shelf.outside c.args.shelf.now) c.args.reader.now.position.slot

pub returns-in_err-settle-clause-sink : goal.returns-in_err-settle-clause-sink
returns-in_err-settle-clause-sink g c =
    let old = g.O.Sink.output c.args.out.now in
    let new = g.O.Sink.output c.settle.new.out in
    let page = pending c.args.page.now in
    let now = pending c.settle.new.self in
    faults-grow old new page now (heading c.order.result) c.settle.result
    (settled old new page (c.push_heading-composed.new.text.items) now (heading c.order.result)
    c.push_heading-composed.result c.settle.result c.push_heading-composed.ensures c.settle.ensures.composed
    c.settle.ensures.refused)

pub returns-in_err-settle-clause-device : goal.returns-in_err-settle-clause-device
returns-in_err-settle-clause-device g c = λ is.
    let old = g.O.Sink.output c.args.out.now in
    let new = g.O.Sink.output c.settle.new.out in
    let page = pending c.args.page.now in
    let now = pending c.settle.new.self in
    let e = c.in_err-settle.field-0.0 in
    let from = err_from_is_err_and c.from_residual.result c.from_residual.ensures.1 in
    inr (stopped-rose old old new page now (heading c.order.result) e c.settle.result (omega arith)
    c.in_err-settle.was
    (settled old new page (c.push_heading-composed.new.text.items) now (heading c.order.result)
    c.push_heading-composed.result c.settle.result c.push_heading-composed.ensures c.settle.ensures.composed
    c.settle.ensures.refused)
    (same-error c.from_residual.result (shelf_error e) Device (from.1 ∙ ap (λ e. Err e) from.2) is))

-- ---- the reader gives no further item

pub returns-in_err-item-clause-lines : goal.returns-in_err-item-clause-lines
returns-in_err-item-clause-lines g c = λ file told.
    let r = c.args.reader.now in
    let i = c.items.invariant in
    let e = c.in_err-item.field-0.0 in
    let old = g.O.Sink.output c.args.out.now in
    let new = g.O.Sink.output c.items.out in
    let here = told-drawn (g.S.Shelf.outside c.args.shelf.now) (g.S.Shelf.outside c.items.shelf) r.position.slot
    c.items.reader.position.slot file i.draws i.slot told in
    let from = err_from_is_err_and c.from_residual-in_err-item.result c.from_residual-in_err-item.ensures.1 in
    subst (PrintsLines file r.order old new c.args.page.now c.items.page) (sym (from.1 ∙ ap (λ e. Err e) from.2))
    (unread file r.order c.items.reader e old new c.args.page.now c.items.page i.order i.unclosed (i.lines file told)
    (λ fault is. c.next.ensures.at fault (c.in_err-item.was ∙ ap (λ e. Err e) is) i.error file here))

pub returns-in_err-item-clause-draws : goal.returns-in_err-item-clause-draws
returns-in_err-item-clause-draws g c =
    draws-more _ _ _ _ _ c.items.invariant.draws c.items.invariant.slot c.next.ensures.draws.draws

pub returns-in_err-item-clause-device : goal.returns-in_err-item-clause-device
returns-in_err-item-clause-device g c = λ is.
    let i = c.items.invariant in
    let e = c.in_err-item.field-0.0 in
    let from = err_from_is_err_and c.from_residual-in_err-item.result c.from_residual-in_err-item.ensures.1 in
    inl (rose-after (g.S.Shelf.outside c.args.shelf.now).faults (g.S.Shelf.outside c.items.shelf).faults
    (g.S.Shelf.outside c.next.new.shelf).faults i.draws.passes.faults
    (c.next.ensures.device (c.in_err-item.was ∙ ap (λ e. Err e) (read-device e
    (same-error c.from_residual-in_err-item.result (read_error e) Device (from.1 ∙ ap (λ e. Err e) from.2) is)))
    i.error))

-- ---- the item's lines are cut

pub returns-in_err-print_item-clause-lines : goal.returns-in_err-print_item-clause-lines
returns-in_err-print_item-clause-lines g c = λ file told.
    let r = c.args.reader.now in
    let i = c.items.invariant in
    let e = c.in_err-print_item.field-0.0 in
    let old = g.O.Sink.output c.args.out.now in
    let mid = g.O.Sink.output c.items.out in
    let new = g.O.Sink.output c.print_item.new.out in
    let here = told-drawn (g.S.Shelf.outside c.args.shelf.now) (g.S.Shelf.outside c.items.shelf) r.position.slot
    c.items.reader.position.slot file i.draws i.slot told in
    let from = err_from_is_err_and c.from_residual-in_err-print_item.result c.from_residual-in_err-print_item.ensures.1
    in
    subst (PrintsLines file r.order old new c.args.page.now c.print_item.new.page)
    (sym (from.1 ∙ ap (λ e. Err e) from.2))
    (printed-cut file r.order old mid new c.args.page.now c.print_item.new.page (pending c.items.page)
    (pending c.print_item.new.page) c.items.reader c.next.new.self c.in_ok-item.item e c.print_item.result
    c.in_err-print_item.was i.order c.next.ensures.order (i.lines file told)
    (c.in_ok-item.ensures.item i.unclosed file here)
    (λ closed. ended-place file c.next.new.self
    (c.in_ok-item.ensures.end (c.in_ok-item.ensures.closed.1 closed) file here))
    c.print_item.ensures)

pub returns-in_err-print_item-clause-draws : goal.returns-in_err-print_item-clause-draws
returns-in_err-print_item-clause-draws g c =
    draws-more _ _ _ _ _ c.items.invariant.draws c.items.invariant.slot c.next.ensures.draws.draws

pub returns-in_err-print_item-clause-sink : goal.returns-in_err-print_item-clause-sink
returns-in_err-print_item-clause-sink g c =
    let more : (g.O.Sink.output c.items.out).faults ≤ (g.O.Sink.output c.print_item.new.out).faults =
    faults-grow (g.O.Sink.output c.items.out) (g.O.Sink.output c.print_item.new.out) (pending c.items.page)
    (pending c.print_item.new.page) (given_text c.next.new.self c.in_ok-item.item) c.print_item.result
    c.print_item.ensures in
    omega (arith, c.items.invariant.sink, more)

pub returns-in_err-print_item-clause-device : goal.returns-in_err-print_item-clause-device
returns-in_err-print_item-clause-device g c = λ is.
    let e = c.in_err-print_item.field-0.0 in
    let from = err_from_is_err_and c.from_residual-in_err-print_item.result c.from_residual-in_err-print_item.ensures.1
    in
    inr (stopped-rose (g.O.Sink.output c.args.out.now) (g.O.Sink.output c.items.out)
    (g.O.Sink.output c.print_item.new.out) (pending c.items.page) (pending c.print_item.new.page)
    (given_text c.next.new.self c.in_ok-item.item) e c.print_item.result c.items.invariant.sink
    c.in_err-print_item.was c.print_item.ensures
    (same-error c.from_residual-in_err-print_item.result (shelf_error e) Device (from.1 ∙ ap (λ e. Err e) from.2) is))

-- ---- the item was printed

pub returns-in-FileEnd-clause-lines : goal.returns-in-FileEnd-clause-lines
returns-in-FileEnd-clause-lines g c = λ file told.
    let r = c.args.reader.now in
    let i = c.items.invariant in
    let old = g.O.Sink.output c.args.out.now in
    let mid = g.O.Sink.output c.items.out in
    let new = g.O.Sink.output c.print_item.new.out in
    let page = pending c.args.page.now in
    let middle = pending c.items.page in
    let now = pending c.print_item.new.page in
    let here = told-drawn (g.S.Shelf.outside c.args.shelf.now) (g.S.Shelf.outside c.items.shelf) r.position.slot
    c.items.reader.position.slot file i.draws i.slot told in
    printed-all file r.order old new page now c.next.new.self
    (printed-more file r.order old mid new page middle now c.items.reader c.next.new.self c.in_ok-item.item i.order
    c.next.ensures.order (i.lines file told) (c.in_ok-item.ensures.item i.unclosed file here)
    (carried mid new middle now (given_text c.next.new.self c.in_ok-item.item) c.in_ok-print_item.field-0
    c.print_item.result c.in_ok-print_item.was c.print_item.ensures))
    (c.in_ok-item.ensures.end (subst IsFileEnd (sym c.in-FileEnd.is) tt) file here)

pub returns-in-FileEnd-clause-draws : goal.returns-in-FileEnd-clause-draws
returns-in-FileEnd-clause-draws g c =
    draws-more _ _ _ _ _ c.items.invariant.draws c.items.invariant.slot c.next.ensures.draws.draws

pub returns-in-FileEnd-clause-sink : goal.returns-in-FileEnd-clause-sink
returns-in-FileEnd-clause-sink g c =
    let more : (g.O.Sink.output c.items.out).faults ≤ (g.O.Sink.output c.print_item.new.out).faults =
    faults-grow (g.O.Sink.output c.items.out) (g.O.Sink.output c.print_item.new.out) (pending c.items.page)
    (pending c.print_item.new.page) (given_text c.next.new.self c.in_ok-item.item) c.print_item.result
    c.print_item.ensures in
    omega (arith, c.items.invariant.sink, more)

pub items-preserved : goal.items-preserved
items-preserved g c =
    let r = c.args.reader.now in
    let i = c.items.invariant in
    let old = g.O.Sink.output c.args.out.now in
    let mid = g.O.Sink.output c.items.out in
    let new = g.O.Sink.output c.print_item.new.out in
    let page = pending c.args.page.now in
    let middle = pending c.items.page in
    let now = pending c.print_item.new.page in
    let text = given_text c.next.new.self c.in_ok-item.item in
    let more : mid.faults ≤ new.faults =
    faults-grow mid new middle now text c.print_item.result c.print_item.ensures in
    record {
      reads = c.next.ensures.reads;
      error = search rules;
      unclosed = unclosed-by _ _ c.in_ok-item.ensures.closed.1 (goes-on _ c.in_default.not-FileEnd);
      draws = draws-more _ _ _ _ _ i.draws i.slot c.next.ensures.draws.draws;
      slot = c.next.ensures.draws.slot ∙ i.slot;
      order = c.next.ensures.order ∙ i.order;
      sink = omega (arith, i.sink, more);
      lines = λ file told.
          let here = told-drawn (g.S.Shelf.outside c.args.shelf.now) (g.S.Shelf.outside c.items.shelf) r.position.slot
          c.items.reader.position.slot file i.draws i.slot told in
          printed-more file r.order old mid new page middle now c.items.reader c.next.new.self c.in_ok-item.item i.order
          c.next.ensures.order (i.lines file told) (c.in_ok-item.ensures.item i.unclosed file here)
          (carried mid new middle now text c.in_ok-print_item.field-0 c.print_item.result c.in_ok-print_item.was
          c.print_item.ensures);
    }
