-- The reader after the header.
use Rattle.std.proofs.Common.{◌≡◌, None, Result, Err, inl, refl, sym, ap, ◌∙◌, subst}
use Rattle.scalar_types.specs.declared.Order.{Order}
use Rattle.structure_source.specs.Source.{Position}
use Rattle.file_grammar.specs.Fault.{IsHeaderFault}
use Rattle.item_reader.specs.declared.cursor.Cursor.{Cursor}
use Rattle.item_reader.specs.declared.item.ReadError.{ReadError}
use Rattle.item_reader.specs.declared.item.ReadError.TheVariants as error
use Rattle.item_reader.specs.declared.looked.Looked.TheVariants.{Nothing}
use Rattle.item_reader.specs.Reader.{file_of, Reads}
use Rattle.item_reader.proofs.LentBody.{shown}
use Rattle.item_reader.proofs.ReadOn.{told-file_of, reads-begun, drawn-few, drawn-none, same-error}
use Rattle.item_reader.proofs.reader.ItemReader.begin.Goals as goal

pub returns-in_err-source-clause-draws : goal.returns-in_err-source-clause-draws
returns-in_err-source-clause-draws g c = drawn-none (g.S.Shelf.outside c.args.shelf.now) c.args.slot 65576

pub returns-in_err-order-clause-draws : goal.returns-in_err-order-clause-draws
returns-in_err-order-clause-draws g c =
    drawn-few (g.S.Shelf.outside c.args.shelf.now)
    (g.S.Shelf.outside c.read_order.new.shelf) c.args.slot 65576
    c.in_ok-source.source c.read_order.new.source c.in_ok-source.ensures c.read_order.ensures.on
    c.read_order.ensures.few

pub returns-in_err-new-clause-draws : goal.returns-in_err-new-clause-draws
returns-in_err-new-clause-draws g c =
    drawn-few (g.S.Shelf.outside c.args.shelf.now)
    (g.S.Shelf.outside c.read_order.new.shelf) c.args.slot 65576
    c.in_ok-source.source c.read_order.new.source c.in_ok-source.ensures c.read_order.ensures.on
    c.read_order.ensures.few

pub returns-clause-draws : goal.returns-clause-draws
returns-clause-draws g c =
    drawn-few (g.S.Shelf.outside c.args.shelf.now)
    (g.S.Shelf.outside c.read_order.new.shelf) c.args.slot 65576
    c.in_ok-source.source c.read_order.new.source c.in_ok-source.ensures c.read_order.ensures.on
    c.read_order.ensures.few

pub returns-in_err-order-clause-header : goal.returns-in_err-order-clause-header
returns-in_err-order-clause-header g c = λ fault is file told.
    let old = g.S.Shelf.outside c.args.shelf.now in
    let given : ◌≡◌ {A = Result Order ReadError} (Err c.in_err-order.field-0.0) (Err (error.Fault fault)) =
    same-error c.from_residual-in_err-order.result c.in_err-order.field-0.0 (error.Fault fault) is
    c.from_residual-in_err-order.ensures.1 in
    told-file_of old c.in_ok-source.source.slot (λ file. IsHeaderFault file fault)
    (c.in_err-order.ensures.fault fault given) file
    (ap (λ (p : Position). file_of old p.slot) c.in_ok-source.ensures ∙ told)

pub returns-in_err-order-clause-fault : goal.returns-in_err-order-clause-fault
returns-in_err-order-clause-fault g c = λ fault is file told.
    inl (returns-in_err-order-clause-header g c fault is file told)

pub returns-clause-reads : goal.returns-clause-reads
returns-clause-reads g c =
    let old = g.S.Shelf.outside c.args.shelf.now in
    let new = g.S.Shelf.outside c.read_order.new.shelf in
    let at : Position → Cursor =
    λ p. record {
      source = p;
      state = c.in_ok-new.field-0;
      links = c.new-3.result;
      own = c.new-4.result;
      looked = Nothing;
      kept = None;
      instance = 0;
    } in
    subst (λ (p : Position). Reads new (shown (at p) None None)) (sym c.source.view_is)
    (reads-begun old new c.in_ok-source.source c.in_ok-order.order (at c.read_order.new.source)
    c.read_order.ensures.on c.read_order.ensures.stands c.in_ok-order.ensures.order
    c.in_ok-order.ensures.place refl
    c.in_ok-new.ensures.order c.in_ok-new.ensures.before)
