-- The dump of a slot: the header, the lines, and what is still pending of them.
use Rattle.std.proofs.Common.{Err, inl, sym, ap, subst, ◌∙◌, arith}
use Rattle.std.proofs.lemmas.Result.{err_from_is_err_and}
use Rattle.dumper.specs.declared.files.DumpError.TheVariants.{Device}
use Rattle.dumper.specs.Errors.{read_error}
use Rattle.dumper.specs.Due.{Dumps}
use Rattle.dumper.proofs.ReadFiles.{draws-more, told-drawn}
use Rattle.dumper.proofs.DumpErrors.{same-error, read-device, device-risen}
use Rattle.dumper.proofs.DumpEnds.{dumps-unbegun}
use Rattle.dumper.proofs.files.dump_slot.Goals as goal

pub returns-in_err-reader-clause-answer : goal.returns-in_err-reader-clause-answer
returns-in_err-reader-clause-answer g c = λ file told.
    let out = g.O.Sink.output c.args.out.now in
    let e = c.in_err-reader.field-0.0 in
    let from = err_from_is_err_and c.from_residual.result c.from_residual.ensures.1 in
    subst (Dumps file out out) (sym (from.1 ∙ ap (λ e. Err e) from.2))
    (dumps-unbegun file out e (λ fault is. c.begin.ensures.header fault (c.in_err-reader.was ∙ ap (λ e. Err e) is) file
    told))

pub returns-in_err-reader-clause-device : goal.returns-in_err-reader-clause-device
returns-in_err-reader-clause-device g c = λ is.
    let e = c.in_err-reader.field-0.0 in
    let from = err_from_is_err_and c.from_residual.result c.from_residual.ensures.1 in
    inl (c.begin.ensures.device (c.in_err-reader.was ∙ ap (λ e. Err e) (read-device e
    (same-error c.from_residual.result (read_error e) Device (from.1 ∙ ap (λ e. Err e) from.2) is))))

pub returns-clause-answer : goal.returns-clause-answer
returns-clause-answer g c = λ file told.
    let r = c.in_ok-reader.reader in
    c.finish.ensures.answer file r.order (g.O.Sink.output c.args.out.now) c.new-page.result c.new-page.ensures
    (c.print_lines-printed.ensures.lines file
    (told-drawn (g.S.Shelf.outside c.args.shelf.now) (g.S.Shelf.outside c.begin.new.shelf) c.args.slot r.position.slot
    file c.begin.ensures.draws.draws c.in_ok-reader.ensures.slot told))

pub returns-clause-draws : goal.returns-clause-draws
returns-clause-draws g c =
    draws-more _ _ _ _ _ c.begin.ensures.draws.draws c.in_ok-reader.ensures.slot c.print_lines-printed.ensures.draws

pub returns-clause-sink : goal.returns-clause-sink
returns-clause-sink g c = omega (arith, c.print_lines-printed.ensures.sink, c.finish.ensures.sink)

pub returns-clause-device : goal.returns-clause-device
returns-clause-device g c = λ is.
    device-risen (g.S.Shelf.outside c.args.shelf.now).faults (g.S.Shelf.outside c.begin.new.shelf).faults
    (g.S.Shelf.outside c.print_lines-printed.new.shelf).faults (g.O.Sink.output c.args.out.now).faults
    (g.O.Sink.output c.print_lines-printed.new.out).faults (g.O.Sink.output c.finish.new.out).faults
    c.print_lines-printed.result c.begin.ensures.draws.draws.passes.faults c.print_lines-printed.ensures.sink
    c.finish.ensures.sink c.print_lines-printed.ensures.device (c.finish.ensures.device is)
