-- How a dump ends, by what was printed of its file.
use Rattle.std.proofs.Common.{◌≡◌, [], Err, Ok, inr, sym, ap, subst, ◌∙◌, arith, rules}
use Rattle.std.proofs.lemmas.Result.{err_from_is_err_and}
use Rattle.dumper.specs.declared.files.DumpError.TheVariants.{Device}
use Rattle.dumper.specs.declared.files.DumpError.TheVariants as error
use Rattle.dumper.specs.Errors.{shelf_error}
use Rattle.dumper.specs.Due.{Dumps}
use Rattle.dumper.specs.Page.{pending}
use Rattle.dumper.specs.Printing.{PrintsLines}
use Rattle.dumper.proofs.Pages.{carried}
use Rattle.dumper.proofs.DumpErrors.{same-error, stopped-rose}
use Rattle.dumper.proofs.PrintedItems.{faults-grow}
use Rattle.dumper.proofs.DumpEnds.{dumps-some, dumps-all, dumps-cut, dumps-until, dumps-until_cut}
use Rattle.dumper.proofs.files.finish.Goals as goal

-- ---- all lines were printed

pub returns-in_ok-flush-in-Ok-clause-answer : goal.returns-in_ok-flush-in-Ok-clause-answer
returns-in_ok-flush-in-Ok-clause-answer g c = λ file order first start nothing lines.
    let old = g.O.Sink.output c.args.out.now in
    let new = g.O.Sink.output c.flush.new.out in
    let now = pending c.flush.new.self in
    let same : c.args.printed ≡ Ok tt = search rules in
    let printed = subst (PrintsLines file order first old start c.args.page.now) same lines in
    dumps-all file order first old new (pending start) (pending c.args.page.now) now nothing
    c.in_ok-flush-in-Ok.ensures.empty printed
    (carried old new (pending c.args.page.now) now [] c.in_ok-flush-in-Ok.field-0 c.flush.result
    c.in_ok-flush-in-Ok.was c.flush.ensures.put)

pub returns-in_err-flush-in-Ok-clause-answer : goal.returns-in_err-flush-in-Ok-clause-answer
returns-in_err-flush-in-Ok-clause-answer g c = λ file order first start nothing lines.
    let old = g.O.Sink.output c.args.out.now in
    let new = g.O.Sink.output c.flush.new.out in
    let now = pending c.flush.new.self in
    let same : c.args.printed ≡ Ok tt = search rules in
    let printed = subst (PrintsLines file order first old start c.args.page.now) same lines in
    let e = c.in_err-flush-in-Ok.field-0.0 in
    let from = err_from_is_err_and c.from_residual.result c.from_residual.ensures.1 in
    subst (Dumps file first new) (sym (from.1 ∙ ap (λ e. Err e) from.2))
    (dumps-cut file order first old new (pending start) (pending c.args.page.now) now e c.flush.result
    c.in_err-flush-in-Ok.was nothing printed
    c.flush.ensures.put)

pub returns-in_err-flush-in-Ok-clause-device : goal.returns-in_err-flush-in-Ok-clause-device
returns-in_err-flush-in-Ok-clause-device g c = λ is.
    let old = g.O.Sink.output c.args.out.now in
    let e = c.in_err-flush-in-Ok.field-0.0 in
    let from = err_from_is_err_and c.from_residual.result c.from_residual.ensures.1 in
    inr (stopped-rose old old (g.O.Sink.output c.flush.new.out) (pending c.args.page.now) (pending c.flush.new.self) []
    e
    c.flush.result (omega arith) c.in_err-flush-in-Ok.was c.flush.ensures.put
    (same-error c.from_residual.result (shelf_error e) Device (from.1 ∙ ap (λ e. Err e) from.2) is))

pub returns-in_ok-flush-in-Ok-clause-sink : goal.returns-in_ok-flush-in-Ok-clause-sink
returns-in_ok-flush-in-Ok-clause-sink g c =
    faults-grow (g.O.Sink.output c.args.out.now) (g.O.Sink.output c.flush.new.out) (pending c.args.page.now)
    (pending c.flush.new.self) [] c.flush.result c.flush.ensures.put

pub returns-in_err-flush-in-Ok-clause-sink : goal.returns-in_err-flush-in-Ok-clause-sink
returns-in_err-flush-in-Ok-clause-sink g c =
    faults-grow (g.O.Sink.output c.args.out.now) (g.O.Sink.output c.flush.new.out) (pending c.args.page.now)
    (pending c.flush.new.self) [] c.flush.result c.flush.ensures.put

-- ---- those before a fault were

pub returns-in_ok-flush-in-Err-Fault-clause-answer : goal.returns-in_ok-flush-in-Err-Fault-clause-answer
returns-in_ok-flush-in-Err-Fault-clause-answer g c = λ file order first start nothing lines.
    let old = g.O.Sink.output c.args.out.now in
    let new = g.O.Sink.output c.flush-in-Err-Fault.new.out in
    let now = pending c.flush-in-Err-Fault.new.self in
    let same : c.args.printed ≡ Err (error.Fault c.in-Err-Fault.fault) = search rules in
    let printed = subst (PrintsLines file order first old start c.args.page.now) same lines in
    dumps-until file order c.in-Err-Fault.fault first old new (pending start) (pending c.args.page.now) now nothing
    c.in_ok-flush-in-Err-Fault.ensures.empty printed
    (carried old new (pending c.args.page.now) now [] c.in_ok-flush-in-Err-Fault.field-0 c.flush-in-Err-Fault.result
    c.in_ok-flush-in-Err-Fault.was c.flush-in-Err-Fault.ensures.put)

pub returns-in_err-flush-in-Err-Fault-clause-answer : goal.returns-in_err-flush-in-Err-Fault-clause-answer
returns-in_err-flush-in-Err-Fault-clause-answer g c = λ file order first start nothing lines.
    let old = g.O.Sink.output c.args.out.now in
    let new = g.O.Sink.output c.flush-in-Err-Fault.new.out in
    let now = pending c.flush-in-Err-Fault.new.self in
    let same : c.args.printed ≡ Err (error.Fault c.in-Err-Fault.fault) = search rules in
    let printed = subst (PrintsLines file order first old start c.args.page.now) same lines in
    let e = c.in_err-flush-in-Err-Fault.field-0.0 in
    let from = err_from_is_err_and c.from_residual-in_err-flush-in-Err-Fault.result
    c.from_residual-in_err-flush-in-Err-Fault.ensures.1 in
    subst (Dumps file first new) (sym (from.1 ∙ ap (λ e. Err e) from.2))
    (dumps-until_cut file order c.in-Err-Fault.fault first old new (pending start) (pending c.args.page.now) now e
    c.flush-in-Err-Fault.result c.in_err-flush-in-Err-Fault.was nothing printed
    c.flush-in-Err-Fault.ensures.put)

pub returns-in_err-flush-in-Err-Fault-clause-device : goal.returns-in_err-flush-in-Err-Fault-clause-device
returns-in_err-flush-in-Err-Fault-clause-device g c = λ is.
    let old = g.O.Sink.output c.args.out.now in
    let e = c.in_err-flush-in-Err-Fault.field-0.0 in
    let from = err_from_is_err_and c.from_residual-in_err-flush-in-Err-Fault.result
    c.from_residual-in_err-flush-in-Err-Fault.ensures.1 in
    inr (stopped-rose old old (g.O.Sink.output c.flush-in-Err-Fault.new.out) (pending c.args.page.now) (pending
    c.flush-in-Err-Fault.new.self) [] e
    c.flush-in-Err-Fault.result (omega arith) c.in_err-flush-in-Err-Fault.was c.flush-in-Err-Fault.ensures.put
    (same-error c.from_residual-in_err-flush-in-Err-Fault.result (shelf_error e) Device (from.1 ∙ ap (λ e. Err e)
    from.2) is))

pub returns-in_ok-flush-in-Err-Fault-clause-sink : goal.returns-in_ok-flush-in-Err-Fault-clause-sink
returns-in_ok-flush-in-Err-Fault-clause-sink g c =
    faults-grow (g.O.Sink.output c.args.out.now) (g.O.Sink.output c.flush-in-Err-Fault.new.out) (pending
    c.args.page.now)
    (pending c.flush-in-Err-Fault.new.self) [] c.flush-in-Err-Fault.result c.flush-in-Err-Fault.ensures.put

pub returns-in_err-flush-in-Err-Fault-clause-sink : goal.returns-in_err-flush-in-Err-Fault-clause-sink
returns-in_err-flush-in-Err-Fault-clause-sink g c =
    faults-grow (g.O.Sink.output c.args.out.now) (g.O.Sink.output c.flush-in-Err-Fault.new.out) (pending
    c.args.page.now)
    (pending c.flush-in-Err-Fault.new.self) [] c.flush-in-Err-Fault.result c.flush-in-Err-Fault.ensures.put

-- ---- some of them were

pub returns-in-Err-Device-clause-answer : goal.returns-in-Err-Device-clause-answer
returns-in-Err-Device-clause-answer g c = λ file order first start nothing lines.
    let old = g.O.Sink.output c.args.out.now in
    let same : c.args.printed ≡ Err error.Device = search rules in
    dumps-some file order first old (pending start) nothing
    (subst (PrintsLines file order first old start c.args.page.now) same lines)

pub returns-in-Err-NoMemory-clause-answer : goal.returns-in-Err-NoMemory-clause-answer
returns-in-Err-NoMemory-clause-answer g c = λ file order first start nothing lines.
    let old = g.O.Sink.output c.args.out.now in
    let same : c.args.printed ≡ Err error.NoMemory = search rules in
    dumps-some file order first old (pending start) nothing
    (subst (PrintsLines file order first old start c.args.page.now) same lines)
