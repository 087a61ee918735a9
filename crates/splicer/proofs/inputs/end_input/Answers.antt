-- What is left of an input that has ended, by the lemmas on its closing.
use Rattle.std.proofs.Common.{◌≡◌, Err, sym, subst, ap, ◌∙◌}
use Rattle.std.proofs.lemmas.Result.{err_from_is_err_and}
use Rattle.canonical_writer.specs.Parts.{printed_closing}
use Rattle.canonical_writer.specs.Writer.{Writer}
use Rattle.splicer.specs.Errors.{error_of_read}
use Rattle.splicer.specs.Put.{Puts, PutsPart}
use Rattle.splicer.proofs.Closed.{puts-further, puts-first, puts-no_closing, unread-fault}
use Rattle.splicer.proofs.Unread.{puts-part}
use Rattle.splicer.proofs.inputs.end_input.Goals as goal

pub returns-then-not-is_first-clause-ended : goal.returns-then-not-is_first-clause-ended
returns-then-not-is_first-clause-ended c = λ file closing stood old now name inputs bytes ended first put.
    puts-further file c.args.frames.now closing stood old now name inputs c.args.writer.now ended
    (sym c.if-not-is_first.true ∙ first) put

pub returns-in_err-closing-clause-ended : goal.returns-in_err-closing-clause-ended
returns-in_err-closing-clause-ended c = λ file closing stood old now name inputs bytes ended first put.
    let p = err_from_is_err_and c.from_residual.result c.from_residual.ensures.1 in
    let error = c.in_err-closing.field-0.0 in
    let is : c.from_residual.result ≡ Err (error_of_read error) = p.1 ∙ ap (λ e. Err e) p.2 in
    subst (λ result. Puts file closing stood old now name inputs c.args.writer.now result) (sym is)
    (puts-no_closing file c.args.frames.now closing stood old now name inputs c.args.writer.now error
    (λ fault is. c.closing.ensures.fault fault (c.in_err-closing.was ∙ ap (λ e. Err e) is) file ended.0 bytes ended.1)
    (λ is. c.closing.ensures.device (c.in_err-closing.was ∙ ap (λ e. Err e) is)) put)

pub returns-in_err-closing-clause-fault : goal.returns-in_err-closing-clause-fault
returns-in_err-closing-clause-fault c = λ file fault is bytes ended.
    let p = err_from_is_err_and c.from_residual.result c.from_residual.ensures.1 in
    let error = c.in_err-closing.field-0.0 in
    let was : c.from_residual.result ≡ Err (error_of_read error) = p.1 ∙ ap (λ e. Err e) p.2 in
    c.closing.ensures.fault fault
    (c.in_err-closing.was ∙ ap (λ e. Err e) (unread-fault error fault (sym was ∙ is))) file ended.0 bytes
    ended.1

pub returns-in_err-hold_closing-clause-ended : goal.returns-in_err-hold_closing-clause-ended
returns-in_err-hold_closing-clause-ended c = λ file closing stood old now name inputs bytes ended first put.
    let p = err_from_is_err_and c.from_residual-in_err-hold_closing.result
    c.from_residual-in_err-hold_closing.ensures.1 in
    rw (p.1, p.2)
    (subst (λ (w : Writer). PutsPart file closing stood old now name inputs w.slot)
    (sym c.in_err-hold_closing.ensures.err)
    (puts-part file c.args.frames.now closing stood old now name inputs c.args.writer.now put))

pub returns-clause-ended : goal.returns-clause-ended
returns-clause-ended c = λ file closing stood old now name inputs bytes ended first put.
    puts-first file c.args.frames.now closing stood old now name inputs c.args.writer.now c.hold_closing.new.self
    (printed_closing c.in_ok-closing.closing) bytes ended (sym c.if-not-is_first.false ∙ first) put
    c.in_ok-hold_closing.ensures.ok c.in_ok-closing.ensures.closing.1
