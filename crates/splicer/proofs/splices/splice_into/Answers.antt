-- All inputs are written, and then the file is ended.
use Rattle.std.proofs.Common.{length, map, string_bytes, Ok, Err}
use Rattle.std.proofs.lemmas.Result.{err_from_is_err_and}
use Rattle.splicer.proofs.Splicing.{spliced-drawn}
use Rattle.splicer.proofs.SpliceEnds.{spliced-ends, puts-taken, leaves-ended}
use Rattle.splicer.proofs.splices.splice_into.Goals as goal

pub returns-in_err-put_inputs-clause-ends : goal.returns-in_err-put_inputs-clause-ends
returns-in_err-put_inputs-clause-ends g c = λ old to files opened due is.
    let p = err_from_is_err_and c.from_residual.result c.from_residual.ensures.1 in
    rw (p.1, p.2) (c.in_err-put_inputs.ensures.puts old to files opened due is)

pub returns-in_err-put_inputs-clause-taken : goal.returns-in_err-put_inputs-clause-taken
returns-in_err-put_inputs-clause-taken g c = c.in_err-put_inputs.ensures.taken

pub returns-in_err-put_inputs-clause-leaves : goal.returns-in_err-put_inputs-clause-leaves
returns-in_err-put_inputs-clause-leaves g c = λ old to past made.
    let p = err_from_is_err_and c.from_residual.result c.from_residual.ensures.1 in
    rw (p.1, p.2) (c.in_err-put_inputs.ensures.made old to past made)

pub returns-in_err-put_inputs-clause-inputs : goal.returns-in_err-put_inputs-clause-inputs
returns-in_err-put_inputs-clause-inputs g c =
    let p = err_from_is_err_and c.from_residual.result c.from_residual.ensures.1 in
    rw (p.1, p.2) c.in_err-put_inputs.ensures.inputs

pub returns-in_err-close-clause-ends : goal.returns-in_err-close-clause-ends
returns-in_err-close-clause-ends g c = λ old to files opened due is.
    let p = err_from_is_err_and c.from_residual-in_err-close.result c.from_residual-in_err-close.ensures.1 in
    let w = c.put_inputs.new.writer in
    let error = c.in_ok-put_inputs.ensures.no_error in
    let puts = c.in_err-close.ensures.puts error in
    rw (p.1, p.2) (spliced-ends files (map string_bytes c.args.from.now) old (g.S.Shelf.outside c.put_inputs.new.shelf)
    (g.S.Shelf.outside c.close.new.shelf) to w (Err c.in_err-close.field-0.0) puts.0
    (c.in_ok-put_inputs.ensures.puts old to files opened) (c.in_err-close.ensures.answer error) puts.1 puts.2 due is)

pub returns-in_err-close-clause-taken : goal.returns-in_err-close-clause-taken
returns-in_err-close-clause-taken g c = λ old to files opened.
    let puts = c.in_err-close.ensures.puts c.in_ok-put_inputs.ensures.no_error in
    spliced-drawn files (map string_bytes c.args.from.now) old (g.S.Shelf.outside c.put_inputs.new.shelf)
    (g.S.Shelf.outside c.close.new.shelf) to _ c.put_inputs.new.writer
    (c.in_ok-put_inputs.ensures.puts old to files opened)
    (puts-taken _ _ c.put_inputs.new.writer.slot puts.0 (Err c.in_err-close.field-0.0) puts.1)

pub returns-in_err-close-clause-leaves : goal.returns-in_err-close-clause-leaves
returns-in_err-close-clause-leaves g c = λ old to past made.
    let p = err_from_is_err_and c.from_residual-in_err-close.result c.from_residual-in_err-close.ensures.1 in
    let error = c.in_ok-put_inputs.ensures.no_error in
    let puts = c.in_err-close.ensures.puts error in
    rw (p.1, p.2) (leaves-ended old (g.S.Shelf.outside c.put_inputs.new.shelf) (g.S.Shelf.outside c.close.new.shelf) to
    (length c.args.from.now) c.put_inputs.new.writer.slot puts.0 (Err c.in_err-close.field-0.0)
    (c.in_ok-put_inputs.ensures.made old to past made) puts.1 (λ is. c.in_err-close.ensures.device is error))

pub returns-clause-ends : goal.returns-clause-ends
returns-clause-ends g c = λ old to files opened due is.
    let w = c.put_inputs.new.writer in
    let error = c.in_ok-put_inputs.ensures.no_error in
    let puts = c.in_ok-close.ensures.puts error in
    spliced-ends files (map string_bytes c.args.from.now) old (g.S.Shelf.outside c.put_inputs.new.shelf)
    (g.S.Shelf.outside c.close.new.shelf) to w (Ok c.in_ok-close.field-0) puts.0
    (c.in_ok-put_inputs.ensures.puts old to files opened) (c.in_ok-close.ensures.answer error) puts.1 puts.2 due is

pub returns-clause-taken : goal.returns-clause-taken
returns-clause-taken g c = λ old to files opened.
    let puts = c.in_ok-close.ensures.puts c.in_ok-put_inputs.ensures.no_error in
    spliced-drawn files (map string_bytes c.args.from.now) old (g.S.Shelf.outside c.put_inputs.new.shelf)
    (g.S.Shelf.outside c.close.new.shelf) to _ c.put_inputs.new.writer
    (c.in_ok-put_inputs.ensures.puts old to files opened)
    (puts-taken _ _ c.put_inputs.new.writer.slot puts.0 (Ok c.in_ok-close.field-0) puts.1)

pub returns-clause-leaves : goal.returns-clause-leaves
returns-clause-leaves g c = λ old to past made.
    let error = c.in_ok-put_inputs.ensures.no_error in
    let puts = c.in_ok-close.ensures.puts error in
    leaves-ended old (g.S.Shelf.outside c.put_inputs.new.shelf) (g.S.Shelf.outside c.close.new.shelf) to
    (length c.args.from.now) c.put_inputs.new.writer.slot puts.0 (Ok c.in_ok-close.field-0)
    (c.in_ok-put_inputs.ensures.made old to past made) puts.1 (λ is. c.in_ok-close.ensures.device is error)
