-- Both readers are begun, each of its slot, and the rest is what the comparison of them says, or a wrong header.
use Rattle.std.proofs.Common.{◌≡◌, ◌≤◌, [], Err, IfErr, refl, sym, ap, subst, ◌∙◌, arith}
use Rattle.std.proofs.lemmas.Result.{err_from_is_err_and}
use Rattle.content_compare.specs.declared.answers.CompareError.TheVariants as error
use Rattle.content_compare.specs.Answers.{error_of_read, IsOfTwo}
use Rattle.content_compare.specs.Due.{IsAnswer}
use Rattle.content_compare.proofs.Draws.{draws-only, only-more, rose-before, file-stays}
use Rattle.content_compare.proofs.Sides.{stops-before, passed-on}
use Rattle.content_compare.proofs.Answering.{stops-due}
use Rattle.content_compare.proofs.BothBegun.{begun-side, header-stops, header-stops_second, unread-device}
use Rattle.content_compare.proofs.BothBegun.{unread-of_two, named-of_two, other-source, other-beginning, other-reads}
use Rattle.content_compare.proofs.BothBegun.{both-drawn, again-drawn, both-told, rose-between}
use Rattle.content_compare.proofs.files.compare_slots.Goals as goal

pub returns-in-Err-clause-compares : goal.returns-in-Err-clause-compares
returns-in-Err-clause-compares g c = λ file second told also bytes too due is.
    subst (λ e. IsAnswer (Err e) due) (sym c.of_file.ensures)
    (stops-due file second (error_of_read 0 c.in-Err.error) due
    (header-stops file second c.in-Err.error
    (λ fault same. c.begin.ensures.fault fault (c.in-Err.is ∙ ap (λ e. Err e) same) file told)) is)

pub returns-in-Err-clause-draws : goal.returns-in-Err-clause-draws
returns-in-Err-clause-draws g c = λ from few less.
    draws-only _ _ c.args.slot from c.begin.ensures.draws.draws few

pub begin-requires-2-clause-source : goal.begin-requires-2-clause-source
begin-requires-2-clause-source g c =
    other-source _ _ c.args.slot c.args.other c.begin.ensures.draws.draws c.requires.second

pub begin-requires-2-clause-beginning : goal.begin-requires-2-clause-beginning
begin-requires-2-clause-beginning g c =
    other-beginning _ _ c.args.slot c.args.other c.begin.ensures.draws.draws c.requires.apart
    c.requires.second_beginning

pub compare-requires-clause-first : goal.compare-requires-clause-first
compare-requires-clause-first g c =
    other-reads _ _ c.args.slot c.args.other c.in-Ok.first.reader c.begin-2.ensures.draws.draws
    c.in-Ok.ensures.begun.0 c.requires.apart c.in-Ok.ensures.reads

pub returns-in-Ok-begin-clause-compares : goal.returns-in-Ok-begin-clause-compares
returns-in-Ok-begin-clause-compares g c = λ file second told also bytes too due is.
    let one = g.S.Shelf.outside c.args.shelf.now in
    let two = g.S.Shelf.outside c.begin.new.shelf in
    let three = g.S.Shelf.outside c.begin-2.new.shelf in
    let slot = c.args.slot in
    let other = c.args.other in
    let r = c.in-Ok.first in
    let s = c.in-Ok-begin.second in
    let draws = c.begin.ensures.draws.draws in
    let more = c.begin-2.ensures.draws.draws in
    let begun = c.in-Ok.ensures.begun in
    let begun_also = c.in-Ok-begin.ensures.begun in
    c.compare.ensures.compares file second
    (both-told one two three slot other slot r.reader.position.slot file draws more begun.0 told)
    (both-told one two three slot other other s.reader.position.slot second draws more begun_also.0 also) bytes too
    (begun-side file r (c.in-Ok.ensures.given file told) begun.2)
    (begun-side second s (c.in-Ok-begin.ensures.given second (file-stays one two slot other draws ∙ also))
    begun_also.2) due is

pub returns-in-Ok-begin-clause-draws : goal.returns-in-Ok-begin-clause-draws
returns-in-Ok-begin-clause-draws g c = λ from few less.
    let one = g.S.Shelf.outside c.args.shelf.now in
    let two = g.S.Shelf.outside c.begin.new.shelf in
    let three = g.S.Shelf.outside c.begin-2.new.shelf in
    let first : from ≤ c.in-Ok.first.reader.position.slot =
    subst (λ n. from ≤ n) (sym c.in-Ok.ensures.begun.0) few in
    let second : from ≤ c.in-Ok-begin.second.reader.position.slot =
    subst (λ n. from ≤ n) (sym c.in-Ok-begin.ensures.begun.0) less in
    only-more one three (g.S.Shelf.outside c.compare.new.shelf) from
    (both-drawn one two three c.args.slot c.args.other from c.begin.ensures.draws.draws c.begin-2.ensures.draws.draws few
    less) (c.compare.ensures.reads.draws from first second)

pub read_to_end-requires-clause-reads : goal.read_to_end-requires-clause-reads
read_to_end-requires-clause-reads g c =
    other-reads _ _ c.args.slot c.args.other c.in-Ok.first.reader c.begin-2.ensures.draws.draws
    c.in-Ok.ensures.begun.0 c.requires.apart c.in-Ok.ensures.reads

-- ---- the second has a wrong header, and the first is not read to its end

pub returns-in_err-read_to_end-in-Err-begin-clause-compares :
    goal.returns-in_err-read_to_end-in-Err-begin-clause-compares
returns-in_err-read_to_end-in-Err-begin-clause-compares g c = λ file second told also bytes too due is.
    let one = g.S.Shelf.outside c.args.shelf.now in
    let two = g.S.Shelf.outside c.begin.new.shelf in
    let three = g.S.Shelf.outside c.begin-2.new.shelf in
    let slot = c.args.slot in
    let r = c.in-Ok.first in
    let e = c.in_err-read_to_end-in-Err-begin.field-0.0 in
    let begun = c.in-Ok.ensures.begun in
    let from = err_from_is_err_and c.from_residual.result c.from_residual.ensures.1 in
    subst (λ result. IsAnswer result due) (sym (from.1 ∙ ap (λ e. Err e) from.2))
    (stops-due file second e due
    (stops-before file second [] c.read_to_end.new.frames e
    (c.in_err-read_to_end-in-Err-begin.ensures.ends file []
    (both-told one two three slot c.args.other slot r.reader.position.slot file c.begin.ensures.draws.draws
    c.begin-2.ensures.draws.draws begun.0 told) bytes
    (begun-side file r (c.in-Ok.ensures.given file told) begun.2))) is)

pub returns-in_err-read_to_end-in-Err-begin-clause-draws :
    goal.returns-in_err-read_to_end-in-Err-begin-clause-draws
returns-in_err-read_to_end-in-Err-begin-clause-draws g c = λ from few less.
    again-drawn (g.S.Shelf.outside c.args.shelf.now) (g.S.Shelf.outside c.begin.new.shelf)
    (g.S.Shelf.outside c.begin-2.new.shelf) (g.S.Shelf.outside c.read_to_end.new.shelf) c.args.slot c.args.other from
    c.in-Ok.first.reader.position c.read_to_end.new.frames.reader.position c.begin.ensures.draws.draws
    c.begin-2.ensures.draws.draws c.read_to_end.ensures.draws c.in-Ok.ensures.begun.0 few less

pub returns-in_err-read_to_end-in-Err-begin-clause-files :
    goal.returns-in_err-read_to_end-in-Err-begin-clause-files
returns-in_err-read_to_end-in-Err-begin-clause-files g c =
    let e = c.in_err-read_to_end-in-Err-begin.field-0.0 in
    let from = err_from_is_err_and c.from_residual.result c.from_residual.ensures.1 in
    subst (λ result. IfErr result IsOfTwo) (sym (from.1 ∙ ap (λ e. Err e) from.2))
    (named-of_two 0 e (omega arith)
    (λ number fault is. c.in_err-read_to_end-in-Err-begin.ensures.named number fault (ap (λ e. Err e) is)))

pub returns-in_err-read_to_end-in-Err-begin-clause-device :
    goal.returns-in_err-read_to_end-in-Err-begin-clause-device
returns-in_err-read_to_end-in-Err-begin-clause-device g c = λ is.
    let one = g.S.Shelf.outside c.args.shelf.now in
    let two = g.S.Shelf.outside c.begin.new.shelf in
    let three = g.S.Shelf.outside c.begin-2.new.shelf in
    let from = err_from_is_err_and c.from_residual.result c.from_residual.ensures.1 in
    let draws = both-drawn one two three c.args.slot c.args.other 0 c.begin.ensures.draws.draws
    c.begin-2.ensures.draws.draws (omega arith) (omega arith) in
    rose-before one.faults three.faults _ draws.faults
    (c.in_err-read_to_end-in-Err-begin.ensures.device (ap (λ e. Err e)
    (passed-on c.from_residual.result from.0 c.in_err-read_to_end-in-Err-begin.field-0.0 error.Device from.1 from.2
    is)))

-- ---- or it is

pub returns-clause-compares : goal.returns-clause-compares
returns-clause-compares g c = λ file second told also bytes too due is.
    let one = g.S.Shelf.outside c.args.shelf.now in
    let two = g.S.Shelf.outside c.begin.new.shelf in
    let three = g.S.Shelf.outside c.begin-2.new.shelf in
    let slot = c.args.slot in
    let r = c.in-Ok.first in
    let e = c.in-Err-begin.error in
    let draws = c.begin.ensures.draws.draws in
    let begun = c.in-Ok.ensures.begun in
    subst (λ e. IsAnswer (Err e) due) (sym c.of_file-in-Err-begin.ensures)
    (stops-due file second (error_of_read 1 e) due
    (header-stops_second file second c.read_to_end.new.frames e
    (c.in_ok-read_to_end-in-Err-begin.ensures.ends file []
    (both-told one two three slot c.args.other slot r.reader.position.slot file draws
    c.begin-2.ensures.draws.draws begun.0 told) bytes
    (begun-side file r (c.in-Ok.ensures.given file told) begun.2))
    (λ fault same. c.begin-2.ensures.fault fault (c.in-Err-begin.is ∙ ap (λ e. Err e) same) second
    (file-stays one two slot c.args.other draws ∙ also))) is)

pub returns-clause-draws : goal.returns-clause-draws
returns-clause-draws g c = λ from few less.
    again-drawn (g.S.Shelf.outside c.args.shelf.now) (g.S.Shelf.outside c.begin.new.shelf)
    (g.S.Shelf.outside c.begin-2.new.shelf) (g.S.Shelf.outside c.read_to_end.new.shelf) c.args.slot c.args.other from
    c.in-Ok.first.reader.position c.read_to_end.new.frames.reader.position c.begin.ensures.draws.draws
    c.begin-2.ensures.draws.draws c.read_to_end.ensures.draws c.in-Ok.ensures.begun.0 few less

pub returns-clause-files : goal.returns-clause-files
returns-clause-files g c =
    subst IsOfTwo (sym c.of_file-in-Err-begin.ensures) (unread-of_two 1 c.in-Err-begin.error (omega arith))

pub returns-clause-device : goal.returns-clause-device
returns-clause-device g c = λ is.
    let one = g.S.Shelf.outside c.args.shelf.now in
    let two = g.S.Shelf.outside c.begin.new.shelf in
    let three = g.S.Shelf.outside c.begin-2.new.shelf in
    let four = g.S.Shelf.outside c.read_to_end.new.shelf in
    let e = c.of_file-in-Err-begin.result in
    let failed : e ≡ error.Device = passed-on (Err e) e e error.Device refl refl is in
    let same = unread-device 1 c.in-Err-begin.error (sym c.of_file-in-Err-begin.ensures ∙ failed) in
    rose-between one.faults two.faults three.faults four.faults
    c.begin.ensures.draws.draws.passes.faults
    (c.begin-2.ensures.device (c.in-Err-begin.is ∙ ap (λ e. Err e) same))
    c.read_to_end.ensures.draws.draws.passes.faults
