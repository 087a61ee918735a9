-- Each end of a comparison by the lemma of its name on what is due.
use Rattle.std.proofs.Common.{true, false, Ok, Err, ◌++◌, sym, ap, subst, ◌∙◌, arith}
use Rattle.std.proofs.lemmas.Result.{err_from_is_err_and}
use Rattle.content_compare.specs.declared.answers.CompareError.TheVariants as error
use Rattle.content_compare.specs.Due.{IsAnswer}
use Rattle.content_compare.specs.Sides.{Finds}
use Rattle.content_compare.proofs.Draws.{read-back, read-also, rose-before, told-first, told-second}
use Rattle.content_compare.proofs.Sides.{stops-before, stops-after, passed-on}
use Rattle.content_compare.proofs.Answering.{BothEnd, found-sides, answers-same, answers-frame, answers-closings}
use Rattle.content_compare.proofs.Answering.{stops-due, uncompared}
use Rattle.content_compare.proofs.files.compare.Goals as goal

pub read_to_end-requires-2-clause-reads : goal.read_to_end-requires-2-clause-reads
read_to_end-requires-2-clause-reads g c =
    let r = c.args.first.now in
    let s = c.args.second.now in
    let q = c.first_difference.new.first in
    let p = c.first_difference.new.second in
    (read-back _ _ _ r.reader s.reader q.reader p.reader c.read_to_end.new.frames.reader
    c.first_difference.ensures.reads c.read_to_end.ensures.draws c.read_to_end.ensures.reads c.requires.apart).second

pub returns-in_err-read_to_end-clause-reads : goal.returns-in_err-read_to_end-clause-reads
returns-in_err-read_to_end-clause-reads g c =
    let r = c.args.first.now in
    let s = c.args.second.now in
    let q = c.first_difference.new.first in
    let p = c.first_difference.new.second in
    read-back _ _ _ r.reader s.reader q.reader p.reader c.read_to_end.new.frames.reader
    c.first_difference.ensures.reads c.read_to_end.ensures.draws c.read_to_end.ensures.reads c.requires.apart

pub returns-in_err-read_to_end-2-clause-reads : goal.returns-in_err-read_to_end-2-clause-reads
returns-in_err-read_to_end-2-clause-reads g c =
    let r = c.args.first.now in
    let s = c.args.second.now in
    let q = c.first_difference.new.first in
    let p = c.first_difference.new.second in
    read-also _ _ _ r.reader s.reader c.read_to_end.new.frames.reader p.reader c.read_to_end-2.new.frames.reader
    (read-back _ _ _ r.reader s.reader q.reader p.reader c.read_to_end.new.frames.reader
    c.first_difference.ensures.reads c.read_to_end.ensures.draws c.read_to_end.ensures.reads c.requires.apart)
    c.read_to_end-2.ensures.draws c.read_to_end-2.ensures.reads c.requires.apart

pub returns-in_err-have_same_closings-clause-reads : goal.returns-in_err-have_same_closings-clause-reads
returns-in_err-have_same_closings-clause-reads g c =
    let r = c.args.first.now in
    let s = c.args.second.now in
    let q = c.first_difference.new.first in
    let p = c.first_difference.new.second in
    read-also _ _ _ r.reader s.reader c.read_to_end.new.frames.reader p.reader c.read_to_end-2.new.frames.reader
    (read-back _ _ _ r.reader s.reader q.reader p.reader c.read_to_end.new.frames.reader
    c.first_difference.ensures.reads c.read_to_end.ensures.draws c.read_to_end.ensures.reads c.requires.apart)
    c.read_to_end-2.ensures.draws c.read_to_end-2.ensures.reads c.requires.apart

pub returns-then-not-branch-clause-reads : goal.returns-then-not-branch-clause-reads
returns-then-not-branch-clause-reads g c =
    let r = c.args.first.now in
    let s = c.args.second.now in
    let q = c.first_difference.new.first in
    let p = c.first_difference.new.second in
    read-also _ _ _ r.reader s.reader c.read_to_end.new.frames.reader p.reader c.read_to_end-2.new.frames.reader
    (read-back _ _ _ r.reader s.reader q.reader p.reader c.read_to_end.new.frames.reader
    c.first_difference.ensures.reads c.read_to_end.ensures.draws c.read_to_end.ensures.reads c.requires.apart)
    c.read_to_end-2.ensures.draws c.read_to_end-2.ensures.reads c.requires.apart

pub returns-in-Some-clause-reads : goal.returns-in-Some-clause-reads
returns-in-Some-clause-reads g c =
    let r = c.args.first.now in
    let s = c.args.second.now in
    let q = c.first_difference.new.first in
    let p = c.first_difference.new.second in
    read-also _ _ _ r.reader s.reader c.read_to_end.new.frames.reader p.reader c.read_to_end-2.new.frames.reader
    (read-back _ _ _ r.reader s.reader q.reader p.reader c.read_to_end.new.frames.reader
    c.first_difference.ensures.reads c.read_to_end.ensures.draws c.read_to_end.ensures.reads c.requires.apart)
    c.read_to_end-2.ensures.draws c.read_to_end-2.ensures.reads c.requires.apart

pub returns-in-None-clause-reads : goal.returns-in-None-clause-reads
returns-in-None-clause-reads g c =
    let r = c.args.first.now in
    let s = c.args.second.now in
    let q = c.first_difference.new.first in
    let p = c.first_difference.new.second in
    read-also _ _ _ r.reader s.reader c.read_to_end.new.frames.reader p.reader c.read_to_end-2.new.frames.reader
    (read-back _ _ _ r.reader s.reader q.reader p.reader c.read_to_end.new.frames.reader
    c.first_difference.ensures.reads c.read_to_end.ensures.draws c.read_to_end.ensures.reads c.requires.apart)
    c.read_to_end-2.ensures.draws c.read_to_end-2.ensures.reads c.requires.apart

pub returns-in_err-read_to_end-clause-device : goal.returns-in_err-read_to_end-clause-device
returns-in_err-read_to_end-clause-device g c = λ told.
    let from = err_from_is_err_and c.from_residual-in_err-read_to_end.result
    c.from_residual-in_err-read_to_end.ensures.1 in
    rose-before _ _ _ (c.first_difference.ensures.reads.draws 0 (omega arith) (omega arith)).faults
    (c.in_err-read_to_end.ensures.device (ap (λ e. Err e)
    (passed-on c.from_residual-in_err-read_to_end.result from.0 c.in_err-read_to_end.field-0.0 error.Device from.1
    from.2 told)))

pub returns-in_err-read_to_end-2-clause-device : goal.returns-in_err-read_to_end-2-clause-device
returns-in_err-read_to_end-2-clause-device g c = λ told.
    let r = c.args.first.now in
    let s = c.args.second.now in
    let q = c.first_difference.new.first in
    let p = c.first_difference.new.second in
    let from = err_from_is_err_and c.from_residual-in_err-read_to_end-2.result
    c.from_residual-in_err-read_to_end-2.ensures.1 in
    rose-before _ _ _ ((read-back _ _ _ r.reader s.reader q.reader p.reader c.read_to_end.new.frames.reader
    c.first_difference.ensures.reads c.read_to_end.ensures.draws c.read_to_end.ensures.reads c.requires.apart).draws 0
    (omega arith) (omega arith)).faults
    (c.in_err-read_to_end-2.ensures.device (ap (λ e. Err e)
    (passed-on c.from_residual-in_err-read_to_end-2.result from.0 c.in_err-read_to_end-2.field-0.0 error.Device from.1
    from.2 told)))

pub returns-in_err-difference-clause-compares : goal.returns-in_err-difference-clause-compares
returns-in_err-difference-clause-compares g c = λ file other told also bytes too side beside due is.
    let from = err_from_is_err_and c.from_residual.result c.from_residual.ensures.1 in
    subst (λ result. IsAnswer result due) (sym (from.1 ∙ ap (λ e. Err e) from.2))
    (stops-due file other c.in_err-difference.field-0.0 due
    (c.in_err-difference.ensures.finds file other told also bytes too side beside) is)

pub returns-in_err-read_to_end-clause-compares : goal.returns-in_err-read_to_end-clause-compares
returns-in_err-read_to_end-clause-compares g c = λ file other told also bytes too side beside due is.
    let r = c.args.first.now in
    let s = c.args.second.now in
    let q = c.first_difference.new.first in
    let p = c.first_difference.new.second in
    let finds = c.in_ok-difference.ensures.finds file other told also bytes too side beside in
    let sides = found-sides file other q p c.in_ok-difference.difference finds in
    let here = told-first _ _ r.reader s.reader q.reader p.reader file c.first_difference.ensures.reads told in
    let from = err_from_is_err_and c.from_residual-in_err-read_to_end.result c.from_residual-in_err-read_to_end.ensures.1 in
    subst (λ result. IsAnswer result due) (sym (from.1 ∙ ap (λ e. Err e) from.2))
    (stops-due file other c.in_err-read_to_end.field-0.0 due
    (stops-before file other sides.frames c.read_to_end.new.frames c.in_err-read_to_end.field-0.0
    (c.in_err-read_to_end.ensures.ends file sides.frames here bytes sides.first)) is)

pub returns-in_err-read_to_end-2-clause-compares : goal.returns-in_err-read_to_end-2-clause-compares
returns-in_err-read_to_end-2-clause-compares g c = λ file other told also bytes too side beside due is.
    let r = c.args.first.now in
    let s = c.args.second.now in
    let q = c.first_difference.new.first in
    let p = c.first_difference.new.second in
    let finds = c.in_ok-difference.ensures.finds file other told also bytes too side beside in
    let sides = found-sides file other q p c.in_ok-difference.difference finds in
    let here = told-first _ _ r.reader s.reader q.reader p.reader file c.first_difference.ensures.reads told in
    let there = told-second _ _ r.reader s.reader c.read_to_end.new.frames.reader p.reader other
    (read-back _ _ _ r.reader s.reader q.reader p.reader c.read_to_end.new.frames.reader
    c.first_difference.ensures.reads c.read_to_end.ensures.draws c.read_to_end.ensures.reads c.requires.apart) also in
    let from = err_from_is_err_and c.from_residual-in_err-read_to_end-2.result c.from_residual-in_err-read_to_end-2.ensures.1 in
    subst (λ result. IsAnswer result due) (sym (from.1 ∙ ap (λ e. Err e) from.2))
    (stops-due file other c.in_err-read_to_end-2.field-0.0 due
    (stops-after file other sides.frames sides.others c.read_to_end.new.frames c.read_to_end-2.new.frames
    c.in_err-read_to_end-2.field-0.0 (c.in_ok-read_to_end.ensures.ends file sides.frames here bytes sides.first)
    (c.in_err-read_to_end-2.ensures.ends other sides.others there too sides.also)) is)

pub returns-in_err-have_same_closings-clause-compares : goal.returns-in_err-have_same_closings-clause-compares
returns-in_err-have_same_closings-clause-compares g c = λ file other told also bytes too side beside due is.
    let r = c.args.first.now in
    let s = c.args.second.now in
    let q = c.first_difference.new.first in
    let p = c.first_difference.new.second in
    let finds = c.in_ok-difference.ensures.finds file other told also bytes too side beside in
    let sides = found-sides file other q p c.in_ok-difference.difference finds in
    let here = told-first _ _ r.reader s.reader q.reader p.reader file c.first_difference.ensures.reads told in
    let there = told-second _ _ r.reader s.reader c.read_to_end.new.frames.reader p.reader other
    (read-back _ _ _ r.reader s.reader q.reader p.reader c.read_to_end.new.frames.reader
    c.first_difference.ensures.reads c.read_to_end.ensures.draws c.read_to_end.ensures.reads c.requires.apart) also in
    let one = c.in_ok-read_to_end.ensures.ends file sides.frames here bytes sides.first in
    let two = c.in_ok-read_to_end-2.ensures.ends other sides.others there too sides.also in
    let from = err_from_is_err_and c.from_residual-in_err-have_same_closings.result c.from_residual-in_err-have_same_closings.ensures.1 in
    subst (λ result. IsAnswer result due) (sym (from.1 ∙ ap (λ e. Err e) from.2))
    (uncompared c.in_err-have_same_closings.field-0.0 due
    (λ number fault is. c.in_err-have_same_closings.ensures.fault number fault (ap (λ e. Err e) is) file other
    (sides.frames ++ one.0) (sides.others ++ two.0) bytes too one.1 two.1))

pub returns-then-not-branch-clause-compares : goal.returns-then-not-branch-clause-compares
returns-then-not-branch-clause-compares g c = λ file other told also bytes too side beside due is.
    let r = c.args.first.now in
    let s = c.args.second.now in
    let q = c.first_difference.new.first in
    let p = c.first_difference.new.second in
    let finds = c.in_ok-difference.ensures.finds file other told also bytes too side beside in
    let sides = found-sides file other q p c.in_ok-difference.difference finds in
    let here = told-first _ _ r.reader s.reader q.reader p.reader file c.first_difference.ensures.reads told in
    let there = told-second _ _ r.reader s.reader c.read_to_end.new.frames.reader p.reader other
    (read-back _ _ _ r.reader s.reader q.reader p.reader c.read_to_end.new.frames.reader
    c.first_difference.ensures.reads c.read_to_end.ensures.draws c.read_to_end.ensures.reads c.requires.apart) also in
    let both : BothEnd file other q p c.read_to_end.new.frames c.read_to_end-2.new.frames = record {
      ends = λ frames side. c.in_ok-read_to_end.ensures.ends file frames here bytes side;
      also = λ others side. c.in_ok-read_to_end-2.ensures.ends other others there too side;
      again = λ closed. (c.read_to_end.ensures.again closed).1;
      again_also = λ closed. (c.read_to_end-2.ensures.again closed).1;
    } in
    let same = c.in_ok-have_same_closings.ensures.same in
    answers-closings file other q p c.read_to_end.new.frames c.read_to_end-2.new.frames c.in_ok-difference.difference due
    finds both (λ closings. let yes = same.1 closings in let no = c.if-not-branch.true in absurd cc) is

pub returns-in-Some-clause-compares : goal.returns-in-Some-clause-compares
returns-in-Some-clause-compares g c = λ file other told also bytes too side beside due is.
    let r = c.args.first.now in
    let s = c.args.second.now in
    let q = c.first_difference.new.first in
    let p = c.first_difference.new.second in
    let finds = c.in_ok-difference.ensures.finds file other told also bytes too side beside in
    let sides = found-sides file other q p c.in_ok-difference.difference finds in
    let here = told-first _ _ r.reader s.reader q.reader p.reader file c.first_difference.ensures.reads told in
    let there = told-second _ _ r.reader s.reader c.read_to_end.new.frames.reader p.reader other
    (read-back _ _ _ r.reader s.reader q.reader p.reader c.read_to_end.new.frames.reader
    c.first_difference.ensures.reads c.read_to_end.ensures.draws c.read_to_end.ensures.reads c.requires.apart) also in
    let both : BothEnd file other q p c.read_to_end.new.frames c.read_to_end-2.new.frames = record {
      ends = λ frames side. c.in_ok-read_to_end.ensures.ends file frames here bytes side;
      also = λ others side. c.in_ok-read_to_end-2.ensures.ends other others there too side;
      again = λ closed. (c.read_to_end.ensures.again closed).1;
      again_also = λ closed. (c.read_to_end-2.ensures.again closed).1;
    } in
    answers-frame file other q p c.read_to_end.new.frames c.read_to_end-2.new.frames c.in-Some.place due
    (subst (λ found. Finds file other q p (Ok found)) c.in-Some.is finds) both
    (c.in_ok-have_same_closings.ensures.same.0 c.if-not-branch.false) is

pub returns-in-None-clause-compares : goal.returns-in-None-clause-compares
returns-in-None-clause-compares g c = λ file other told also bytes too side beside due is.
    let r = c.args.first.now in
    let s = c.args.second.now in
    let q = c.first_difference.new.first in
    let p = c.first_difference.new.second in
    let finds = c.in_ok-difference.ensures.finds file other told also bytes too side beside in
    let sides = found-sides file other q p c.in_ok-difference.difference finds in
    let here = told-first _ _ r.reader s.reader q.reader p.reader file c.first_difference.ensures.reads told in
    let there = told-second _ _ r.reader s.reader c.read_to_end.new.frames.reader p.reader other
    (read-back _ _ _ r.reader s.reader q.reader p.reader c.read_to_end.new.frames.reader
    c.first_difference.ensures.reads c.read_to_end.ensures.draws c.read_to_end.ensures.reads c.requires.apart) also in
    let both : BothEnd file other q p c.read_to_end.new.frames c.read_to_end-2.new.frames = record {
      ends = λ frames side. c.in_ok-read_to_end.ensures.ends file frames here bytes side;
      also = λ others side. c.in_ok-read_to_end-2.ensures.ends other others there too side;
      again = λ closed. (c.read_to_end.ensures.again closed).1;
      again_also = λ closed. (c.read_to_end-2.ensures.again closed).1;
    } in
    answers-same file other q p c.read_to_end.new.frames c.read_to_end-2.new.frames due
    (subst (λ found. Finds file other q p (Ok found)) c.in-None.is finds) both
    (c.in_ok-have_same_closings.ensures.same.0 c.if-not-branch.false) is
