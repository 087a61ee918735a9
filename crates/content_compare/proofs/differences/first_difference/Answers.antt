-- Each step by the lemma of its name on two files that are compared.
use Rattle.std.proofs.Common.{◌≡◌, max, true, false, Err, sym, ap, subst, ◌∙◌, arith}
use Rattle.std.proofs.lemmas.Result.{err_from_is_err_and}
use Rattle.content_compare.specs.declared.answers.CompareError.TheVariants as error
use Rattle.content_compare.specs.Sides.{FirstDiffer, Finds}
use Rattle.content_compare.proofs.Draws.{read-none, read-more, rose-before, told-first, told-second}
use Rattle.content_compare.proofs.Sides.{passed-on}
use Rattle.content_compare.proofs.Comparing.{Judges, abreast-init, abreast-told, abreast-on, both-told, both-at}
use Rattle.content_compare.proofs.Comparing.{one-more, both-end, not-same, both-same, not-equal, equal}
use Rattle.content_compare.proofs.differences.first_difference.Goals as goal

pub frames-init : goal.frames-init
frames-init g c = record {
  reads = read-none (g.S.Shelf.outside c.args.shelf.now) c.args.first.now.reader c.args.second.now.reader
      c.requires.first c.requires.second;
  errors = c.requires.errors;
  abreast = abreast-init (g.S.Shelf.outside c.args.shelf.now) c.args.first.now c.args.second.now c.new-comparer.result
      c.new-comparer.ensures;
}

pub returns-in_err-more-clause-finds : goal.returns-in_err-more-clause-finds
returns-in_err-more-clause-finds g c = λ file other told also bytes too side beside.
    let first = g.S.Shelf.outside c.args.shelf.now in
    let now = g.S.Shelf.outside c.frames.shelf in
    let new = g.S.Shelf.outside c.next_of_both.new.shelf in
    let r = c.args.first.now in
    let s = c.args.second.now in
    let q = c.next_of_both.new.first in
    let p = c.next_of_both.new.second in
    let i = c.frames.invariant in
    let from = err_from_is_err_and c.from_residual.result c.from_residual.ensures.1 in
    let a = abreast-told first r s c.frames.first c.frames.second c.frames.comparer i.abreast file other told also bytes
    too side beside in
    subst (Finds file other q p) (sym (from.1 ∙ ap (λ e. Err e) from.2))
    (c.in_err-more.ensures.moves file other a.frames a.others
    (told-first first now r.reader s.reader c.frames.first.reader c.frames.second.reader file i.reads told)
    (told-second first now r.reader s.reader c.frames.first.reader c.frames.second.reader other i.reads also) bytes too
    a.first a.also)

pub returns-in_err-more-clause-device : goal.returns-in_err-more-clause-device
returns-in_err-more-clause-device g c = λ is.
    let from = err_from_is_err_and c.from_residual.result c.from_residual.ensures.1 in
    rose-before _ _ _ (c.frames.invariant.reads.draws 0 (omega arith) (omega arith)).faults
    (c.in_err-more.ensures.device (ap (λ e. Err e)
    (passed-on c.from_residual.result from.0 c.in_err-more.field-0.0 error.Device from.1 from.2 is)))

pub returns-in_err-more-clause-reads : goal.returns-in_err-more-clause-reads
returns-in_err-more-clause-reads g c =
    read-more _ _ _ c.args.first.now.reader c.args.second.now.reader c.frames.first.reader c.frames.second.reader
    c.next_of_both.new.first.reader c.next_of_both.new.second.reader c.frames.invariant.reads c.next_of_both.ensures.reads

pub returns-then-more-also-clause-reads : goal.returns-then-more-also-clause-reads
returns-then-more-also-clause-reads g c =
    read-more _ _ _ c.args.first.now.reader c.args.second.now.reader c.frames.first.reader c.frames.second.reader
    c.next_of_both.new.first.reader c.next_of_both.new.second.reader c.frames.invariant.reads c.next_of_both.ensures.reads

pub returns-then-not-more-clause-reads : goal.returns-then-not-more-clause-reads
returns-then-not-more-clause-reads g c =
    read-more _ _ _ c.args.first.now.reader c.args.second.now.reader c.frames.first.reader c.frames.second.reader
    c.next_of_both.new.first.reader c.next_of_both.new.second.reader c.frames.invariant.reads c.next_of_both.ensures.reads

pub returns-in_err-are_same-clause-reads : goal.returns-in_err-are_same-clause-reads
returns-in_err-are_same-clause-reads g c =
    read-more _ _ _ c.args.first.now.reader c.args.second.now.reader c.frames.first.reader c.frames.second.reader
    c.next_of_both.new.first.reader c.next_of_both.new.second.reader c.frames.invariant.reads c.next_of_both.ensures.reads

pub returns-then-not-branch-clause-reads : goal.returns-then-not-branch-clause-reads
returns-then-not-branch-clause-reads g c =
    read-more _ _ _ c.args.first.now.reader c.args.second.now.reader c.frames.first.reader c.frames.second.reader
    c.next_of_both.new.first.reader c.next_of_both.new.second.reader c.frames.invariant.reads c.next_of_both.ensures.reads

pub returns-then-more-also-clause-finds : goal.returns-then-more-also-clause-finds
returns-then-more-also-clause-finds g c = λ file other told also bytes too side beside.
    let first = g.S.Shelf.outside c.args.shelf.now in
    let now = g.S.Shelf.outside c.frames.shelf in
    let new = g.S.Shelf.outside c.next_of_both.new.shelf in
    let r = c.args.first.now in
    let s = c.args.second.now in
    let q = c.next_of_both.new.first in
    let p = c.next_of_both.new.second in
    let i = c.frames.invariant in
    let on = both-told first now r s c.frames.first c.frames.second q p c.in_ok-more.more c.in_ok-more.also
    c.frames.comparer i.abreast i.reads c.in_ok-more.ensures.moves c.in_ok-more.ensures.keeps file other told also bytes
    too side beside in
    let place : c.max.result ≡ max q.reader.before.frames p.reader.before.frames =
    cc (c.max.ensures, c.items.ensures, c.items-then-more-also.ensures) in
    subst (λ n. FirstDiffer file other n q p) (sym place)
    (one-more file other q p c.in_ok-more.more c.in_ok-more.also c.frames.comparer on
    (not-equal c.in_ok-more.more c.in_ok-more.also c.if-more-also.true))

pub returns-then-not-more-clause-finds : goal.returns-then-not-more-clause-finds
returns-then-not-more-clause-finds g c = λ file other told also bytes too side beside.
    let first = g.S.Shelf.outside c.args.shelf.now in
    let now = g.S.Shelf.outside c.frames.shelf in
    let new = g.S.Shelf.outside c.next_of_both.new.shelf in
    let r = c.args.first.now in
    let s = c.args.second.now in
    let q = c.next_of_both.new.first in
    let p = c.next_of_both.new.second in
    let i = c.frames.invariant in
    let on = both-told first now r s c.frames.first c.frames.second q p c.in_ok-more.more c.in_ok-more.also
    c.frames.comparer i.abreast i.reads c.in_ok-more.ensures.moves c.in_ok-more.ensures.keeps file other told also bytes
    too side beside in
    both-end file other q p c.frames.comparer
    (both-at file other q p c.in_ok-more.more c.in_ok-more.also false c.frames.comparer on
    (equal c.in_ok-more.more c.in_ok-more.also c.if-more-also.false)
    c.if-not-more.true)

pub returns-then-not-branch-clause-finds : goal.returns-then-not-branch-clause-finds
returns-then-not-branch-clause-finds g c = λ file other told also bytes too side beside.
    let first = g.S.Shelf.outside c.args.shelf.now in
    let now = g.S.Shelf.outside c.frames.shelf in
    let new = g.S.Shelf.outside c.next_of_both.new.shelf in
    let r = c.args.first.now in
    let s = c.args.second.now in
    let q = c.next_of_both.new.first in
    let p = c.next_of_both.new.second in
    let i = c.frames.invariant in
    let on = both-told first now r s c.frames.first c.frames.second q p c.in_ok-more.more c.in_ok-more.also
    c.frames.comparer i.abreast i.reads c.in_ok-more.ensures.moves c.in_ok-more.ensures.keeps file other told also bytes
    too side beside in
    let place : c.frames-then-not-branch.result ≡ q.reader.before.frames =
    cc (c.items-then-not-branch.ensures, c.frames-then-not-branch.ensures) in
    let judges : Judges file other q p c.frames.comparer c.in_ok-are_same.field-0 =
    λ frames others frame another one two. c.in_ok-are_same.ensures.same file other frames others frame another bytes too
    one two in
    subst (λ n. FirstDiffer file other n q p) (sym place)
    (not-same file other q p c.frames.comparer
    (both-at file other q p c.in_ok-more.more c.in_ok-more.also true c.frames.comparer on
    (equal c.in_ok-more.more c.in_ok-more.also c.if-more-also.false)
    c.if-not-more.false)
    (subst (Judges file other q p c.frames.comparer) c.if-not-branch.true judges))

pub frames-preserved : goal.frames-preserved
frames-preserved g c =
    let met = c.frames.comparer in
    let grown = c.are_same.new.comparer in
    record {
      reads =
          read-more _ _ _ c.args.first.now.reader c.args.second.now.reader c.frames.first.reader c.frames.second.reader
          c.next_of_both.new.first.reader c.next_of_both.new.second.reader c.frames.invariant.reads c.next_of_both.ensures.reads;
      errors = c.in_ok-more.ensures.no_error;
      abreast = abreast-on (g.S.Shelf.outside c.args.shelf.now) c.args.first.now c.args.second.now
          c.next_of_both.new.first c.next_of_both.new.second grown
          (λ file other told also bytes too side beside.
          let first = g.S.Shelf.outside c.args.shelf.now in
          let now = g.S.Shelf.outside c.frames.shelf in
          let new = g.S.Shelf.outside c.next_of_both.new.shelf in
          let r = c.args.first.now in
          let s = c.args.second.now in
          let q = c.next_of_both.new.first in
          let p = c.next_of_both.new.second in
          let i = c.frames.invariant in
          let on = both-told first now r s c.frames.first c.frames.second q p c.in_ok-more.more c.in_ok-more.also
          c.frames.comparer i.abreast i.reads c.in_ok-more.ensures.moves c.in_ok-more.ensures.keeps file other told also bytes
          too side beside in
          let both = both-at file other q p c.in_ok-more.more c.in_ok-more.also true met on
          (equal c.in_ok-more.more c.in_ok-more.also c.if-more-also.false)
          c.if-not-more.false in
          let judges : Judges file other q p met c.in_ok-are_same.field-0 =
          λ frames others frame another one two. c.in_ok-are_same.ensures.same file other frames others frame another bytes too
          one two in
          both-same file other q p met grown both (subst (Judges file other q p met) c.if-not-branch.false judges)
          (c.are_same.ensures.alike both.alike));
    }
