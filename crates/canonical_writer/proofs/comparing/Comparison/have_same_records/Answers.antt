-- Record by record.
use Rattle.std.proofs.Common.{sym, refl, ◌∙◌, arith}
use Rattle.std.proofs.lemmas.Bool.{false≢true}
use Rattle.canonical_writer.proofs.Filling.{placed-at}
use Rattle.canonical_writer.proofs.SegmentOrders.{breadth-order}
use Rattle.canonical_writer.proofs.SourceRows.{alike-none, alike-more}
use Rattle.canonical_writer.proofs.comparing.Comparison.have_same_records.Goals as goal

pub loop-k-init : goal.loop-k-init
loop-k-init c = (
  λ alike. alike,
  λ is also alike.
      let first = c.args.first.now in let second = c.args.second.now in
      alike-none first second _
      (c.in_ok-number.ensures (breadth-order first.plans.now first.segment.now first.order.now is.can.breadth))
      (c.in_ok-number-2.ensures (breadth-order second.plans.now second.segment.now second.order.now also.can.breadth)),
)

pub returns-in_err-are_same_records-clause-alike : goal.returns-in_err-are_same_records-clause-alike
returns-in_err-are_same_records-clause-alike c = λ alike.
    c.in_err-are_same_records.ensures.alike (c.loop-k.invariant.0 alike)

pub returns-then-not-branch-clause-same : goal.returns-then-not-branch-clause-same
returns-then-not-branch-clause-same c = λ is also alike. (
  λ no. absurd (false≢true no),
  λ same.
      let first = c.args.first.now in let second = c.args.second.now in let k = c.loop-k.k in
      let were = c.loop-k.invariant.1 is also alike in
      let exact = c.in_ok-are_same_records.ensures.same k (placed-at first k _ is c.loop-k-test.true were.links)
      (placed-at second k _ also (omega (arith, c.requires.size, c.loop-k-test.true)) were.others)
      (c.loop-k.invariant.0 alike) in
      absurd (false≢true (sym c.if-not-branch.true ∙ exact.1 (same k c.loop-k-test.true))),
)

pub loop-k-preserved : goal.loop-k-preserved
loop-k-preserved c = (
  λ alike. c.in_ok-are_same_records.ensures.alike (c.loop-k.invariant.0 alike),
  λ is also alike.
      let first = c.args.first.now in let second = c.args.second.now in let k = c.loop-k.k in
      let were = c.loop-k.invariant.1 is also alike in
      let exact = c.in_ok-are_same_records.ensures.same k (placed-at first k _ is c.loop-k-test.true were.links)
      (placed-at second k _ also (omega (arith, c.requires.size, c.loop-k-test.true)) were.others)
      (c.loop-k.invariant.0 alike) in
      alike-more first second c.loop-k.self c.are_same_records.new.self k were
      c.in_ok-are_same_records.ensures.links.0 c.in_ok-are_same_records.ensures.links.1 (exact.0 c.if-not-branch.false),
)

pub returns-clause-same : goal.returns-clause-same
returns-clause-same c = λ is also alike. (
  λ t k within. (c.loop-k.invariant.1 is also alike).records k (omega (arith, within, c.loop-k-test.false)),
  λ same. refl,
)
