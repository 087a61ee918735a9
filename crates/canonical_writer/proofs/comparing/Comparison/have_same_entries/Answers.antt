-- Each record that stands at a place of the order is alike where its class has one entry.
use Rattle.std.proofs.Common.{◌≡◌, ℕ, ◌+◌, ◌<◌, ◌⊎◌, inl, inr, sym, refl, ◌∙◌, subst, arith, get_or}
use Rattle.std.proofs.lemmas.Bool.{false≢true}
use Rattle.canonical_writer.specs.Alike.{RecordsAreAlike}
use Rattle.canonical_writer.specs.Filled.{record_at}
use Rattle.canonical_writer.proofs.SegmentOrders.{breadth-within}
use Rattle.canonical_writer.proofs.StandingAlike.{stand-alike}
use Rattle.canonical_writer.proofs.comparing.Comparison.have_same_entries.Goals as goal

pub loop-node-init : goal.loop-node-init
loop-node-init c = (λ alike. alike, λ is also alike k none. absurd (omega arith))

pub returns-then-len-node-clause-same : goal.returns-then-len-node-clause-same
returns-then-len-node-clause-same c = λ is also alike.
    let first = c.args.first.now in
    let within = breadth-within first.plans.now first.segment.now first.order.now is.can.breadth
    c.loop-node.node-index 0 c.loop-node-test.true in
    absurd (omega (arith, within, c.len.ensures, c.if-len-node.true))

pub returns-then-not-have_one_entry-clause-same : goal.returns-then-not-have_one_entry-clause-same
returns-then-not-have_one_entry-clause-same c = λ is also alike. (
  λ no. absurd (false≢true no),
  λ same.
      let first = c.args.first.now in let second = c.args.second.now in let k = c.loop-node.node-index in
      let one = (stand-alike first second k (get_or first.order.now k 0) c.node.result.now is also c.requires
      c.loop-node-test.true refl c.node.ensures).1 (same k c.loop-node-test.true) in
      absurd (false≢true (sym c.if-not-have_one_entry.true
      ∙ (c.have_one_entry.ensures.one (c.loop-node.invariant.0 alike)).1 one)),
)

pub loop-node-preserved : goal.loop-node-preserved
loop-node-preserved c = (
  λ alike. c.have_one_entry.ensures.alike (c.loop-node.invariant.0 alike),
  λ is also alike j below.
      let first = c.args.first.now in let second = c.args.second.now in let k = c.loop-node.node-index in
      elim (before_or j k below) [
        | inl before ↦ c.loop-node.invariant.1 is also alike j before
        | inr last ↦ subst (λ i. RecordsAreAlike (record_at first i) (record_at second i)) (sym last)
            ((stand-alike first second k (get_or first.order.now k 0) c.node.result.now is also c.requires
            c.loop-node-test.true refl c.node.ensures).0
            ((c.have_one_entry.ensures.one (c.loop-node.invariant.0 alike)).0 c.if-not-have_one_entry.false))
      ],
)
  where
    before_or : (j k : ℕ) → j < k + 1 → (j < k) ⊎ (j ≡ k)
    before_or j k below = grind arith

pub returns-clause-same : goal.returns-clause-same
returns-clause-same c = λ is also alike. (
  λ t k within. c.loop-node.invariant.1 is also alike k (omega (arith, within, c.loop-node-test.false)),
  λ same. refl,
)
