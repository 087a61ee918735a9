use Rattle.std.proofs.Common.{sym, ap, ◌∙◌, arith}
use Rattle.std.proofs.lemmas.Bool.{false≢true}
use Rattle.dictionary.specs.declared.entries.Element.{Element}
use Rattle.canonical_writer.proofs.AlikeEntries.{comments-more, comments-at, bytes-same, bytes-differ}
use Rattle.canonical_writer.proofs.comparing.have_same_comments.Goals as goal

pub returns-then-ne : goal.returns-then-ne
returns-then-ne c = (
  λ is. absurd (false≢true is),
  λ same. absurd (bytes-differ c.bytes.result.now c.bytes-in-loop-k.result.now (sym c.ne.ensures ∙ c.if-ne.true)
      (c.bytes.ensures ∙ ap (λ (e : Element). e.comment) c.index-first-k.is
      ∙ comments-at c.args.first.now c.args.second.now c.loop-k.k c.index-first-k.result
      c.index-second-k.result c.loop-k-test.true (omega (arith, c.if-first-second.false, c.loop-k-test.true)) same
      ∙ sym c.bytes-in-loop-k.ensures)),
)

pub loop-k-preserved : goal.loop-k-preserved
loop-k-preserved c =
    comments-more c.args.first.now c.args.second.now c.loop-k.k c.index-first-k.result c.index-second-k.result
    c.loop-k-test.true (omega (arith, c.if-first-second.false, c.loop-k-test.true))
    (ap (λ (e : Element). e.comment) (sym c.index-first-k.is) ∙ sym c.bytes.ensures
    ∙ bytes-same c.bytes.result.now c.bytes-in-loop-k.result.now (sym c.ne.ensures ∙ c.if-ne.false)
    ∙ c.bytes-in-loop-k.ensures) c.loop-k.invariant
