use Rattle.std.proofs.Common.{ℕ, ◌≤◌, List, length, drop, arith, sym, subst}
use Rattle.std.proofs.lemmas.List.{take_rest}
use Rattle.layout_plan.specs.Respelled.{BeginsText}
use Rattle.dumper.specs.Spans.{IsTextSpan}
use Rattle.dumper.proofs.SpanLemmas.{left-none, left-first, left-more, left-all, begins-first}
use Rattle.dumper.proofs.spans.texts_length.Goals as goal

pub loop-i-init : goal.loop-i-init
loop-i-init c = left-none c.args.order c.args.count c.args.bytes.now

pub text_length-at-requires : goal.text_length-at-requires
text_length-at-requires c =
    let first = left-first c.args.order c.args.count c.args.bytes.now c.loop-i._i c.loop-i.at c.requires.0 c.requires.1
    c.loop-i.invariant (omega arith) c.requires.2 in
    subst (BeginsText c.args.order) (sym (take_rest c.args.bytes.now c.loop-i.at))
    (begins-first c.args.order _ (drop c.loop-i.at c.args.bytes.now) c.requires.1 first)

pub loop-i-preserved : goal.loop-i-preserved
loop-i-preserved c =
    let rest = take_rest c.args.bytes.now c.loop-i.at in
    left-more c.args.order c.args.count c.args.bytes.now c.loop-i._i c.loop-i.at c.text_length-at.result
    c.loop-i.invariant (omega arith)
    (subst (λ bytes. IsTextSpan c.args.order bytes c.text_length-at.result) rest c.text_length-at.ensures.text)
    (subst (λ (bytes : List ℕ). c.text_length-at.result ≤ length bytes) rest c.text_length-at.ensures.within)

pub returns : goal.returns
returns c = left-all c.args.order c.args.count c.args.bytes.now c.loop-i._i c.loop-i.at c.loop-i.invariant (omega arith)
