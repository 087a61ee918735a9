use Rattle.std.proofs.Common.{arith, sym, subst, drop}
use Rattle.std.proofs.lemmas.List.{take_rest, length-drop}
use Rattle.layout_plan.specs.Respelled.{BeginsText, RespellsText}
use Rattle.layout_plan.proofs.AppendLemmas.{Appends-more, Appends-as}
use Rattle.layout_plan.proofs.RespelledLemmas.{begins-text, texts-more, texts-all}
use Rattle.layout_plan.proofs.respelled.push_texts.Goals as goal

pub loop-at-preserved : goal.loop-at-preserved
loop-at-preserved c =
    let bytes = c.args.bytes.now in
    let at = c.loop-at.at in
    let size = c.in_ok-at.field-0 in
    Appends-more _ _ _ _ c.loop-at.into.items _ c.loop-at.invariant c.in_ok-at.ensures.appends
    (λ xs ys r s. texts-more c.args.order bytes xs ys at size c.loop-at-test.true
    (subst (λ bytes. RespellsText c.args.order bytes size ys) (take_rest bytes at) s) r)

pub push_text-requires : goal.push_text-requires
push_text-requires c =
    subst (BeginsText c.args.order) (sym (take_rest c.args.bytes.now c.loop-at.at))
    (begins-text c.args.order c.args.bytes.now (drop c.loop-at.at c.args.bytes.now) c.loop-at.invariant.items
    c.requires (omega (arith, length-drop c.loop-at.at c.args.bytes.now, c.loop-at-test.true))
    c.loop-at.invariant.related)

pub returns : goal.returns
returns c =
    Appends-as _ _ _ _ c.loop-at.invariant
    (λ xs r. texts-all c.args.order c.args.bytes.now xs c.loop-at.at (omega (arith, c.loop-at-test.false)) r)
