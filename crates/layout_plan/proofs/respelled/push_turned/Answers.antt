use Rattle.std.proofs.Common.{◌*◌, ◌∙◌, refl, sym, ap, take}
use Rattle.std.proofs.lemmas.List.{take_rest}
use Rattle.scalar_types.specs.declared.Order.TheVariants.{Big}
use Rattle.scalar_types.specs.Number.{number, size_of}
use Rattle.layout_plan.proofs.AppendLemmas.{Appends-more, Appends-as, Appends-items}
use Rattle.layout_plan.proofs.RespelledLemmas.{respells-one, numbers-more, numbers-all}
use Rattle.layout_plan.proofs.respelled.push_turned.Goals as goal

pub returns-then-size-eq1 : goal.returns-then-size-eq1
returns-then-size-eq1 c =
    Appends-items _ _ _ _ _ c.extend_from_slice.ensures.items
    (respells-one c.args.width c.args.bytes.now c.args.bytes.now (sym c.size-size.ensures ∙ c.if-size-eq1.true) refl)

pub loop-i-preserved : goal.loop-i-preserved
loop-i-preserved c =
    let i = c.loop-i.i in
    let read = c.read_num-n.ensures.value
    ∙ ap (λ bytes. number Big (take (size_of c.args.width) bytes))
    (take_rest c.args.bytes.now (i * c.size-size.result)) in
    Appends-more _ _ _ _ c.loop-i.into.items _ c.loop-i.invariant c.in_ok-push_number.ensures
    (λ xs ys r s. numbers-more c.args.width c.args.bytes.now xs ys i c.size-size.result c.read_num-n.result
    c.size-size.ensures c.loop-i-test.true read s r)

pub returns : goal.returns
returns c =
    Appends-as _ _ _ _ c.loop-i.invariant
    (λ xs r. numbers-all c.args.width c.args.bytes.now xs c.loop-i.i c.size-size.result c.size-size.ensures
    c.loop-i-test.false r)
