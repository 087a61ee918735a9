use Rattle.std.proofs.Common.{◌≡◌, ◌*◌, ◌++◌, ◌∷◌, [], List, sym, ap, refl, ◌∙◌, append-nil}
use Rattle.std.proofs.lemmas.List.{take_rest}
use Rattle.layout_plan.specs.declared.links.FieldLink.{FieldLink}
use Rattle.layout_plan.specs.Reading.{link_in}
use Rattle.layout_plan.specs.Made.{IsMadeOf}
use Rattle.layout_plan.proofs.MadeLemmas.{made-none, made-one, made-more, made-as}
use Rattle.layout_plan.proofs.AppendLemmas.{Appends-none, Appends-more, Appends-as, Appends-refused}
use Rattle.layout_plan.proofs.LinkLemmas.{first-links-more, first-links-all}
use Rattle.layout_plan.proofs.links.push_field.Goals as goal

pub loop-i-preserved : goal.loop-i-preserved
loop-i-preserved g c =
    let gives = g.T.From.from_gives in
    let found : FieldLink = record { field = c.args.field; link = c.link_of.result } in
    let read = ap (link_in c.args.order) (sym (take_rest c.args.bytes.now (c.loop-i.i * 6))) ∙ c.link_of.ensures in
    Appends-more _ (IsMadeOf gives (λ (ys : List FieldLink). ys ≡ found ∷ [])) _ _ c.loop-i.into.items _
    c.loop-i.invariant
    (record {
      items = c.from.result ∷ [];
      whole = c.in_ok-push.ensures.items;
      related = made-one gives found c.from.result c.from.ensures;
    })
    (made-more gives _ _ _ (λ xs ys r s. λ items are. ap (λ ys. xs ++ ys) s
    ∙ first-links-more c.args.order c.args.field c.args.bytes.now c.loop-i.i c.link_of.result _ xs c.loop-i-test.true
    read r items are))

pub returns-in_err-push : goal.returns-in_err-push
returns-in_err-push g c =
    Appends-refused _ (λ ys. Unit {0}) _ _ _ c.loop-i.into.items _ c.from_residual.ensures.0 c.loop-i.invariant
    (record {
      items = [];
      whole = c.in_err-push.ensures.items ∙ sym (append-nil c.loop-i.into.items);
      related = tt;
    })

pub returns : goal.returns
returns g c =
    Appends-as _ _ _ _ c.loop-i.invariant
    (made-as g.T.From.from_gives _ _ (λ xs r. first-links-all c.args.order c.args.field c.args.bytes.now c.loop-i.i xs
    c.loop-i-test.false r))

pub loop-i-init : goal.loop-i-init
loop-i-init g c = Appends-none _ _ (made-none g.T.From.from_gives _ (λ items are. refl))
