use Rattle.std.proofs.Common.{◌≡◌, ◌∙◌, ◌++◌, length, ◌∷◌, [], List, ap, refl, sym, append-nil, get_or, arith}
use Rattle.std.proofs.lemmas.List.{take_rest, length-drop}
use Rattle.layout_plan.specs.declared.links.FieldLink.{FieldLink}
use Rattle.layout_plan.specs.Reading.{link_in}
use Rattle.layout_plan.specs.Made.{IsMadeOf}
use Rattle.layout_plan.proofs.MadeLemmas.{made-none, made-one, made-more, made-as}
use Rattle.layout_plan.proofs.AppendLemmas.{Appends-none, Appends-more, Appends-as, Appends-refused}
use Rattle.layout_plan.proofs.LinkLemmas.{link-within, link-list, link-place, fields-links-all}
use Rattle.layout_plan.proofs.PlainLinkLemmas.{plain-size, plain-links-more}
use Rattle.layout_plan.proofs.links.push_plain.Goals as goal

pub place_by-start-requires-clause-field : goal.place_by-start-requires-clause-field
place_by-start-requires-clause-field g c =
    link-within c.args.plan.now c.links-field-items.result.now c.loop-field.field-index c.links-field-items.ensures
    c.loop-field-test.true

pub place_by-start-requires-clause-places : goal.place_by-start-requires-clause-places
place_by-start-requires-clause-places g c = (
  c.args.order,
  c.args.body.now,
  link-place c.args.order c.args.plan.now c.args.body.now c.links-field-items.result.now
      c.loop-field.field-index c.args.ends.now c.links-field-items.ensures c.loop-field-test.true c.requires.places,
  omega arith,
)

pub loop-field-init : goal.loop-field-init
loop-field-init g c = Appends-none _ _ (made-none g.T.From.from_gives _ (λ values tail body. refl))

pub slice_bounds-link_of-start : goal.slice_bounds-link_of-start
slice_bounds-link_of-start g c =
    let items = c.links-field-items.result.now in
    let j = c.loop-field.field-index in
    let p = c.place_by-start.result in
    let places = link-place c.args.order c.args.plan.now c.args.body.now items j c.args.ends.now
    c.links-field-items.ensures c.loop-field-test.true c.requires.places in
    let placed = c.place_by-start.ensures c.args.order c.args.body.now places in
    let list = link-list c.args.order c.args.plan.now c.args.body.now items j p c.links-field-items.ensures
    c.loop-field-test.true placed in
    omega (arith, list.within)

pub slice_bounds-link_of-count : goal.slice_bounds-link_of-count
slice_bounds-link_of-count g c =
    let items = c.links-field-items.result.now in
    let j = c.loop-field.field-index in
    let p = c.place_by-start.result in
    let places = link-place c.args.order c.args.plan.now c.args.body.now items j c.args.ends.now
    c.links-field-items.ensures c.loop-field-test.true c.requires.places in
    let placed = c.place_by-start.ensures c.args.order c.args.body.now places in
    let list = link-list c.args.order c.args.plan.now c.args.body.now items j p c.links-field-items.ensures
    c.loop-field-test.true placed in
    omega (arith, list.within)

pub link_of-requires : goal.link_of-requires
link_of-requires g c =
    let items = c.links-field-items.result.now in
    let j = c.loop-field.field-index in
    let p = c.place_by-start.result in
    let places = link-place c.args.order c.args.plan.now c.args.body.now items j c.args.ends.now
    c.links-field-items.ensures c.loop-field-test.true c.requires.places in
    let placed = c.place_by-start.ensures c.args.order c.args.body.now places in
    let list = link-list c.args.order c.args.plan.now c.args.body.now items j p c.links-field-items.ensures
    c.loop-field-test.true placed in
    let six = plain-size c.args.order c.args.plan.now c.args.body.now items j p c.links-field-items.ensures
    c.loop-field-test.true c.requires.plain placed in
    omega (arith, list.within, six, ap length (take_rest c.args.body.now p.start) ∙ length-drop p.start c.args.body.now)

pub loop-field-preserved : goal.loop-field-preserved
loop-field-preserved g c =
    let items = c.links-field-items.result.now in
    let j = c.loop-field.field-index in
    let p = c.place_by-start.result in
    let places = link-place c.args.order c.args.plan.now c.args.body.now items j c.args.ends.now
    c.links-field-items.ensures c.loop-field-test.true c.requires.places in
    let placed = c.place_by-start.ensures c.args.order c.args.body.now places in
    let list = link-list c.args.order c.args.plan.now c.args.body.now items j p c.links-field-items.ensures
    c.loop-field-test.true placed in
    let six = plain-size c.args.order c.args.plan.now c.args.body.now items j p c.links-field-items.ensures
    c.loop-field-test.true c.requires.plain placed in
    let read = ap (link_in c.args.order) (sym (take_rest c.args.body.now p.start)) ∙ c.link_of.ensures in
    let gives = g.T.From.from_gives in
    let found : FieldLink = record { field = get_or items j 0; link = c.link_of.result } in
    Appends-more _ (IsMadeOf gives (λ (ys : List FieldLink). ys ≡ found ∷ [])) _ _ c.loop-field.into.items _
    c.loop-field.invariant
    (record {
      items = c.from.result ∷ [];
      whole = c.in_ok-push.ensures.items;
      related = made-one gives found c.from.result c.from.ensures;
    })
    (made-more gives _ _ _ (λ xs ys r s. λ values tail is. ap (λ ys. xs ++ ys) s
    ∙ plain-links-more c.args.order c.args.plan.now c.args.body.now items j p c.link_of.result _ xs
    c.loop-field-test.true list six read r values tail is))

pub returns-in_err-push : goal.returns-in_err-push
returns-in_err-push g c =
    Appends-refused _ (λ ys. Unit {0}) _ _ _ c.loop-field.into.items _ c.from_residual.ensures.0
    c.loop-field.invariant (record {
      items = [];
      whole = c.in_err-push.ensures.items ∙ sym (append-nil c.loop-field.into.items);
      related = tt;
    })

pub returns : goal.returns
returns g c =
    Appends-as _ _ _ _ c.loop-field.invariant
    (made-as g.T.From.from_gives _ _ (λ xs r. fields-links-all c.args.order c.args.plan.now c.args.body.now
    c.links-field-items.result.now c.loop-field.field-index xs c.links-field-items.ensures c.loop-field-test.false r))
