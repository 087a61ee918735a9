use Rattle.std.proofs.Common.{◌-◌, ◌≤◌, ◌∙◌, arith, ap, length, take, drop, refl}
use Rattle.std.proofs.lemmas.List.{length-drop, length-take-le, take_rest}
use Rattle.layout_plan.proofs.MadeLemmas.{made-none, made-more, made-as}
use Rattle.layout_plan.proofs.AppendLemmas.{Appends-none, Appends-more, Appends-as, Appends-refused}
use Rattle.layout_plan.proofs.LinkLemmas.{link-within, link-list, link-place, fields-links-more, fields-links-all}
use Rattle.layout_plan.proofs.links.push_lists.Goals as goal

pub place_by-here-requires-clause-field : goal.place_by-here-requires-clause-field
place_by-here-requires-clause-field g c =
    link-within c.args.plan.now c.links-field-items.result.now c.loop-field.field-index c.links-field-items.ensures
    c.loop-field-test.true

pub place_by-here-requires-clause-places : goal.place_by-here-requires-clause-places
place_by-here-requires-clause-places g c = (
  c.args.order,
  c.args.body.now,
  link-place c.args.order c.args.plan.now c.args.body.now c.links-field-items.result.now
      c.loop-field.field-index c.args.ends.now c.links-field-items.ensures c.loop-field-test.true c.requires.places,
  omega arith,
)

pub slice_bounds-rest-count : goal.slice_bounds-rest-count
slice_bounds-rest-count g c =
    let items = c.links-field-items.result.now in
    let j = c.loop-field.field-index in
    let places = link-place c.args.order c.args.plan.now c.args.body.now items j c.args.ends.now
    c.links-field-items.ensures c.loop-field-test.true c.requires.places in
    let list = link-list c.args.order c.args.plan.now c.args.body.now items j c.place_by-here.result
    c.links-field-items.ensures c.loop-field-test.true
    (c.place_by-here.ensures c.args.order c.args.body.now places) in
    omega (arith, list.within)

pub slice_bounds-rest-start : goal.slice_bounds-rest-start
slice_bounds-rest-start g c =
    let items = c.links-field-items.result.now in
    let j = c.loop-field.field-index in
    let places = link-place c.args.order c.args.plan.now c.args.body.now items j c.args.ends.now
    c.links-field-items.ensures c.loop-field-test.true c.requires.places in
    let list = link-list c.args.order c.args.plan.now c.args.body.now items j c.place_by-here.result
    c.links-field-items.ensures c.loop-field-test.true
    (c.place_by-here.ensures c.args.order c.args.body.now places) in
    omega (arith, list.within)

pub slice_bounds-push_field-end : goal.slice_bounds-push_field-end
slice_bounds-push_field-end g c =
    let items = c.links-field-items.result.now in
    let j = c.loop-field.field-index in
    let places = link-place c.args.order c.args.plan.now c.args.body.now items j c.args.ends.now
    c.links-field-items.ensures c.loop-field-test.true c.requires.places in
    let list = link-list c.args.order c.args.plan.now c.args.body.now items j c.place_by-here.result
    c.links-field-items.ensures c.loop-field-test.true
    (c.place_by-here.ensures c.args.order c.args.body.now places) in
    let size = ap length (take_rest c.args.body.now c.place_by-here.result.start)
    ∙ length-drop c.place_by-here.result.start c.args.body.now in
    let room : c.place_by-here.result.length
    ≤ length (take (length c.args.body.now - c.place_by-here.result.start)
    (drop c.place_by-here.result.start c.args.body.now)) = omega (arith, list.within, size) in
    omega (
      arith,
      room,
      length-take-le c.place_by-here.result.length
          (take (length c.args.body.now - c.place_by-here.result.start)
          (drop c.place_by-here.result.start c.args.body.now)) room,
    )

pub loop-field-preserved : goal.loop-field-preserved
loop-field-preserved g c =
    let items = c.links-field-items.result.now in
    let j = c.loop-field.field-index in
    let places = link-place c.args.order c.args.plan.now c.args.body.now items j c.args.ends.now
    c.links-field-items.ensures c.loop-field-test.true c.requires.places in
    let list = link-list c.args.order c.args.plan.now c.args.body.now items j c.place_by-here.result
    c.links-field-items.ensures c.loop-field-test.true
    (c.place_by-here.ensures c.args.order c.args.body.now places) in
    Appends-more _ _ _ _ c.loop-field.into.items _ c.loop-field.invariant c.in_ok-push_field.ensures
    (made-more g.T.From.from_gives _ _ _ (λ xs ys r s. fields-links-more c.args.order c.args.plan.now c.args.body.now
    items j c.place_by-here.result (length c.args.body.now - c.place_by-here.result.start) xs ys c.loop-field-test.true
    list r s (omega (arith, list.within))))

pub returns-in_err-push_field : goal.returns-in_err-push_field
returns-in_err-push_field g c =
    Appends-refused _ _ _ _ _ c.loop-field.into.items _ c.from_residual.ensures.0 c.loop-field.invariant
    c.push_field.ensures

pub returns : goal.returns
returns g c =
    Appends-as _ _ _ _ c.loop-field.invariant
    (made-as g.T.From.from_gives _ _ (λ xs r. fields-links-all c.args.order c.args.plan.now c.args.body.now
    c.links-field-items.result.now c.loop-field.field-index xs c.links-field-items.ensures c.loop-field-test.false r))

pub loop-field-init : goal.loop-field-init
loop-field-init g c = Appends-none _ _ (made-none g.T.From.from_gives _ (λ values tail body. refl))
