use Rattle.std.proofs.Common.{arith, ap, length}
use Rattle.layout_plan.proofs.LinkLemmas.{HasLink-body, link-within, link-places, link-list, link-placed, left-more}
use Rattle.layout_plan.proofs.LinkLemmas.{left-none}
use Rattle.layout_plan.proofs.ReplaceLemmas.{link-replaced}
use Rattle.layout_plan.proofs.links.link_place_in.Goals as goal

pub walk_body-requires-clause-body : goal.walk_body-requires-clause-body
walk_body-requires-clause-body c = HasLink-body c.args.order c.args.plan.now c.args.body.now c.args.k c.requires.link

pub place_by-here-requires-clause-field : goal.place_by-here-requires-clause-field
place_by-here-requires-clause-field c =
    link-within c.args.plan.now c.links-field-items.result.now c.loop-field.field-index c.links-field-items.ensures
    c.loop-field-test.true

pub place_by-here-requires-clause-places : goal.place_by-here-requires-clause-places
place_by-here-requires-clause-places c = (
  c.args.order,
  c.args.body.now,
  link-places c.args.order c.args.plan.now c.args.body.now c.links-field-items.result.now c.loop-field.field-index
      (length c.fields.result.now) c.walk_body.new.ends c.links-field-items.ensures c.loop-field-test.true
      (ap length c.fields.ensures.fields) c.walk_body.ensures,
  omega arith,
)

pub overflow_add-result : goal.overflow_add-result
overflow_add-result c =
    let items = c.links-field-items.result.now in
    let j = c.loop-field.field-index in
    let places = link-places c.args.order c.args.plan.now c.args.body.now items j (length c.fields.result.now)
    c.walk_body.new.ends c.links-field-items.ensures c.loop-field-test.true (ap length c.fields.ensures.fields)
    c.walk_body.ensures in
    let list = link-list c.args.order c.args.plan.now c.args.body.now items j c.place_by-here.result
    c.links-field-items.ensures c.loop-field-test.true
    (c.place_by-here.ensures c.args.order c.args.body.now places) in
    omega (arith, list.within)

pub returns-then-left-count-clause-placed : goal.returns-then-left-count-clause-placed
returns-then-left-count-clause-placed c =
    let items = c.links-field-items.result.now in
    let j = c.loop-field.field-index in
    let places = link-places c.args.order c.args.plan.now c.args.body.now items j (length c.fields.result.now)
    c.walk_body.new.ends c.links-field-items.ensures c.loop-field-test.true (ap length c.fields.ensures.fields)
    c.walk_body.ensures in
    let list = link-list c.args.order c.args.plan.now c.args.body.now items j c.place_by-here.result
    c.links-field-items.ensures c.loop-field-test.true
    (c.place_by-here.ensures c.args.order c.args.body.now places) in
    link-placed c.args.order c.args.plan.now c.args.body.now items j c.args.k c.loop-field.left c.place_by-here.result
    c.links-field-items.ensures c.loop-field-test.true c.loop-field.invariant list c.if-left-count.true

pub returns-then-left-count-clause-replaced : goal.returns-then-left-count-clause-replaced
returns-then-left-count-clause-replaced c =
    let items = c.links-field-items.result.now in
    let j = c.loop-field.field-index in
    let places = link-places c.args.order c.args.plan.now c.args.body.now items j (length c.fields.result.now)
    c.walk_body.new.ends c.links-field-items.ensures c.loop-field-test.true (ap length c.fields.ensures.fields)
    c.walk_body.ensures in
    link-replaced c.args.order c.args.plan.now c.args.body.now items j c.args.k c.loop-field.left c.place_by-here.result
    c.links-field-items.ensures c.loop-field-test.true c.loop-field.invariant
    (c.place_by-here.ensures c.args.order c.args.body.now places) c.if-left-count.true

pub loop-field-preserved : goal.loop-field-preserved
loop-field-preserved c =
    let items = c.links-field-items.result.now in
    let j = c.loop-field.field-index in
    let places = link-places c.args.order c.args.plan.now c.args.body.now items j (length c.fields.result.now)
    c.walk_body.new.ends c.links-field-items.ensures c.loop-field-test.true (ap length c.fields.ensures.fields)
    c.walk_body.ensures in
    let list = link-list c.args.order c.args.plan.now c.args.body.now items j c.place_by-here.result
    c.links-field-items.ensures c.loop-field-test.true
    (c.place_by-here.ensures c.args.order c.args.body.now places) in
    λ values tail body.
    left-more c.args.order c.args.plan.now c.args.body.now items j c.args.k c.loop-field.left c.place_by-here.result
    values tail c.loop-field-test.true list c.if-left-count.false body (c.loop-field.invariant values tail body)

pub unreachable-requires : goal.unreachable-requires
unreachable-requires c =
    left-none c.args.order c.args.plan.now c.args.body.now c.links-field-items.result.now c.loop-field.field-index
    c.args.k c.loop-field.left c.links-field-items.ensures c.loop-field-test.false c.requires.link
    c.loop-field.invariant
