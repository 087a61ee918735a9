use Rattle.std.proofs.Common.{◌+◌, ◌/◌, arith, length, refl, sym, ◌∙◌}
use Rattle.layout_plan.proofs.LinkLemmas.{link-within, link-places, link-list, counted-more, counted-few, counted-all}
use Rattle.layout_plan.proofs.PlainLinkLemmas.{plain-links}
use Rattle.layout_plan.proofs.links.count_links.Goals as goal

pub place_by-requires-clause-field : goal.place_by-requires-clause-field
place_by-requires-clause-field c =
    link-within c.args.plan.now c.links-field-items.result.now c.loop-field.field-index c.links-field-items.ensures
    c.loop-field-test.true

pub place_by-requires-clause-places : goal.place_by-requires-clause-places
place_by-requires-clause-places c = (
  c.args.order,
  c.args.body.now,
  link-places c.args.order c.args.plan.now c.args.body.now c.links-field-items.result.now c.loop-field.field-index
      (length c.args.plan.now) c.args.ends.now c.links-field-items.ensures c.loop-field-test.true refl
      c.requires.places,
  omega arith,
)

pub overflow_add-count : goal.overflow_add-count
overflow_add-count c =
    let items = c.links-field-items.result.now in
    let j = c.loop-field.field-index in
    let places = link-places c.args.order c.args.plan.now c.args.body.now items j (length c.args.plan.now)
    c.args.ends.now c.links-field-items.ensures c.loop-field-test.true refl c.requires.places in
    let list = link-list c.args.order c.args.plan.now c.args.body.now items j c.place_by.result
    c.links-field-items.ensures c.loop-field-test.true (c.place_by.ensures c.args.order c.args.body.now places) in
    let counted = counted-more c.args.order c.args.plan.now c.args.body.now items j c.loop-field.count c.place_by.result
    c.loop-field-test.true c.loop-field.invariant list in
    omega (
      arith,
      counted-few c.args.order c.args.plan.now c.args.body.now items (j + 1)
          (c.loop-field.count + c.place_by.result.length / 6) c.links-field-items.ensures c.requires.body counted,
    )

pub loop-field-preserved : goal.loop-field-preserved
loop-field-preserved c =
    let items = c.links-field-items.result.now in
    let j = c.loop-field.field-index in
    let places = link-places c.args.order c.args.plan.now c.args.body.now items j (length c.args.plan.now)
    c.args.ends.now c.links-field-items.ensures c.loop-field-test.true refl c.requires.places in
    let list = link-list c.args.order c.args.plan.now c.args.body.now items j c.place_by.result
    c.links-field-items.ensures c.loop-field-test.true (c.place_by.ensures c.args.order c.args.body.now places) in
    let counted = counted-more c.args.order c.args.plan.now c.args.body.now items j c.loop-field.count c.place_by.result
    c.loop-field-test.true c.loop-field.invariant list in
    counted

pub returns : goal.returns
returns c =
    counted-all c.args.order c.args.plan.now c.args.body.now c.links-field-items.result.now c.loop-field.field-index
    c.loop-field.count c.links-field-items.ensures c.loop-field-test.false c.loop-field.invariant

pub returns-then-links_are_plain : goal.returns-then-links_are_plain
returns-then-links_are_plain c =
    plain-links c.args.order c.args.plan.now c.args.body.now c.links.result.now c.links.ensures
    (sym c.links_are_plain.ensures ∙ c.if-links_are_plain.true)
