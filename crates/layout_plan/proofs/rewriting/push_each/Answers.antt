use Rattle.std.proofs.Common.{◌+◌, ◌-◌, refl, arith, sym, subst, ap, length, take, drop}
use Rattle.std.proofs.lemmas.List.{take_rest}
use Rattle.layout_plan.specs.Respelled.{SpellsFew, RespellsField}
use Rattle.layout_plan.proofs.ReachLemmas.{ArePlaces-fewer}
use Rattle.layout_plan.proofs.AppendLemmas.{Appends-none, Appends-more, Appends-as, Appends-refused}
use Rattle.layout_plan.proofs.RewriteLemmas.{rewritten-none, rewritten-step, rewritten-all, sums-at, field-placed}
use Rattle.layout_plan.proofs.RewriteLemmas.{few-links, few-left, few-used, slice-length}
use Rattle.layout_plan.proofs.rewriting.push_each.Goals as goal

pub loop-k-init : goal.loop-k-init
loop-k-init c =
    Appends-none _ _ (rewritten-none c.args.order c.args.plan.now c.args.body.now c.args.links.now c.requires.links)

pub place_by-here-requires-clause-places : goal.place_by-here-requires-clause-places
place_by-here-requires-clause-places c = (
  c.args.order,
  c.args.body.now,
  ArePlaces-fewer c.args.order c.args.plan.now c.args.body.now (length c.fields-fields.result.now) (c.loop-k.k + 1)
      c.walk_body.new.ends (omega (arith, c.loop-k-test.true)) c.walk_body.ensures,
  omega arith,
)

pub overflow_add-bytes : goal.overflow_add-bytes
overflow_add-bytes c =
    let at = field-placed c.args.order c.args.plan.now c.fields-fields.result.now c.args.body.now c.loop-k.k
    (length c.fields-fields.result.now) c.index-fields-k.result c.walk_body.new.ends c.place_by-here.result
    c.fields-fields.ensures.fields c.loop-k-test.true c.index-fields-k.is refl c.walk_body.ensures
    c.place_by-here.ensures in
    omega (arith, at.placed.within)

pub slice_bounds-bytes-end : goal.slice_bounds-bytes-end
slice_bounds-bytes-end c =
    let at = field-placed c.args.order c.args.plan.now c.fields-fields.result.now c.args.body.now c.loop-k.k
    (length c.fields-fields.result.now) c.index-fields-k.result c.walk_body.new.ends c.place_by-here.result
    c.fields-fields.ensures.fields c.loop-k-test.true c.index-fields-k.is refl c.walk_body.ensures
    c.place_by-here.ensures in
    omega (arith, at.placed.within)

pub offset_bounds-links-next : goal.offset_bounds-links-next
offset_bounds-links-next c =
    let few = few-links c.args.order c.args.plan.now c.args.body.now c.args.links.now c.loop-k.k c.loop-k.next
    c.loop-k.invariant.items c.requires.read c.requires.links c.loop-k.invariant.related in
    omega (arith, few.0, few.1)

pub slice_bounds-push_field-count : goal.slice_bounds-push_field-count
slice_bounds-push_field-count c =
    let few = few-links c.args.order c.args.plan.now c.args.body.now c.args.links.now c.loop-k.k c.loop-k.next
    c.loop-k.invariant.items c.requires.read c.requires.links c.loop-k.invariant.related in
    few.0

pub slice_bounds-push_field-start : goal.slice_bounds-push_field-start
slice_bounds-push_field-start c =
    let few = few-links c.args.order c.args.plan.now c.args.body.now c.args.links.now c.loop-k.k c.loop-k.next
    c.loop-k.invariant.items c.requires.read c.requires.links c.loop-k.invariant.related in
    omega (arith, few.0)

pub push_field-requires-clause-sum : goal.push_field-requires-clause-sum
push_field-requires-clause-sum c =
    let at = field-placed c.args.order c.args.plan.now c.fields-fields.result.now c.args.body.now c.loop-k.k
    (length c.fields-fields.result.now) c.index-fields-k.result c.walk_body.new.ends c.place_by-here.result
    c.fields-fields.ensures.fields c.loop-k-test.true c.index-fields-k.is refl c.walk_body.ensures
    c.place_by-here.ensures in
    sums-at c.args.plan.now c.loop-k.k c.index-fields-k.result c.fields-fields.ensures.layout.sums at.is

pub push_field-requires-clause-spelled : goal.push_field-requires-clause-spelled
push_field-requires-clause-spelled c =
    let p = c.place_by-here.result in
    let f = c.index-fields-k.result in
    let at = field-placed c.args.order c.args.plan.now c.fields-fields.result.now c.args.body.now c.loop-k.k
    (length c.fields-fields.result.now) c.index-fields-k.result c.walk_body.new.ends c.place_by-here.result
    c.fields-fields.ensures.fields c.loop-k-test.true c.index-fields-k.is refl c.walk_body.ensures
    c.place_by-here.ensures in
    let bytes = slice-length c.place_by-here.result.start c.place_by-here.result.length c.args.body.now in
    let links = take_rest c.args.links.now c.loop-k.next in
    let left = few-left c.args.order c.args.plan.now c.args.body.now c.args.links.now c.loop-k.k c.loop-k.next
    c.loop-k.invariant.items f p c.requires.read at c.loop-k.invariant.related in
    subst (λ bytes. SpellsFew c.args.order f.form f.counts bytes
    (take (length c.args.links.now - c.loop-k.next) (drop c.loop-k.next c.args.links.now))) (sym bytes)
    (subst (λ links. SpellsFew c.args.order f.form f.counts (take p.length (drop p.start c.args.body.now)) links)
    (sym links) left)

pub returns-in_err-next : goal.returns-in_err-next
returns-in_err-next c =
    Appends-refused _ _ _ _ _ c.loop-k.into.items _ c.from_residual.ensures.0 c.loop-k.invariant c.push_field.ensures

pub overflow_add-next : goal.overflow_add-next
overflow_add-next c =
    let p = c.place_by-here.result in
    let at = field-placed c.args.order c.args.plan.now c.fields-fields.result.now c.args.body.now c.loop-k.k
    (length c.fields-fields.result.now) c.index-fields-k.result c.walk_body.new.ends c.place_by-here.result
    c.fields-fields.ensures.fields c.loop-k-test.true c.index-fields-k.is refl c.walk_body.ensures
    c.place_by-here.ensures in
    let bytes = slice-length c.place_by-here.result.start c.place_by-here.result.length c.args.body.now in
    let links = take_rest c.args.links.now c.loop-k.next in
    let few = few-links c.args.order c.args.plan.now c.args.body.now c.args.links.now c.loop-k.k c.loop-k.next
    c.loop-k.invariant.items c.requires.read c.requires.links c.loop-k.invariant.related in
    let used = few-used c.args.order c.args.plan.now c.args.body.now c.args.links.now c.loop-k.k c.loop-k.next
    c.in_ok-next.field-0 c.loop-k.invariant.items c.in_ok-next.ensures.items c.index-fields-k.result p c.requires.read
    at (subst (λ bytes. RespellsField c.args.order c.index-fields-k.result bytes (drop c.loop-k.next c.args.links.now)
    c.in_ok-next.field-0 c.in_ok-next.ensures.items) bytes
    (subst (λ links. RespellsField c.args.order c.index-fields-k.result
    (take (p.start + p.length - p.start) (drop p.start c.args.body.now)) links c.in_ok-next.field-0
    c.in_ok-next.ensures.items) links c.in_ok-next.ensures.related)) c.loop-k.invariant.related in
    omega (arith, used, few.1)

pub loop-k-preserved : goal.loop-k-preserved
loop-k-preserved c =
    let p = c.place_by-here.result in
    let at = field-placed c.args.order c.args.plan.now c.fields-fields.result.now c.args.body.now c.loop-k.k
    (length c.fields-fields.result.now) c.index-fields-k.result c.walk_body.new.ends c.place_by-here.result
    c.fields-fields.ensures.fields c.loop-k-test.true c.index-fields-k.is refl c.walk_body.ensures
    c.place_by-here.ensures in
    let bytes = slice-length c.place_by-here.result.start c.place_by-here.result.length c.args.body.now in
    let links = take_rest c.args.links.now c.loop-k.next in
    Appends-more _ _ _ _ c.loop-k.into.items _ c.loop-k.invariant c.in_ok-next.ensures
    (λ xs ys r s. rewritten-step c.args.order c.args.plan.now c.args.body.now c.args.links.now c.loop-k.k
    c.loop-k.next c.in_ok-next.field-0 xs ys c.index-fields-k.result p c.fields-fields.ensures.layout at
    (subst (λ bytes. RespellsField c.args.order c.index-fields-k.result bytes (drop c.loop-k.next c.args.links.now)
    c.in_ok-next.field-0 ys) bytes
    (subst (λ links. RespellsField c.args.order c.index-fields-k.result
    (take (p.start + p.length - p.start) (drop p.start c.args.body.now)) links c.in_ok-next.field-0 ys) links s)) r)

pub returns : goal.returns
returns c =
    Appends-as _ _ _ _ c.loop-k.invariant
    (λ xs r. rewritten-all c.args.order c.args.plan.now c.args.body.now c.args.links.now c.loop-k.k c.loop-k.next xs
    c.fields-fields.ensures.layout (omega (arith, c.loop-k-test.false, ap length c.fields-fields.ensures.fields)) r)
