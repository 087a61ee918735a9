use Rattle.std.proofs.Common.{◌+◌, ◌-◌, refl, arith, sym, subst, ap, ◌∙◌, length, drop}
use Rattle.std.proofs.lemmas.List.{take_rest}
use Rattle.scalar_types.specs.declared.Order.TheVariants.{Little}
use Rattle.layout_plan.specs.Marks.{place_of}
use Rattle.layout_plan.specs.Respelled.{SpellsFew, RespellsField, RespellsAfter}
use Rattle.layout_plan.proofs.ReachLemmas.{ArePlaces-at}
use Rattle.layout_plan.proofs.AppendLemmas.{Appends-none, Appends-more, Appends-as, Appends-refused}
use Rattle.layout_plan.proofs.RewriteLemmas.{sums-at, few-links, few-left, few-used}
use Rattle.layout_plan.proofs.PieceLemmas.{field-between, piece, pieces-none, pieces-alike, pieces-changed, pieces-end}
use Rattle.layout_plan.proofs.rewriting.push_pieces.Goals as goal

pub loop-k-init : goal.loop-k-init
loop-k-init c = record {
  forward = omega arith;
  here = refl;
  grown = Appends-none _ _ tt;
  pieces = pieces-none c.args.plan.now c.args.body.now c.args.links.now c.args.into.now.items c.requires.links;
}

pub place-end-requires-clause-room : goal.place-end-requires-clause-room
place-end-requires-clause-room c =
    (ArePlaces-at Little c.args.plan.now c.args.body.now (length c.fields-fields.result.now) (c.loop-k.k + 1)
    c.walk_body.new.ends c.mark.result 0 c.walk_body.ensures
    (omega (arith, c.loop-k-test.true)) c.mark.ensures.mark).room

pub place-end-requires-clause-below : goal.place-end-requires-clause-below
place-end-requires-clause-below c =
    let known = ArePlaces-at Little c.args.plan.now c.args.body.now (length c.fields-fields.result.now) (c.loop-k.k + 1)
    c.walk_body.new.ends c.mark.result 0 c.walk_body.ensures (omega (arith, c.loop-k-test.true)) c.mark.ensures.mark in
    omega (arith, known.below)

pub slice_bounds-bytes-count : goal.slice_bounds-bytes-count
slice_bounds-bytes-count c =
    let b = field-between c.args.plan.now c.fields-fields.result.now c.args.body.now c.loop-k.k
    c.index-fields-k.result c.walk_body.new.ends c.mark.result c.loop-k.at c.place-end.result
    c.fields-fields.ensures.layout c.fields-fields.ensures.fields c.loop-k-test.true c.index-fields-k.is
    c.walk_body.ensures c.loop-k.invariant.here c.mark.ensures.mark c.place-end.ensures in
    omega (arith, b.forward)

pub slice_bounds-bytes-start : goal.slice_bounds-bytes-start
slice_bounds-bytes-start c =
    let b = field-between c.args.plan.now c.fields-fields.result.now c.args.body.now c.loop-k.k
    c.index-fields-k.result c.walk_body.new.ends c.mark.result c.loop-k.at c.place-end.result
    c.fields-fields.ensures.layout c.fields-fields.ensures.fields c.loop-k-test.true c.index-fields-k.is
    c.walk_body.ensures c.loop-k.invariant.here c.mark.ensures.mark c.place-end.ensures in
    omega (arith, b.forward)

pub slice_bounds-bytes-end : goal.slice_bounds-bytes-end
slice_bounds-bytes-end c =
    let b = field-between c.args.plan.now c.fields-fields.result.now c.args.body.now c.loop-k.k
    c.index-fields-k.result c.walk_body.new.ends c.mark.result c.loop-k.at c.place-end.result
    c.fields-fields.ensures.layout c.fields-fields.ensures.fields c.loop-k-test.true c.index-fields-k.is
    c.walk_body.ensures c.loop-k.invariant.here c.mark.ensures.mark c.place-end.ensures in
    omega (arith, b.within)

pub loop-k-preserved-then-is_spelled_alike : goal.loop-k-preserved-then-is_spelled_alike
loop-k-preserved-then-is_spelled_alike c =
    let b = field-between c.args.plan.now c.fields-fields.result.now c.args.body.now c.loop-k.k
    c.index-fields-k.result c.walk_body.new.ends c.mark.result c.loop-k.at c.place-end.result
    c.fields-fields.ensures.layout c.fields-fields.ensures.fields c.loop-k-test.true c.index-fields-k.is
    c.walk_body.ensures c.loop-k.invariant.here c.mark.ensures.mark c.place-end.ensures in
    record {
      forward = omega (arith, c.loop-k.invariant.forward, b.forward);
      here = c.place-end.ensures ∙ ap (place_of c.walk_body.new.ends) c.mark.ensures.mark;
      grown = c.loop-k.invariant.grown;
      pieces = pieces-alike c.args.plan.now c.args.body.now c.args.links.now c.loop-k.k c.loop-k.next c.loop-k.from
          c.loop-k.at c.place-end.result _ c.loop-k.into.items c.index-fields-k.result c.fields-fields.ensures.layout
          b.placed c.loop-k.invariant.forward b.forward
          (c.is_spelled_alike.ensures c.if-is_spelled_alike.true (drop c.loop-k.next c.args.links.now))
          c.loop-k.invariant.pieces;
    }

pub slice_bounds-push_changed-end : goal.slice_bounds-push_changed-end
slice_bounds-push_changed-end c =
    let b = field-between c.args.plan.now c.fields-fields.result.now c.args.body.now c.loop-k.k
    c.index-fields-k.result c.walk_body.new.ends c.mark.result c.loop-k.at c.place-end.result
    c.fields-fields.ensures.layout c.fields-fields.ensures.fields c.loop-k-test.true c.index-fields-k.is
    c.walk_body.ensures c.loop-k.invariant.here c.mark.ensures.mark c.place-end.ensures in
    omega (arith, b.forward, b.within)

pub offset_bounds-links-next : goal.offset_bounds-links-next
offset_bounds-links-next c =
    let few = few-links Little c.args.plan.now c.args.body.now c.args.links.now c.loop-k.k c.loop-k.next
    c.loop-k.invariant.pieces.items c.requires.read c.requires.links c.loop-k.invariant.pieces.related in
    omega (arith, few.0, few.1)

pub slice_bounds-push_changed-count-in-loop-k : goal.slice_bounds-push_changed-count-in-loop-k
slice_bounds-push_changed-count-in-loop-k c =
    let few = few-links Little c.args.plan.now c.args.body.now c.args.links.now c.loop-k.k c.loop-k.next
    c.loop-k.invariant.pieces.items c.requires.read c.requires.links c.loop-k.invariant.pieces.related in
    few.0

pub slice_bounds-push_changed-start-in-loop-k : goal.slice_bounds-push_changed-start-in-loop-k
slice_bounds-push_changed-start-in-loop-k c =
    let few = few-links Little c.args.plan.now c.args.body.now c.args.links.now c.loop-k.k c.loop-k.next
    c.loop-k.invariant.pieces.items c.requires.read c.requires.links c.loop-k.invariant.pieces.related in
    omega (arith, few.0)

pub push_changed-requires-clause-sum : goal.push_changed-requires-clause-sum
push_changed-requires-clause-sum c =
    let b = field-between c.args.plan.now c.fields-fields.result.now c.args.body.now c.loop-k.k
    c.index-fields-k.result c.walk_body.new.ends c.mark.result c.loop-k.at c.place-end.result
    c.fields-fields.ensures.layout c.fields-fields.ensures.fields c.loop-k-test.true c.index-fields-k.is
    c.walk_body.ensures c.loop-k.invariant.here c.mark.ensures.mark c.place-end.ensures in
    sums-at c.args.plan.now c.loop-k.k c.index-fields-k.result c.fields-fields.ensures.layout.sums b.placed.is

pub is_spelled_alike-requires : goal.is_spelled_alike-requires
is_spelled_alike-requires c =
    let f = c.index-fields-k.result in
    let b = field-between c.args.plan.now c.fields-fields.result.now c.args.body.now c.loop-k.k
    c.index-fields-k.result c.walk_body.new.ends c.mark.result c.loop-k.at c.place-end.result
    c.fields-fields.ensures.layout c.fields-fields.ensures.fields c.loop-k-test.true c.index-fields-k.is
    c.walk_body.ensures c.loop-k.invariant.here c.mark.ensures.mark c.place-end.ensures in
    let left = few-left Little c.args.plan.now c.args.body.now c.args.links.now c.loop-k.k c.loop-k.next
    c.loop-k.invariant.pieces.items f (record { start = c.loop-k.at; length = c.place-end.result - c.loop-k.at })
    c.requires.read b.placed c.loop-k.invariant.pieces.related in
    (drop c.loop-k.next c.args.links.now, left)

pub push_changed-requires-clause-spelled : goal.push_changed-requires-clause-spelled
push_changed-requires-clause-spelled c =
    let f = c.index-fields-k.result in
    let b = field-between c.args.plan.now c.fields-fields.result.now c.args.body.now c.loop-k.k
    c.index-fields-k.result c.walk_body.new.ends c.mark.result c.loop-k.at c.place-end.result
    c.fields-fields.ensures.layout c.fields-fields.ensures.fields c.loop-k-test.true c.index-fields-k.is
    c.walk_body.ensures c.loop-k.invariant.here c.mark.ensures.mark c.place-end.ensures in
    let left = few-left Little c.args.plan.now c.args.body.now c.args.links.now c.loop-k.k c.loop-k.next
    c.loop-k.invariant.pieces.items f (record { start = c.loop-k.at; length = c.place-end.result - c.loop-k.at })
    c.requires.read b.placed c.loop-k.invariant.pieces.related in
    subst (λ links. SpellsFew Little f.form f.counts (piece c.args.body.now c.loop-k.at c.place-end.result) links)
    (sym (take_rest c.args.links.now c.loop-k.next)) left

pub returns-in_err-next : goal.returns-in_err-next
returns-in_err-next c =
    Appends-refused _ _ _ _ _ c.loop-k.into.items _ c.from_residual.ensures.0 c.loop-k.invariant.grown
    c.push_changed.ensures

pub overflow_add-next : goal.overflow_add-next
overflow_add-next c =
    let b = field-between c.args.plan.now c.fields-fields.result.now c.args.body.now c.loop-k.k
    c.index-fields-k.result c.walk_body.new.ends c.mark.result c.loop-k.at c.place-end.result
    c.fields-fields.ensures.layout c.fields-fields.ensures.fields c.loop-k-test.true c.index-fields-k.is
    c.walk_body.ensures c.loop-k.invariant.here c.mark.ensures.mark c.place-end.ensures in
    let few = few-links Little c.args.plan.now c.args.body.now c.args.links.now c.loop-k.k c.loop-k.next
    c.loop-k.invariant.pieces.items c.requires.read c.requires.links c.loop-k.invariant.pieces.related in
    let one = c.in_ok-next.ensures.related in
    let used = few-used Little c.args.plan.now c.args.body.now c.args.links.now c.loop-k.k c.loop-k.next
    c.in_ok-next.field-0 c.loop-k.invariant.pieces.items one.0 c.index-fields-k.result
    (record { start = c.loop-k.at; length = c.place-end.result - c.loop-k.at }) c.requires.read b.placed
    (subst (λ links. RespellsField Little c.index-fields-k.result
    (piece c.args.body.now c.loop-k.at c.place-end.result) links c.in_ok-next.field-0 one.0)
    (take_rest c.args.links.now c.loop-k.next) one.2) c.loop-k.invariant.pieces.related in
    omega (arith, used, few.1)

pub loop-k-preserved : goal.loop-k-preserved
loop-k-preserved c =
    let b = field-between c.args.plan.now c.fields-fields.result.now c.args.body.now c.loop-k.k
    c.index-fields-k.result c.walk_body.new.ends c.mark.result c.loop-k.at c.place-end.result
    c.fields-fields.ensures.layout c.fields-fields.ensures.fields c.loop-k-test.true c.index-fields-k.is
    c.walk_body.ensures c.loop-k.invariant.here c.mark.ensures.mark c.place-end.ensures in
    record {
      forward = omega arith;
      here = c.place-end.ensures ∙ ap (place_of c.walk_body.new.ends) c.mark.ensures.mark;
      grown = Appends-more _ _ _ _ c.loop-k.into.items _ c.loop-k.invariant.grown c.in_ok-next.ensures
          (λ xs ys r s. tt);
      pieces = pieces-changed c.args.plan.now c.args.body.now c.args.links.now c.loop-k.k c.loop-k.next
          c.in_ok-next.field-0 c.loop-k.from c.loop-k.at c.place-end.result _ c.loop-k.into.items _
          c.index-fields-k.result c.fields-fields.ensures.layout b.placed
          (Appends-as _ _ _ _ c.in_ok-next.ensures
          (λ xs r. subst (λ links. RespellsAfter (piece c.args.body.now c.loop-k.from c.loop-k.at)
          c.index-fields-k.result (piece c.args.body.now c.loop-k.at c.place-end.result) links
          c.in_ok-next.field-0 xs) (take_rest c.args.links.now c.loop-k.next) r)) c.loop-k.invariant.pieces;
    }

pub returns : goal.returns
returns c =
    pieces-end c.extend_from_slice.result c.args.plan.now c.args.body.now c.args.links.now c.loop-k.k c.loop-k.next
    c.loop-k.from c.loop-k.at _ c.loop-k.into.items _ c.extend_from_slice.ensures.items c.loop-k.invariant.grown
    c.fields-fields.ensures.layout (omega (arith, c.loop-k-test.false, ap length c.fields-fields.ensures.fields))
    c.loop-k.invariant.pieces
