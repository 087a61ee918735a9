use Rattle.std.proofs.Common.{◌≡◌, ℕ, ◌+◌, ◌++◌, Vec, Global, refl, arith, length, drop, sym, ap, ◌∙◌, subst}
use Rattle.std.proofs.lemmas.List.{take_rest}
use Rattle.layout_plan.specs.Unlinked.{IsUnlinked}
use Rattle.layout_plan.proofs.ReachLemmas.{ArePlaces-fewer}
use Rattle.layout_plan.proofs.RewriteLemmas.{field-placed}
use Rattle.layout_plan.proofs.UnlinkedLemmas.{unlinked-none, unlinked-link, unlinked-other, unlinked-within}
use Rattle.layout_plan.proofs.UnlinkedLemmas.{unlinked-all}
use Rattle.layout_plan.proofs.unlinked.unlinked_in.Goals as goal
use Rattle.layout_plan.proofs.unlinked.unlinked_in.Goals.{then-is_link+in_ok-resize}
use Rattle.layout_plan.proofs.unlinked.unlinked_in.Goals.{else-is_link+in_ok-extend_from_slice}

pub loop-k-init : goal.loop-k-init
loop-k-init c =
    unlinked-none c.args.order c.args.plan.now c.args.body.now c.in_ok-bytes.bytes.items c.in_ok-bytes.ensures.items

pub place_by-here-requires-clause-places : goal.place_by-here-requires-clause-places
place_by-here-requires-clause-places c = (
  c.args.order,
  c.args.body.now,
  ArePlaces-fewer c.args.order c.args.plan.now c.args.body.now (length c.fields-fields.result.now) (c.loop-k.k + 1)
      c.walk_body.new.ends (omega (arith, c.loop-k-test.true)) c.walk_body.ensures,
  omega arith,
)

pub overflow_add-end : goal.overflow_add-end
overflow_add-end c =
    let at = field-placed c.args.order c.args.plan.now c.fields-fields.result.now c.args.body.now c.loop-k.k
    (length c.fields-fields.result.now) c.index-fields-k.result c.walk_body.new.ends c.place_by-here.result
    c.fields-fields.ensures.fields c.loop-k-test.true c.index-fields-k.is refl c.walk_body.ensures
    c.place_by-here.ensures in
    omega (arith, at.placed.within)

pub slice_bounds-extend_from_slice-end : goal.slice_bounds-extend_from_slice-end
slice_bounds-extend_from_slice-end c =
    let at = field-placed c.args.order c.args.plan.now c.fields-fields.result.now c.args.body.now c.loop-k.k
    (length c.fields-fields.result.now) c.index-fields-k.result c.walk_body.new.ends c.place_by-here.result
    c.fields-fields.ensures.fields c.loop-k-test.true c.index-fields-k.is refl c.walk_body.ensures
    c.place_by-here.ensures in
    omega (arith, at.placed.within)

pub loop-k-preserved : goal.loop-k-preserved
loop-k-preserved c =
    let p = c.place_by-here.result in
    let at = field-placed c.args.order c.args.plan.now c.fields-fields.result.now c.args.body.now c.loop-k.k
    (length c.fields-fields.result.now) c.index-fields-k.result c.walk_body.new.ends c.place_by-here.result
    c.fields-fields.ensures.fields c.loop-k-test.true c.index-fields-k.is refl c.walk_body.ensures
    c.place_by-here.ensures in
    elim c.if-is_link.branch [
      | then-is_link+in_ok-resize w ↦ unlinked-link c.args.order c.args.plan.now c.args.body.now c.loop-k.k _
          c.loop-k.bytes.items c.if-is_link.bytes.items c.index-fields-k.result p at c.requires.body
          (sym c.is_link.ensures ∙ w.if-is_link.true) (omega arith)
          (ap (λ (bytes : Vec ℕ Global). bytes.items) w.bytes-is ∙ w.in_ok-resize.ensures.items) c.loop-k.invariant
      | else-is_link+in_ok-extend_from_slice w ↦ unlinked-other c.args.order c.args.plan.now c.args.body.now c.loop-k.k
          c.loop-k.bytes.items c.if-is_link.bytes.items c.index-fields-k.result p at c.requires.body
          (sym c.is_link.ensures ∙ w.if-is_link.false)
          (ap (λ (bytes : Vec ℕ Global). bytes.items) w.bytes-is ∙ w.in_ok-extend_from_slice.ensures.items)
          c.loop-k.invariant
    ]

pub slice_bounds-extend_from_slice-count-2 : goal.slice_bounds-extend_from_slice-count-2
slice_bounds-extend_from_slice-count-2 c =
    omega (
      arith,
      unlinked-within c.args.order c.args.plan.now c.args.body.now c.loop-k.k c.loop-k.bytes.items c.requires.body
          c.loop-k.invariant,
      c.len-end.ensures,
    )

pub slice_bounds-extend_from_slice-start-2 : goal.slice_bounds-extend_from_slice-start-2
slice_bounds-extend_from_slice-start-2 c =
    omega (
      arith,
      unlinked-within c.args.order c.args.plan.now c.args.body.now c.loop-k.k c.loop-k.bytes.items c.requires.body
          c.loop-k.invariant,
      c.len-end.ensures,
    )

pub returns : goal.returns
returns c =
    let bytes = c.loop-k.bytes.items in
    let count : c.len-end.result ≡ length bytes = omega (arith, c.len-end.ensures) in
    let rest = take_rest c.args.body.now c.len-end.result ∙ ap (λ n. drop n c.args.body.now) count in
    subst (IsUnlinked c.args.order c.args.plan.now c.args.body.now)
    (sym (c.in_ok-extend_from_slice-2.ensures.items ∙ ap (λ rest. bytes ++ rest) rest))
    (unlinked-all c.args.order c.args.plan.now c.args.body.now c.loop-k.k bytes c.requires.body
    (omega (arith, c.loop-k-test.false, ap length c.fields-fields.ensures.fields)) c.loop-k.invariant)
