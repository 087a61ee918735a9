use Rattle.std.proofs.Common.{◌+◌, arith}
use Rattle.layout_plan.proofs.ReachLemmas.{ArePlaces-at}
use Rattle.layout_plan.proofs.LentLemmas.{placed, reached-forward}
use Rattle.layout_plan.proofs.lent.place_by.Goals as goal

pub place-start-requires-clause-room : goal.place-start-requires-clause-room
place-start-requires-clause-room c =
    (ArePlaces-at c.requires.places.0 c.args.plan.now c.requires.places.1 (c.args.k + 1) c.args.k c.args.ends.now
    c.mark.result 0 c.requires.places.2 (omega arith) c.mark.ensures.mark).room

pub place-start-requires-clause-below : goal.place-start-requires-clause-below
place-start-requires-clause-below c =
    let known = ArePlaces-at c.requires.places.0 c.args.plan.now c.requires.places.1 (c.args.k + 1) c.args.k
    c.args.ends.now c.mark.result 0 c.requires.places.2 (omega arith) c.mark.ensures.mark in
    omega (arith, known.below, c.requires.places.3)

pub place-requires-clause-below : goal.place-requires-clause-below
place-requires-clause-below c =
    let known = ArePlaces-at c.requires.places.0 c.args.plan.now c.requires.places.1 (c.args.k + 1) (c.args.k + 1)
    c.args.ends.now c.mark-2.result 0 c.requires.places.2 (omega arith) c.mark-2.ensures.mark in
    omega (arith, known.below, c.requires.places.3)

pub overflow_sub-result : goal.overflow_sub-result
overflow_sub-result c =
    let start = ArePlaces-at c.requires.places.0 c.args.plan.now c.requires.places.1 (c.args.k + 1) c.args.k
    c.args.ends.now c.mark.result c.place-start.result c.requires.places.2 (omega arith) c.mark.ensures.mark in
    let end = ArePlaces-at c.requires.places.0 c.args.plan.now c.requires.places.1 (c.args.k + 1) (c.args.k + 1)
    c.args.ends.now c.mark-2.result c.place.result c.requires.places.2 (omega arith) c.mark-2.ensures.mark in
    reached-forward c.requires.places.0 c.args.plan.now c.requires.places.1 c.args.k c.place-start.result c.place.result
    start.zero_texts end.zero_texts c.requires.field (start.here c.place-start.ensures) (end.here c.place.ensures)

pub returns : goal.returns
returns c = λ order body places.
    let start = ArePlaces-at order c.args.plan.now body (c.args.k + 1) c.args.k c.args.ends.now c.mark.result
    c.place-start.result places (omega arith) c.mark.ensures.mark in
    let end = ArePlaces-at order c.args.plan.now body (c.args.k + 1) (c.args.k + 1) c.args.ends.now c.mark-2.result
    c.place.result places (omega arith) c.mark-2.ensures.mark in
    placed order c.args.plan.now body c.args.k c.place-start.result c.place.result start.zero_texts end.zero_texts
    c.mark.ensures.layout.sound c.requires.field (start.here c.place-start.ensures) (end.here c.place.ensures)
