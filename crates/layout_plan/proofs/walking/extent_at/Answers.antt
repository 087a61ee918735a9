use Rattle.std.proofs.Common.{arith}
use Rattle.std.proofs.lemmas.List.{take_rest}
use Rattle.layout_plan.proofs.walking.extent_at.Goals as goal

pub place-start-requires-clause-below : goal.place-start-requires-clause-below
place-start-requires-clause-below c = omega (arith, c.requires.within)

pub slice_bounds-number_by-count : goal.slice_bounds-number_by-count
slice_bounds-number_by-count c = omega (arith, c.requires.within, c.place-start.ensures)

pub slice_bounds-number_by-start : goal.slice_bounds-number_by-start
slice_bounds-number_by-start c = omega (arith, c.requires.within, c.place-start.ensures)

pub number_by-n-requires : goal.number_by-n-requires
number_by-n-requires c =
    rw (take_rest c.args.body.now c.place-start.result, c.place-start.ensures) c.requires.whole
