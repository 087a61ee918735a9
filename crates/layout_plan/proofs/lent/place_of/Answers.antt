use Rattle.std.proofs.Common.{◌+◌, arith}
use Rattle.layout_plan.proofs.MarkLemmas.{mark_of-few}
use Rattle.layout_plan.proofs.lent.place_of.Goals as goal

pub place_in-requires-else-count-le-FEW_FIELDS-clause-room :
    goal.place_in-requires-else-count-le-FEW_FIELDS-clause-room
place_in-requires-else-count-le-FEW_FIELDS-clause-room c =
    omega (
      arith,
      mark_of-few c.args.plan.now (c.args.field + 1) (omega arith),
      c.mark-count.ensures.layout.short,
      c.requires.field,
    )
