use Rattle.std.proofs.Common.{arith, length}
use Rattle.layout_plan.proofs.MarkLemmas.{mark_of-few}
use Rattle.layout_plan.proofs.StepLemmas.{steps-all}
use Rattle.layout_plan.proofs.unlinked.without_links.Goals as goal

pub unlinked_in-requires-clause-room : goal.unlinked_in-requires-clause-room
unlinked_in-requires-clause-room c =
    omega (arith, steps-all c.args.plan.now c.steps-count.result.now c.steps-count.ensures.steps)

pub unlinked_in-requires-then-count-le-FEW_FIELDS-clause-room : goal.unlinked_in-requires-then-count-le-FEW_FIELDS-clause-room
unlinked_in-requires-then-count-le-FEW_FIELDS-clause-room c =
    omega (arith, steps-all c.args.plan.now c.steps-count.result.now c.steps-count.ensures.steps)

pub unlinked_in-requires-else-count-le-FEW_FIELDS-clause-room : goal.unlinked_in-requires-else-count-le-FEW_FIELDS-clause-room
unlinked_in-requires-else-count-le-FEW_FIELDS-clause-room c =
    omega (
      arith,
      mark_of-few c.args.plan.now (length c.args.plan.now) (omega arith),
      c.steps-count.ensures.layout.short,
    )
