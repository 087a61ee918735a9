use Rattle.layout_plan.proofs.LinkLemmas.{link-place-room}
use Rattle.layout_plan.proofs.links.link_start.Goals as goal

pub returns-clause-within : goal.returns-clause-within
returns-clause-within c =
    link-place-room c.args.order c.args.plan.now c.args.body.now c.args.k c.link_place.result c.requires c.link_place.ensures.placed
