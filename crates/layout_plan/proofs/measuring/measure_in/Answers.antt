use Rattle.layout_plan.proofs.WalkLemmas.{IsReached-ends}
use Rattle.layout_plan.proofs.WholeLemmas.{whole-body}
use Rattle.layout_plan.proofs.measuring.measure_in.Goals as goal

pub count_links-requires-clause-body : goal.count_links-requires-clause-body
count_links-requires-clause-body c =
    whole-body c.args.order c.args.plan.now c.args.body.now c.walk_whole.new.ends c.in-Ok.walked
    c.walk_whole.ensures.layout.sound c.in-Ok.ensures.told

pub returns : goal.returns
returns c =
    IsReached-ends c.args.order c.args.plan.now c.args.body.now c.in-Ok.walked.at c.in-Ok.walked.zero_texts
    c.count_links.result c.walk_whole.ensures.layout.sound
    c.in-Ok.ensures.told.reached c.count_links.ensures c.in-Ok.ensures.told.ended
