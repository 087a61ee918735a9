use Rattle.std.proofs.Common.{◌-◌, arith}
use Rattle.layout_plan.proofs.LinkLemmas.{link-places-whole}
use Rattle.layout_plan.proofs.WholeLemmas.{whole-body, whole-put}
use Rattle.layout_plan.proofs.measuring.measure_links_in.Goals as goal

pub push_found-requires-clause-body : goal.push_found-requires-clause-body
push_found-requires-clause-body c =
    whole-body c.args.order c.args.plan.now c.args.body.now c.walk_whole.new.ends c.in-Ok.walked
    c.walk_whole.ensures.layout.sound c.in-Ok.ensures.told

pub push_found-requires-clause-places : goal.push_found-requires-clause-places
push_found-requires-clause-places c =
    link-places-whole c.args.order c.args.plan.now c.args.body.now c.walk_whole.new.ends c.in-Ok.ensures.told.places

pub returns : goal.returns
returns c =
    whole-put c.args.order c.args.plan.now c.args.body.now c.walk_whole.new.ends c.in-Ok.walked c.push_found.result
    c.args.into.now.items c.push_found.new.into.items (c.len.result - c.len-start.result)
    c.walk_whole.ensures.layout.sound c.in-Ok.ensures.told c.if-is_err.ensures.value
    (omega (arith, c.len.ensures, c.len-start.ensures)) c.push_found.ensures
