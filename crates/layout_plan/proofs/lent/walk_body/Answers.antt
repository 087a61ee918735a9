use Rattle.std.proofs.Common.{subst}
use Rattle.layout_plan.specs.Walking.{TellsReached}
use Rattle.layout_plan.proofs.LentLemmas.{reached-found}
use Rattle.layout_plan.proofs.lent.walk_body.Goals as goal

pub unwrap-walked-requires : goal.unwrap-walked-requires
unwrap-walked-requires c =
    reached-found c.args.order c.args.plan.now c.args.body.now c.args.k c.args.k c.walk.new.ends c.walk.result
    c.fields-count.ensures.layout.sound c.requires.body c.walk.ensures

pub returns : goal.returns
returns c =
    (subst (TellsReached c.args.order c.args.plan.now c.args.body.now c.args.k c.args.k c.walk.new.ends)
    c.unwrap-walked.ensures c.walk.ensures).1
