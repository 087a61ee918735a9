use Rattle.layout_plan.proofs.UnlinkedLemmas.{plain-replaced}
use Rattle.layout_plan.proofs.unlinked.plain_link_start.Goals as goal

pub returns-clause-replaced : goal.returns-clause-replaced
returns-clause-replaced c =
    plain-replaced c.args.order c.args.plan.now c.args.body.now c.args.field c.place_of.result
    c.fields-fields.ensures.layout c.requires.link c.place_of.ensures
