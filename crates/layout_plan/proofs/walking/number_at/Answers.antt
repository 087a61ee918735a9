use Rattle.layout_plan.proofs.StepLemmas.{number-room, number_at-by}
use Rattle.layout_plan.proofs.walking.number_at.Goals as goal

pub number_by-requires : goal.number_by-requires
number_by-requires c =
    number-room c.args.field.now.form c.args.field.now.counts c.args.bytes.now c.single_width.result
    c.single_width.ensures c.requires

pub returns : goal.returns
returns c =
    number_at-by c.args.order c.args.field.now.form c.args.field.now.counts c.args.bytes.now c.single_width.result
    c.number_by.result c.single_width.ensures c.number_by.ensures
