use Rattle.std.proofs.Common.{rules}
use Rattle.layout_plan.proofs.AppendLemmas.{Appends-items}
use Rattle.layout_plan.proofs.RespelledLemmas.{number-written}
use Rattle.layout_plan.proofs.spelling.push_number.Goals as goal

pub returns : goal.returns
returns c = Appends-items _ _ _ _ _ c.extend_from_slice.ensures.items
    (number-written c.args.order c.args.width c.args.n c.size.result c.write_num.new.into c.size.ensures (search rules)
    c.requires c.write_num.ensures.value)
