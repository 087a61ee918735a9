use Rattle.contents_table.proofs.SpanLemmas.{span-field}
use Rattle.contents_table.proofs.lent.bytes_of.Goals as goal

pub returns : goal.returns
returns c =
    span-field c.args.order c.args.plan.now c.args.body.now c.args.field _ _ c.span_of-from.ensures.begins
    c.span_of-from.ensures.ends c.span_of-from.ensures.forward c.span_of-from.ensures.within
