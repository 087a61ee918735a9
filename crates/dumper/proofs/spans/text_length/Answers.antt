use Rattle.std.proofs.Common.{arith}
use Rattle.layout_plan.proofs.RespelledLemmas.{text-room}
use Rattle.dumper.proofs.SpanLemmas.{text-span}
use Rattle.dumper.proofs.spans.text_length.Goals as goal

pub returns-clause-text : goal.returns-clause-text
returns-clause-text c = text-span c.args.order c.args.bytes.now c.read_num.result c.read_num.ensures.value

pub returns-clause-within : goal.returns-clause-within
returns-clause-within c =
    omega (arith, text-room c.args.order c.args.bytes.now c.read_num.result c.read_num.ensures.value c.requires)
