use Rattle.std.proofs.Common.{arith}
use Rattle.layout_plan.proofs.SpelledLemmas.{text_in-unended, text_in-closed}
use Rattle.layout_plan.proofs.spelled.text_length.Goals as goal

pub returns-then-bytes-length-ne0 : goal.returns-then-bytes-length-ne0
returns-then-bytes-length-ne0 c =
    text_in-unended c.args.order c.args.bytes.now c.read_num-length.result c.read_num-length.ensures.value
    (omega (arith, c.if-length-eq0.false)) (omega arith) c.if-bytes-length-ne0.true

pub returns : goal.returns
returns c =
    text_in-closed c.args.order c.args.bytes.now c.read_num-length.result c.read_num-length.ensures.value
    (omega (arith, c.if-length-eq0.false)) (omega arith) c.if-bytes-length-ne0.false
