use Rattle.record_values.specs.Spelling.{IsClosedText}
use Rattle.layout_plan.specs.Body.{IsListedBy}
use Rattle.layout_plan.proofs.AppendLemmas.{Appends-items}
use Rattle.record_writer.proofs.ClosedLemmas.{bytes_listed}
use Rattle.record_writer.proofs.spelling.push_list.Goals as goal

pub returns-in-Number-Bytes : goal.returns-in-Number-Bytes
returns-in-Number-Bytes c = λ n h.
    Appends-items (IsListedBy (IsClosedText c.args.order) c.args.order c.args.form n c.args.value.now)
    c.extend_from_slice.result c.bytes.result.now c.args.into.now.items _ c.extend_from_slice.ensures.items
    (bytes_listed c.args.order c.args.form c.in-Number-Bytes.field-0-0 n c.args.value.now c.in-Number-Bytes.bytes
    c.bytes.result.now c.in-Number-Bytes.is-0 c.in-Number-Bytes.is-1 c.bytes.ensures h)
