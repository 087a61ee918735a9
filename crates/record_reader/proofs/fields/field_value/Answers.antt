use Rattle.std.proofs.lemmas.Bool.{both_ways}
use Rattle.layout_plan.proofs.SpelledLemmas.{field_in-listed}
use Rattle.record_reader.proofs.fields.field_value.Goals as goal

pub returns : goal.returns
returns c =
    let field = c.args.field.now in
    let same = field_in-listed c.args.order c.args.earlier.now field.form field.counts c.args.cursor.now
    c.capped_count-count.result (λ none. both_ways c.is_empty.result c.if-is_empty.false (c.is_empty.ensures.1 none))
    (rw c.as_slice.ensures at (rw c.left.ensures.left at c.capped_count-count.ensures)) in
    rw same c.listed.ensures
