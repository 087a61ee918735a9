use Rattle.std.proofs.Common.{◌≡◌, ◌*◌, ap, ◌∙◌, arith}
use Rattle.layout_plan.specs.Body.{item_count}
use Rattle.contents_table.proofs.Blanks.{appends_zeros, appends_texts}
use Rattle.contents_table.proofs.spelling.push_blank.Goals as goal

pub returns-in-Text : goal.returns-in-Text
returns-in-Text c =
    let same = ap (item_count c.args.numbers.now) c.as_slice.ensures in
    let all : c.capped_count-count.result ≡ item_count c.args.numbers.now c.args.field.now.counts =
    omega (arith, same, c.capped_count-count.ensures) in
    appends_texts c.push_empty_texts.result c.args.numbers.now c.args.field.now.form c.args.field.now.counts
    c.capped_count-count.result c.args.into.now.items c.push_empty_texts.new.into.items c.in-Text.is all
    c.push_empty_texts.ensures

pub returns-in_default : goal.returns-in_default
returns-in_default c =
    let same = ap (item_count c.args.numbers.now) c.as_slice.ensures in
    let all : c.capped_count-count.result ≡ item_count c.args.numbers.now c.args.field.now.counts =
    omega (arith, same, c.capped_count-count.ensures) in
    appends_zeros c.push_zeros.result c.args.numbers.now c.args.field.now.form c.args.field.now.counts
    (c.capped_count-count.result * c.item_size.result) c.args.into.now.items c.push_zeros.new.into.items
    c.in_default.not-Text (ap (λ n. n * c.item_size.result) all
    ∙ ap (λ s. item_count c.args.numbers.now c.args.field.now.counts * s) c.item_size.ensures)
    c.push_zeros.ensures
