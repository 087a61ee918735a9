use Rattle.std.proofs.Common.{◌*◌, arith}
use Rattle.scalar_types.specs.Number.{size_of}
use Rattle.dumper.proofs.SpanLemmas.{numbers-sized, pairs-sized, links-sized, texts-sized, texts-first}
use Rattle.dumper.proofs.SpanLemmas.{sized-span, sized-within}
use Rattle.dumper.proofs.spans.field_length.Goals as goal

pub overflow_mul-result : goal.overflow_mul-result
overflow_mul-result c =
    let f = c.args.field.now in
    let count = c.item_count-count.result in
    let size = numbers-sized c.args.order c.args.numbers.now f.form c.in-Number.width f.counts c.args.bytes.now count
    c.in-Number.is c.item_count-count.ensures in
    let fits = sized-within c.args.order c.args.numbers.now f.form f.counts c.args.bytes.now
    (count * size_of c.in-Number.width) size c.requires in
    rw c.size.ensures (omega (arith, fits))

pub overflow_mul-result-in-Pair-2 : goal.overflow_mul-result-in-Pair-2
overflow_mul-result-in-Pair-2 c =
    let f = c.args.field.now in
    let count = c.item_count-count.result in
    let size = pairs-sized c.args.order c.args.numbers.now f.form c.in-Pair.width f.counts c.args.bytes.now count
    c.in-Pair.is c.item_count-count.ensures in
    let fits = sized-within c.args.order c.args.numbers.now f.form f.counts c.args.bytes.now
    (count * (2 * size_of c.in-Pair.width)) size c.requires in
    rw c.size-in-Pair.ensures (omega (arith, fits))

pub overflow_mul-result-in-Link : goal.overflow_mul-result-in-Link
overflow_mul-result-in-Link c =
    let f = c.args.field.now in
    let count = c.item_count-count.result in
    let size = links-sized c.args.order c.args.numbers.now f.form f.counts c.args.bytes.now count c.in-Link.is
    c.item_count-count.ensures in
    let fits = sized-within c.args.order c.args.numbers.now f.form f.counts c.args.bytes.now (count * 6) size
    c.requires in
    omega (arith, fits)

pub texts_length-requires : goal.texts_length-requires
texts_length-requires c =
    let f = c.args.field.now in
    let texts = texts-first c.args.order c.args.numbers.now f.form f.counts c.args.bytes.now c.item_count-count.result
    c.requires.value c.requires.rest c.in-Text.is c.item_count-count.ensures
    c.requires.found in
    (texts.0, c.requires.rest, texts.1)

pub returns-in-Number : goal.returns-in-Number
returns-in-Number c =
    let f = c.args.field.now in
    let count = c.item_count-count.result in
    rw c.size.ensures
    (sized-span c.args.order c.args.numbers.now f.form f.counts c.args.bytes.now (count * size_of c.in-Number.width)
    (numbers-sized c.args.order c.args.numbers.now f.form c.in-Number.width f.counts c.args.bytes.now count
    c.in-Number.is c.item_count-count.ensures))

pub returns-in-Pair : goal.returns-in-Pair
returns-in-Pair c =
    let f = c.args.field.now in
    let count = c.item_count-count.result in
    rw c.size-in-Pair.ensures
    (sized-span c.args.order c.args.numbers.now f.form f.counts c.args.bytes.now (count * (2 * size_of c.in-Pair.width))
    (pairs-sized c.args.order c.args.numbers.now f.form c.in-Pair.width f.counts c.args.bytes.now count
    c.in-Pair.is c.item_count-count.ensures))

pub returns-in-Link : goal.returns-in-Link
returns-in-Link c =
    let f = c.args.field.now in
    let count = c.item_count-count.result in
    sized-span c.args.order c.args.numbers.now f.form f.counts c.args.bytes.now (count * 6)
    (links-sized c.args.order c.args.numbers.now f.form f.counts c.args.bytes.now count c.in-Link.is
    c.item_count-count.ensures)

pub returns-in-Text : goal.returns-in-Text
returns-in-Text c =
    let f = c.args.field.now in
    sized-span c.args.order c.args.numbers.now f.form f.counts c.args.bytes.now c.texts_length.result
    (texts-sized c.args.order c.args.numbers.now f.form f.counts c.args.bytes.now c.item_count-count.result
    c.texts_length.result c.in-Text.is c.item_count-count.ensures c.texts_length.ensures)
