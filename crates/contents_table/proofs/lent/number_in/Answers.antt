use Rattle.std.proofs.Common.{ap, sym, ◌∙◌, ◌*◌, take, arith}
use Rattle.std.proofs.lemmas.List.{take_rest, length-drop}
use Rattle.scalar_types.specs.Number.{number}
use Rattle.contents_table.proofs.ItemLemmas.{listed_number-at}
use Rattle.contents_table.proofs.lent.number_in.Goals as goal

pub overflow_mul-k : goal.overflow_mul-k
overflow_mul-k c =
    let at = listed_number-at c.args.order c.requires.0 c.args.numbers.now c.args.k c.requires.1 c.requires.2 in
    omega (arith, at.within)

pub slice_bounds-read_num-count : goal.slice_bounds-read_num-count
slice_bounds-read_num-count c =
    let at = listed_number-at c.args.order c.requires.0 c.args.numbers.now c.args.k c.requires.1 c.requires.2 in
    omega (arith, at.within)

pub read_num-requires : goal.read_num-requires
read_num-requires c =
    let at = listed_number-at c.args.order c.requires.0 c.args.numbers.now c.args.k c.requires.1 c.requires.2 in
    rw (take_rest c.args.numbers.now (c.args.k * 8), length-drop) (omega (arith, at.within))

pub returns : goal.returns
returns c = λ n are lt.
    c.read_num.ensures.value
    ∙ ap (λ bytes. number c.args.order (take 8 bytes)) (take_rest c.args.numbers.now (c.args.k * 8))
    ∙ sym (listed_number-at c.args.order n c.args.numbers.now c.args.k are lt).is

pub slice_bounds-read_num-start : goal.slice_bounds-read_num-start
slice_bounds-read_num-start c =
    let at = listed_number-at c.args.order c.requires.0 c.args.numbers.now c.args.k c.requires.1 c.requires.2 in
    omega (arith, at.within)
