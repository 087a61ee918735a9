use Rattle.std.proofs.Common.{arith, sym}
use Rattle.contents_table.proofs.FirstNamed.{named-within}
use Rattle.contents_table.proofs.fit.count_named.Goals as goal

pub overflow_cast-result : goal.overflow_cast-result
overflow_cast-result c =
    let element = c.in_ok-i.element.now in
    let within = named-within c.args.elements.now _ c.in_ok-i.i element (sym c.in_ok-i.ensures) in
    omega (arith, c.requires, within)
