use Rattle.std.proofs.Common.{arith, refl, sym, map}
use Rattle.std.proofs.lemmas.Bool.{iff_false}
use Rattle.contents_table.proofs.FirstNamed.{named-within}
use Rattle.contents_table.proofs.NamedLists.{named-list, named-other}
use Rattle.contents_table.proofs.fit.list_named.Goals as goal

pub overflow_cast-result : goal.overflow_cast-result
overflow_cast-result c =
    let element = c.in_ok-i.element.now in
    let within = named-within c.args.elements.now _ c.in_ok-i.i element (sym c.in_ok-i.ensures) in
    omega (arith, c.requires, within)

pub returns-then-has_type : goal.returns-then-has_type
returns-then-has_type c passes only =
    named-list c.args.elements.now c.args.name.now passes (map (λ dim. dim.now) c.args.dims.now) c.in_ok-i.i
    c.in_ok-i.element.now c.in_ok-i.ensures c.args.base.now only (c.if-has_type.ensures.0 refl)

pub returns-else-has_type : goal.returns-else-has_type
returns-else-has_type c passes only =
    named-other c.args.elements.now c.args.name.now passes (map (λ dim. dim.now) c.args.dims.now) c.in_ok-i.i
    c.in_ok-i.element.now c.in_ok-i.ensures c.args.base.now only (iff_false c.if-has_type.ensures refl)
