use Rattle.std.proofs.Common.{sym, arith}
use Rattle.contents_table.proofs.FirstNamed.{named-within}
use Rattle.contents_table.proofs.layouts.next_field.Goals as goal

pub overflow_cast-result : goal.overflow_cast-result
overflow_cast-result c =
    omega (
      arith,
      c.requires,
      named-within c.args.elements.now _ c.in_ok-i.i c.in_ok-i.element.now
          (sym c.in_ok-i.ensures),
    )
