-- A byte that is not printed as itself is written by its two digits.
use Rattle.std.proofs.Common.{◌<◌, false, sym, arith}
use Rattle.std.proofs.lemmas.Fmt.{hex_byte}
use Rattle.dumper.proofs.escapes.push_byte.Goals as goal

pub returns-else-is_plain : goal.returns-else-is_plain
returns-else-is_plain c =
    let small : c.args.byte < 256 = omega arith in
    rw (sym c.if-is_plain.ensures)
    (rw (c.laid_out.ensures, c.in_radix.ensures, hex_byte false c.args.byte small) at c.write.ensures.bytes)
