-- The bytes that `byteorder` writes are those of the number.
use Rattle.scalar_types.proofs.WrittenNumber.{written_big, written_little}
use Rattle.scalar_types.proofs.write_num.Goals as goal

pub returns-in-Big-clause-value : goal.returns-in-Big-clause-value
returns-in-Big-clause-value c =
    written_big c.args.order c.args.width c.args.n c.size.result _ c.args.into.now c.in-Big.is c.size.ensures
    c.write_uint.ensures

pub returns-in-Little-clause-value : goal.returns-in-Little-clause-value
returns-in-Little-clause-value c =
    written_little c.args.order c.args.width c.args.n c.size-in-Little.result _ c.args.into.now c.in-Little.is
    c.size-in-Little.ensures c.write_uint-in-Little.ensures
