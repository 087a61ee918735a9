-- The parts are put together, and read again.
use Rattle.std.proofs.Common.{◌∙◌, ap, arith}
use Rattle.scalar_types.specs.declared.Width.TheVariants.{Four, Eight}
use Rattle.scalar_types.specs.Number.{bytes_of}
use Rattle.scalar_types.proofs.NumberBytes.{bytes_of-length}
use Rattle.frame_head.proofs.CommonBytes.{common_of-written, put_together}
use Rattle.frame_head.proofs.structure.write_common.Goals as goal

pub returns-clause-value : goal.returns-clause-value
returns-clause-value c =
    let order = c.args.order in
    let common = c.args.common.now in
    put_together (bytes_of order Eight common.length)
    (bytes_of order Four common.instance) c.args.into.now _ _ common.check common.class
    (bytes_of-length order Eight common.length) (bytes_of-length order Four common.instance) c.told-into
    c.write_num.ensures.value c.write_num.ensures.rest
    (c.write_num-2.ensures.value ∙ ap (bytes_of order Four) c.into.ensures) c.write_num-2.ensures.rest

pub returns-clause-read : goal.returns-clause-read
returns-clause-read c =
    common_of-written c.args.order c.args.common.now _ (omega arith) (omega arith) (returns-clause-value c)
