-- A structure of which its head tells a fault.
use Rattle.std.proofs.Common.{inl, ap, Err}
use Rattle.item_reader.proofs.cursor.Cursor.pass_over.Goals as goal

pub returns-in-Err-clause-fault : goal.returns-in-Err-clause-fault
returns-in-Err-clause-fault g c = λ other is reading told.
    inl (c.in-Err.ensures.cut other (ap Err is) reading told)
