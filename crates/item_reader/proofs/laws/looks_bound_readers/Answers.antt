-- The law of looks.
use Rattle.item_reader.proofs.Ahead.{looks-reach, no-further}
use Rattle.item_reader.proofs.laws.looks_bound_readers.Goals as goal

pub returns-clause-beyond : goal.returns-clause-beyond
returns-clause-beyond c = looks-reach

pub returns-clause-bounded : goal.returns-clause-bounded
returns-clause-bounded c = λ outside r reads none file told.
    no-further file r reads.stands.few (reads.read none file told)
