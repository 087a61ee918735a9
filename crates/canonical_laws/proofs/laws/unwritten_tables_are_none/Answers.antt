use Rattle.canonical_laws.proofs.TableStates.{unwritten}
use Rattle.canonical_laws.proofs.laws.unwritten_tables_are_none.Goals as goal

pub returns : goal.returns
returns c = unwritten
