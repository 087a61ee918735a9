use Rattle.canonical_laws.proofs.GoodTables.{good_tables}
use Rattle.canonical_laws.proofs.laws.canonical_tables_are_good.Goals as goal

pub returns : goal.returns
returns c = good_tables
