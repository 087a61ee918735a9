use Rattle.channel_extract.proofs.TableStates.{lying_bad}
use Rattle.channel_extract.proofs.table_laws.lying_tables_are_bad.Goals as goal

pub returns : goal.returns
returns c = lying_bad
