use Rattle.channel_extract.proofs.TableStates.{as_judged}
use Rattle.channel_extract.proofs.table_laws.tables_are_as_judged.Goals as goal

pub returns : goal.returns
returns c = as_judged
