use Rattle.channel_extract.proofs.Agreement.{agree}
use Rattle.channel_extract.proofs.table_laws.table_and_reading_agree.Goals as goal

pub returns : goal.returns
returns c = agree
