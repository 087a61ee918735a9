use Rattle.channel_extract.proofs.PassedClosings.{passed_closing}
use Rattle.channel_extract.proofs.table_laws.passed_closings_are_writable.Goals as goal

pub returns : goal.returns
returns c = passed_closing
