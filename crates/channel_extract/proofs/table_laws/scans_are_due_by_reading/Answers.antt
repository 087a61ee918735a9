use Rattle.channel_extract.proofs.ScannedAnswers.{scans_due}
use Rattle.channel_extract.proofs.table_laws.scans_are_due_by_reading.Goals as goal

pub returns : goal.returns
returns c = scans_due
