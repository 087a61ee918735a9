use Rattle.channel_extract.proofs.PassedFiles.{are_passed}
use Rattle.channel_extract.proofs.table_laws.well_formed_files_are_passed.Goals as goal

pub returns : goal.returns
returns c = are_passed
