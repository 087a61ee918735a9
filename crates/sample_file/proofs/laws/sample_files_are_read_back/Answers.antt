use Rattle.sample_file.proofs.WholeFiles.{sample-back}
use Rattle.sample_file.proofs.laws.sample_files_are_read_back.Goals as goal

pub returns : goal.returns
returns c = sample-back
