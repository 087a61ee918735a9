use Rattle.canonical_laws.proofs.SplicedFrames.{spliced_back}
use Rattle.canonical_laws.proofs.laws.spliced_files_are_read_back.Goals as goal

pub returns : goal.returns
returns c = spliced_back
