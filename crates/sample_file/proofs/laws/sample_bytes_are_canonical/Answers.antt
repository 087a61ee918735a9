use Rattle.sample_file.proofs.InOrder.{sample-canonical}
use Rattle.sample_file.proofs.laws.sample_bytes_are_canonical.Goals as goal

pub returns : goal.returns
returns c = sample-canonical
