use Rattle.canonical_laws.proofs.WholeFiles.{read_back}
use Rattle.canonical_laws.proofs.laws.written_files_are_read_back.Goals as goal

pub returns : goal.returns
returns c = read_back
