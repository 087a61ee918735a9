use Rattle.canonical_file.proofs.OneFile.{one_file, one_head}
use Rattle.canonical_file.proofs.laws.canonical_files_are_one.Goals as goal

pub returns-clause-files : goal.returns-clause-files
returns-clause-files c = one_file

pub returns-clause-heads : goal.returns-clause-heads
returns-clause-heads c = one_head
