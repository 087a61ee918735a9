use Rattle.canonical_file.proofs.Sizes.{head-size, file-size, stands-in_frame}
use Rattle.canonical_file.proofs.laws.sizes_are_told.Goals as goal

pub returns-clause-heads : goal.returns-clause-heads
returns-clause-heads c = head-size

pub returns-clause-files : goal.returns-clause-files
returns-clause-files c = file-size

pub returns-clause-places : goal.returns-clause-places
returns-clause-places c = stands-in_frame
