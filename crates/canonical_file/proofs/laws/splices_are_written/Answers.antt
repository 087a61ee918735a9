use Rattle.canonical_file.proofs.UsedSplices.{splice-written, splice-begun}
use Rattle.canonical_file.proofs.laws.splices_are_written.Goals as goal

pub returns-clause-whole : goal.returns-clause-whole
returns-clause-whole c = splice-written

pub returns-clause-begun : goal.returns-clause-begun
returns-clause-begun c = splice-begun
