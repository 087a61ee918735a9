use Rattle.canonical_laws.proofs.SplicesInOrder.{splices_canonical}
use Rattle.canonical_laws.proofs.SplicedContents.{splices_keep, no_part_of_a_splice}
use Rattle.canonical_laws.proofs.laws.splices_keep_contents.Goals as goal

pub returns-clause-canonical : goal.returns-clause-canonical
returns-clause-canonical c = splices_canonical

pub returns-clause-keep : goal.returns-clause-keep
returns-clause-keep c = splices_keep

pub returns-clause-parts : goal.returns-clause-parts
returns-clause-parts c = no_part_of_a_splice
