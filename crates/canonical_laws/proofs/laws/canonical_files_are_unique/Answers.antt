use Rattle.canonical_laws.proofs.TellingApart.{one_content, canonical_unique}
use Rattle.canonical_laws.proofs.laws.canonical_files_are_unique.Goals as goal

pub returns-clause-contents : goal.returns-clause-contents
returns-clause-contents c = one_content

pub returns-clause-files : goal.returns-clause-files
returns-clause-files c = canonical_unique
