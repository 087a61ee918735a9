use Rattle.canonical_laws.proofs.SplicedContents.{frames_somewhere, first_spliced, more_spliced}
use Rattle.canonical_laws.proofs.laws.files_can_be_spliced.Goals as goal

pub returns-clause-frames : goal.returns-clause-frames
returns-clause-frames c = frames_somewhere

pub returns-clause-first : goal.returns-clause-first
returns-clause-first c = first_spliced

pub returns-clause-more : goal.returns-clause-more
returns-clause-more c = more_spliced
