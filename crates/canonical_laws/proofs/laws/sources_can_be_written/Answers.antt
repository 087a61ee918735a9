use Rattle.canonical_laws.proofs.Sources.{source_entries, source_frames, source_relinked, source_closing}
use Rattle.canonical_laws.proofs.laws.sources_can_be_written.Goals as goal

pub returns-clause-entries : goal.returns-clause-entries
returns-clause-entries c = source_entries

pub returns-clause-frames : goal.returns-clause-frames
returns-clause-frames c = source_frames

pub returns-clause-closings : goal.returns-clause-closings
returns-clause-closings c = source_closing

pub returns-clause-relinked : goal.returns-clause-relinked
returns-clause-relinked c = source_relinked
