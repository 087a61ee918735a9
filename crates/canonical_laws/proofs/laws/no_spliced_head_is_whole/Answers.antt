use Rattle.canonical_laws.proofs.SplicedFrames.{no_part_of_a_spliced_head, no_part_of_a_spliced_file}
use Rattle.canonical_laws.proofs.laws.no_spliced_head_is_whole.Goals as goal

pub returns-clause-heads : goal.returns-clause-heads
returns-clause-heads c = no_part_of_a_spliced_head

pub returns-clause-files : goal.returns-clause-files
returns-clause-files c = no_part_of_a_spliced_file
