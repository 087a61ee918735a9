use Rattle.canonical_laws.proofs.OpenHeads.{no_head, no_part_of_a_head, no_part_of_a_file}
use Rattle.canonical_laws.proofs.laws.no_canonical_head_is_whole.Goals as goal

pub returns-clause-heads : goal.returns-clause-heads
returns-clause-heads c = no_head

pub returns-clause-parts : goal.returns-clause-parts
returns-clause-parts c = no_part_of_a_head

pub returns-clause-files : goal.returns-clause-files
returns-clause-files c = no_part_of_a_file
