-- The slot that was given is the only one that is drawn from.
use Rattle.frame_tool.proofs.Walking.{reads_one}
use Rattle.frame_tool.proofs.walk.walk_file.Goals as goal

pub returns-in-Ok-walk-clause-shelf : goal.returns-in-Ok-walk-clause-shelf
returns-in-Ok-walk-clause-shelf g c = reads_one _ _ _ _ _ _ c.in_ok-slot.ensures.ok c.in-Ok.ensures c.walk.ensures.draws

pub returns-clause-shelf : goal.returns-clause-shelf
returns-clause-shelf g c = reads_one _ _ _ _ _ _ c.in_ok-slot.ensures.ok c.in-Ok.ensures c.walk.ensures.draws
