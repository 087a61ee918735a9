-- Nothing is copied where there is no memory for the buffer.
use Rattle.outside_trial.proofs.Pieces.{front_none}
use Rattle.outside_trial.proofs.copying.copy.Goals as goal

pub returns-in_default-clause-front : goal.returns-in_default-clause-front
returns-in_default-clause-front g c = front_none _ _ _
