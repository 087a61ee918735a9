use Rattle.layout_plan.proofs.FaultLemmas.{faults-told}
use Rattle.layout_plan.proofs.laws.faults_are_told.Goals as goal

pub returns : goal.returns
returns c = faults-told
