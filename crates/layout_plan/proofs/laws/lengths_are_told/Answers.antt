use Rattle.layout_plan.proofs.LengthLemmas.{body-length}
use Rattle.layout_plan.proofs.laws.lengths_are_told.Goals as goal

pub returns : goal.returns
returns c = body-length
