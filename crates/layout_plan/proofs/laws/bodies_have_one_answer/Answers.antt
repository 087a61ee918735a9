use Rattle.layout_plan.proofs.BodyLemmas.{fault-or-body, bodies-unique}
use Rattle.layout_plan.proofs.laws.bodies_have_one_answer.Goals as goal

pub returns-clause-fault_or_body : goal.returns-clause-fault_or_body
returns-clause-fault_or_body c = fault-or-body

pub returns-clause-unique : goal.returns-clause-unique
returns-clause-unique c = bodies-unique
