use Rattle.channel_extract.proofs.Answering.{are_due, no_fault, may_come, fault_answered}
use Rattle.channel_extract.proofs.table_laws.answers_are_due.Goals as goal

pub returns-clause-due : goal.returns-clause-due
returns-clause-due c = are_due

pub returns-clause-no_fault : goal.returns-clause-no_fault
returns-clause-no_fault c = no_fault

pub returns-clause-come : goal.returns-clause-come
returns-clause-come c = may_come

pub returns-clause-fault : goal.returns-clause-fault
returns-clause-fault c = fault_answered
