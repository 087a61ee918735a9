use Rattle.channel_extract.proofs.OnePass.{one_pass, not_both, one_fault}
use Rattle.channel_extract.proofs.Rising.{places_rise}
use Rattle.channel_extract.proofs.table_laws.passes_are_unique.Goals as goal

pub returns-clause-one : goal.returns-clause-one
returns-clause-one c = one_pass

pub returns-clause-not_both : goal.returns-clause-not_both
returns-clause-not_both c = not_both

pub returns-clause-rise : goal.returns-clause-rise
returns-clause-rise c = places_rise

pub returns-clause-fault : goal.returns-clause-fault
returns-clause-fault c = one_fault
