use Rattle.channel_extract.proofs.Sound.{no-faults}
use Rattle.channel_extract.proofs.Marks.{are_cut}
use Rattle.channel_extract.proofs.table_laws.no_record_has_a_fault.Goals as goal

pub returns-clause-clear : goal.returns-clause-clear
returns-clause-clear c = no-faults

pub returns-clause-ready : goal.returns-clause-ready
returns-clause-ready c = are_cut
