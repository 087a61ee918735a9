use Rattle.canonical_file.proofs.RenumberedChannels.{are-renumbered}
use Rattle.canonical_file.proofs.RenumberedTable.{table-renumbered}
use Rattle.canonical_file.proofs.laws.channels_are_renumbered.Goals as goal

pub returns-clause-channels : goal.returns-clause-channels
returns-clause-channels c = are-renumbered

pub returns-clause-tables : goal.returns-clause-tables
returns-clause-tables c = table-renumbered
