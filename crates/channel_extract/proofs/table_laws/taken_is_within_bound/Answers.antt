use Rattle.channel_extract.proofs.Bound.{within_bound}
use Rattle.channel_extract.proofs.table_laws.taken_is_within_bound.Goals as goal

pub returns : goal.returns
returns c = within_bound
