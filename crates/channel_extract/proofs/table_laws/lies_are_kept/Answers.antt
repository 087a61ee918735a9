use Rattle.channel_extract.proofs.Lies.{kept, named, has_none}
use Rattle.channel_extract.proofs.table_laws.lies_are_kept.Goals as goal

pub returns-clause-kept : goal.returns-clause-kept
returns-clause-kept c = kept

pub returns-clause-named : goal.returns-clause-named
returns-clause-named c = named

pub returns-clause-none : goal.returns-clause-none
returns-clause-none c = has_none
