-- The laws of dumps.
use Rattle.dumper.proofs.OneDump.{each-dump, one-dump}
use Rattle.dumper.proofs.laws.each_file_has_one_dump.Goals as goal

pub returns-clause-exists : goal.returns-clause-exists
returns-clause-exists c = each-dump

pub returns-clause-unique : goal.returns-clause-unique
returns-clause-unique c = one-dump
