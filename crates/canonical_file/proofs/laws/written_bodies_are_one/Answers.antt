use Rattle.canonical_file.proofs.Spelled.{written-is, body-written}
use Rattle.canonical_file.proofs.laws.written_bodies_are_one.Goals as goal

pub returns-clause-only : goal.returns-clause-only
returns-clause-only c = written-is

pub returns-clause-written : goal.returns-clause-written
returns-clause-written c = body-written
