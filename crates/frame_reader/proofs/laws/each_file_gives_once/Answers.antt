-- The law of what files give.
use Rattle.frame_reader.proofs.FirstItems.{each-gives, given-once}
use Rattle.frame_reader.proofs.laws.each_file_gives_once.Goals as goal

pub returns-clause-exists : goal.returns-clause-exists
returns-clause-exists c = each-gives

pub returns-clause-unique : goal.returns-clause-unique
returns-clause-unique c = given-once
