use Rattle.channel_extract.proofs.Answering.{answer_alike, write_alike}
use Rattle.channel_extract.proofs.table_laws.both_answer_alike.Goals as goal

pub returns-clause-answer : goal.returns-clause-answer
returns-clause-answer c = answer_alike

pub returns-clause-output : goal.returns-clause-output
returns-clause-output c = write_alike
