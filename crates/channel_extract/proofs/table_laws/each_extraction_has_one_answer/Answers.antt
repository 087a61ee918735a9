use Rattle.channel_extract.proofs.Answering.{one_answer, one_output}
use Rattle.channel_extract.proofs.table_laws.each_extraction_has_one_answer.Goals as goal

pub returns-clause-answer : goal.returns-clause-answer
returns-clause-answer c = one_answer

pub returns-clause-output : goal.returns-clause-output
returns-clause-output c = one_output
