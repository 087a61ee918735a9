-- Two beginnings of a file that go to a fault are one, as `OneAnswer` proves.
use Rattle.file_grammar.proofs.OneAnswer.{items_before_unique}
use Rattle.file_grammar.proofs.laws.items_before_faults_are_unique.Goals as goal

pub returns : goal.returns
returns c = items_before_unique
