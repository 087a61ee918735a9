-- A file has one answer, as `OneAnswer` proves.
use Rattle.file_grammar.proofs.OneAnswer.{each_judged, not_both, faults_unique}
use Rattle.file_grammar.proofs.laws.files_are_judged_once.Goals as goal

pub returns : goal.returns
returns c = record { judged = each_judged; apart = not_both; unique = faults_unique }
