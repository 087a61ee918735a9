-- A file has one verdict, as `OneVerdict` proves.
use Rattle.frame_tool.proofs.OneVerdict.{a_verdict, no_two_verdicts}
use Rattle.frame_tool.proofs.laws.each_file_has_one_verdict.Goals as goal

pub returns : goal.returns
returns c = record { exists = a_verdict; unique = no_two_verdicts }
