-- Of a comparison one answer is due, as `OneDue` proves.
use Rattle.content_compare.proofs.OneDue.{each-due, one-due}
use Rattle.content_compare.proofs.laws.each_comparison_has_one_due.Goals as goal

pub returns : goal.returns
returns c = record { exists = each-due; unique = one-due }
