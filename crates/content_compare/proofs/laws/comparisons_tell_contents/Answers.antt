-- It is due that files are the same exactly where their contents are, as `OneDue` proves.
use Rattle.content_compare.proofs.OneDue.{tells}
use Rattle.content_compare.proofs.laws.comparisons_tell_contents.Goals as goal

pub returns : goal.returns
returns c = tells
