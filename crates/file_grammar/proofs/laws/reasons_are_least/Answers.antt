-- The reason named is the least, as `Least` proves, and no item stands at a fault, as `OneAnswer` does.
use Rattle.file_grammar.proofs.Least.{least}
use Rattle.file_grammar.proofs.OneAnswer.{no_item_at_fault}
use Rattle.file_grammar.proofs.laws.reasons_are_least.Goals as goal

pub returns : goal.returns
returns c = record { least = least; longest = no_item_at_fault }
