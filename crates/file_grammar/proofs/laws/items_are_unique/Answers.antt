-- The items of a file are one list, and no prefix is well-formed, as `Prefixes` proves.
use Rattle.file_grammar.proofs.Prefixes.{items_unique, no_prefix}
use Rattle.file_grammar.proofs.laws.items_are_unique.Goals as goal

pub returns : goal.returns
returns c = record { unique = items_unique; prefixes = no_prefix }
