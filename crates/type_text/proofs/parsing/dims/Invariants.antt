use Rattle.std.proofs.Common.{◌≡◌, length}
use Rattle.type_text.specs.Tokens.{tokens}
use Rattle.type_text.specs.TypeText.{dims_of}
use Rattle.type_text.proofs.ParsingLemmas.{after_dims}
use Rattle.type_text.proofs.parsing.dims.Given as goal

abbrev pub invariant-loop-rest : goal.invariant-loop-rest
invariant-loop-rest l = after_dims l.dims (tokens l.rest) ≡ dims_of (tokens l.text)

abbrev pub decreases-loop-rest : goal.decreases-loop-rest
decreases-loop-rest l = length (tokens l.rest)
