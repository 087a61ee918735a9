use Rattle.std.proofs.Common.{◌≡◌}
use Rattle.type_text.proofs.LengthLemmas.{length_with}
use Rattle.type_text.proofs.lengths.printed_fits.Given as goal

abbrev pub invariant-loop-dim : goal.invariant-loop-dim
invariant-loop-dim l = l.length ≡ length_with l.ty l.dim-index
