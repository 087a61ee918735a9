use Rattle.std.proofs.Common.{◌≡◌, drop}
use Rattle.type_text.specs.Tokens.{tokens}
use Rattle.type_text.proofs.scanning.skip_blanks.Given as goal

abbrev pub invariant-loop-i : goal.invariant-loop-i
invariant-loop-i l = tokens (drop l.i l.text) ≡ tokens l.text
