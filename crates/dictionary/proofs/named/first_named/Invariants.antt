use Rattle.std.proofs.Common.{◌≡◌, drop}
use Rattle.dictionary.specs.Named.{first_named}
use Rattle.dictionary.proofs.named.first_named.Given as goal

abbrev pub invariant-loop-i : goal.invariant-loop-i
invariant-loop-i l =
    first_named l.i (drop l.i l.elements) l.name ≡ first_named 0 l.elements l.name
