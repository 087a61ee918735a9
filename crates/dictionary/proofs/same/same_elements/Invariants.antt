use Rattle.std.proofs.Common.{◌≡◌, drop}
use Rattle.std.specs.Cmp.Lexicographic.{pointwise}
use Rattle.dictionary.specs.Same.{same_element}
use Rattle.dictionary.proofs.same.same_elements.Given as goal

abbrev pub invariant-loop-i : goal.invariant-loop-i
invariant-loop-i l = pointwise same_element (drop l.i l.a) (drop l.i l.b) ≡ pointwise same_element l.a l.b
