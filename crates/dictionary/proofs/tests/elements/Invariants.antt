use Rattle.dictionary.specs.Same.{AreRead}
use Rattle.dictionary.proofs.tests.elements.Given as goal

abbrev pub invariant-loop : goal.invariant-loop
invariant-loop l = AreRead l.elements
