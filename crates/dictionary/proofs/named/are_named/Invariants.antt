use Rattle.std.proofs.Common.{◌≡◌, map, take}
use Rattle.type_text.specs.declared.types.Dim.TheVariants.{Named}
use Rattle.dictionary.proofs.named.are_named.Given as goal

abbrev pub invariant-loop-i : goal.invariant-loop-i
invariant-loop-i l = take l.i l.dims ≡ map (λ name. Named name.now) (take l.i l.names)
