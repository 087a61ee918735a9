use Rattle.std.proofs.Common.{◌≡◌, take}
use Rattle.std.specs.Prelude.{map}
use Rattle.sample_file.specs.Entries.{element}
use Rattle.sample_file.proofs.entries.elements.Given as goal

abbrev pub invariant-loop-name : goal.invariant-loop-name
invariant-loop-name l = l.list ≡ map (λ row. element row.0.now row.1.now) (take l.name-index l.table)
