use Rattle.std.proofs.Common.{◌≡◌, map, take}
use Rattle.layout_plan.specs.Body.{number_of}
use Rattle.contents_table.specs.Told.{table_values}
use Rattle.contents_table.proofs.builder.TableBuilder.numbers.Given as goal

abbrev pub invariant-loop-k : goal.invariant-loop-k
invariant-loop-k l = l.numbers.items ≡ take l.k (map number_of (table_values l.layout l.plan l.self))
