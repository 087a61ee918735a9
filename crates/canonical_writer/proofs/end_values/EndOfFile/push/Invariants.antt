use Rattle.layout_plan.specs.Appends.{Appends}
use Rattle.canonical_writer.proofs.EndBytes.{IsBodyBefore}
use Rattle.canonical_writer.proofs.end_values.EndOfFile.push.Given as goal

-- the fields so far
abbrev pub invariant-loop-k : goal.invariant-loop-k
invariant-loop-k l = Appends (IsBodyBefore l.told l.self l.fields l.k) l.fn.into.items l.into.items
