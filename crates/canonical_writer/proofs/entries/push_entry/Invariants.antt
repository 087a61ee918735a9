use Rattle.layout_plan.specs.Appends.{Appends}
use Rattle.canonical_writer.proofs.EntryBytes.{IsEntryBefore}
use Rattle.canonical_writer.proofs.entries.push_entry.Given as goal

-- what is left of the elements makes it the entry
abbrev pub invariant-loop-k : goal.invariant-loop-k
invariant-loop-k l = Appends (IsEntryBefore l.number l.entry l.k) l.fn.into.items l.into.items
