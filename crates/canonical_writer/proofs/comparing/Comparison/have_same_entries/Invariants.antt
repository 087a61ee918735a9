-- The records so far are alike.
use Rattle.std.specs.Prelude.{ℕ, ◌<◌}
use Rattle.canonical_writer.specs.Alike.{AreAlike, RecordsAreAlike}
use Rattle.canonical_writer.specs.Filled.{IsSource, record_at}
use Rattle.canonical_writer.proofs.comparing.Comparison.have_same_entries.Given as goal

abbrev pub invariant-loop-node : goal.invariant-loop-node
invariant-loop-node l =
    (AreAlike l.initial.self.met l.first.dictionary.now l.second.dictionary.now
    → AreAlike l.self.met l.first.dictionary.now l.second.dictionary.now)
    × (IsSource l.first → IsSource l.second → AreAlike l.initial.self.met l.first.dictionary.now l.second.dictionary.now
    → (k : ℕ) → k < l.node-index → RecordsAreAlike (record_at l.first k) (record_at l.second k))
