-- The records so far are alike.
use Rattle.canonical_writer.specs.Alike.{AreAlike}
use Rattle.canonical_writer.specs.Filled.{IsSource}
use Rattle.canonical_writer.proofs.SourceRows.{AreAlikeTo}
use Rattle.canonical_writer.proofs.comparing.Comparison.have_same_records.Given as goal

abbrev pub invariant-loop-k : goal.invariant-loop-k
invariant-loop-k l =
    (AreAlike l.initial.self.met l.first.dictionary.now l.second.dictionary.now
    → AreAlike l.self.met l.first.dictionary.now l.second.dictionary.now)
    × (IsSource l.first → IsSource l.second → AreAlike l.initial.self.met l.first.dictionary.now l.second.dictionary.now
    → AreAlikeTo l.first l.second l.self l.k)
