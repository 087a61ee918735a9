use Rattle.sample_file.specs.Drafts.{Holds, drafts_before}
use Rattle.sample_file.specs.Lent.{IsSampleRoom}
use Rattle.sample_file.proofs.frames.SampleFrame.fill.Given as goal

abbrev pub invariant-loop-j : goal.invariant-loop-j
invariant-loop-j l = record { room : IsSampleRoom l.self; held : Holds (drafts_before l.k l.j) l.self.segment }
