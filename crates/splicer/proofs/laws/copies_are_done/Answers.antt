-- Copies of well-formed files are due whole, as `OwnCopies` proves.
use Rattle.splicer.proofs.OwnCopies.{copies-done, copies-name-faults}
use Rattle.splicer.proofs.laws.copies_are_done.Goals as goal

pub returns : goal.returns
returns c = record { done = copies-done; faults = copies-name-faults }
