-- What a copy writes is the canonical file of its source's content, as `Copies` proves.
use Rattle.splicer.proofs.Copies.{copies-canonical, copies-tell}
use Rattle.splicer.proofs.laws.copies_tell_contents.Goals as goal

pub returns : goal.returns
returns c = record { canonical = copies-canonical; tell = copies-tell }
