-- What is due of a splice is whole, or no part of it is, as `WholeOrRefused` proves.
use Rattle.splicer.proofs.WholeOrRefused.{no-part-whole, whole-read}
use Rattle.splicer.proofs.laws.splices_are_whole_or_refused.Goals as goal

pub returns : goal.returns
returns c = record { parts = no-part-whole; read = whole-read }
