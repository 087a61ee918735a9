use Rattle.record_writer.proofs.FitLemmas.{body_fits}
use Rattle.record_writer.proofs.laws.read_values_fit.Goals as goal

pub returns : goal.returns
returns c = body_fits
