use Rattle.canonical_laws.proofs.SplicedFrames.{together}
use Rattle.canonical_laws.proofs.laws.spliced_frames_are_written_together.Goals as goal

pub returns : goal.returns
returns c = together
