-- Equal frames have equal cuts, as `EqualCuts` proves.
use Rattle.channel_extract.proofs.EqualCuts.{equal-cuts}
use Rattle.channel_extract.proofs.laws.equal_frames_have_equal_cuts.Goals as goal

pub returns : goal.returns
returns c = equal-cuts
