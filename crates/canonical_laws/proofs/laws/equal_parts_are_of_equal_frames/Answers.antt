use Rattle.canonical_laws.proofs.EqualParts.{parts_tell}
use Rattle.canonical_laws.proofs.laws.equal_parts_are_of_equal_frames.Goals as goal

pub returns : goal.returns
returns c = parts_tell
