-- The commands agree, as `Joined`, `Places` and `OnePlace` prove.
use Rattle.frame_tool.proofs.Joined.{accepted_sound, both_name, no_others}
use Rattle.frame_tool.proofs.Places.{not_earlier}
use Rattle.frame_tool.proofs.OnePlace.{one_reason}
use Rattle.frame_tool.proofs.laws.walk_and_check_agree.Goals as goal

pub returns : goal.returns
returns c = record {
  sound = accepted_sound;
  faults = both_name;
  reasons = no_others;
  places = not_earlier;
  one_place = one_reason;
}
