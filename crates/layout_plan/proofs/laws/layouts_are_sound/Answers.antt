use Rattle.layout_plan.proofs.LayoutLemmas.{layout_of-sound}
use Rattle.layout_plan.proofs.laws.layouts_are_sound.Goals as goal

pub returns : goal.returns
returns c = layout_of-sound
