-- Copies tell what their sources hold, as `Copying` proves.
use Rattle.content_compare.proofs.OneDue.{tells}
use Rattle.frame_tool.proofs.Copying.{copies_tell, copies_are_done, copies_name_faults}
use Rattle.frame_tool.proofs.laws.copies_tell_contents.Goals as goal

pub returns : goal.returns
returns c = record { tell = copies_tell tells; done = copies_are_done; faults = copies_name_faults }
