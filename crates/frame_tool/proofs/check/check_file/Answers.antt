-- The slot that was given is the only one that is drawn from, and it was opened on the file of the name.
use Rattle.std.proofs.Common.{Err, refl, ap, ◌∙◌}
use Rattle.frame_tool.proofs.Walking.{reads_one}
use Rattle.frame_tool.proofs.Checking.{file_of-opened}
use Rattle.frame_tool.proofs.check.check_file.Goals as goal

pub returns-in-Ok-clause-shelf : goal.returns-in-Ok-clause-shelf
returns-in-Ok-clause-shelf g c =
    reads_one _ _ _ _ _ _ c.in_ok-slot.ensures.ok refl c.read_contents.ensures.draws

pub returns-in-Err-Fault-clause-shelf : goal.returns-in-Err-Fault-clause-shelf
returns-in-Err-Fault-clause-shelf g c =
    reads_one _ _ _ _ _ _ c.in_ok-slot.ensures.ok refl c.read_contents.ensures.draws

pub returns-in-Err-Device-clause-shelf : goal.returns-in-Err-Device-clause-shelf
returns-in-Err-Device-clause-shelf g c =
    reads_one _ _ _ _ _ _ c.in_ok-slot.ensures.ok refl c.read_contents.ensures.draws

pub returns-in-Err-NoMemory-clause-shelf : goal.returns-in-Err-NoMemory-clause-shelf
returns-in-Err-NoMemory-clause-shelf g c =
    reads_one _ _ _ _ _ _ c.in_ok-slot.ensures.ok refl c.read_contents.ensures.draws

pub returns-in-Err-Fault-clause-finding : goal.returns-in-Err-Fault-clause-finding
returns-in-Err-Fault-clause-finding g c = λ files told file held.
    c.read_contents.ensures.fault c.in-Err-Fault.fault (c.in-Err-Fault.is ∙ ap Err c.in-Err-Fault.field-0-is) file
    (file_of-opened _ _ _ _ c.in_ok-slot.ensures.ok files file told held)

pub returns-in-Ok-clause-finding : goal.returns-in-Ok-clause-finding
returns-in-Ok-clause-finding g c = λ files told file held.
    c.in-Ok.ensures.contents file (file_of-opened _ _ _ _ c.in_ok-slot.ensures.ok files file told held)
