-- No slot so far writes the file under another name.
use Rattle.std.proofs.Common.{◌≡◌, drop}
use Rattle.std.specs.List.{list_any}
use Rattle.frame_outside.specs.Opened.{is_other_name_of}
use Rattle.frame_outside.proofs.dir_shelf.opening.is_written_as_another.Given as goal

abbrev pub invariant-loop-slot : goal.invariant-loop-slot
invariant-loop-slot g l =
    list_any (is_other_name_of l.identity l.name) (drop l.slot-index l.slots)
    ≡ list_any (is_other_name_of l.identity l.name) l.slots
