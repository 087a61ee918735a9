-- No slot so far has the file.
use Rattle.std.proofs.Common.{◌≡◌, drop}
use Rattle.std.specs.List.{list_any}
use Rattle.frame_outside.specs.Opened.{is_file_of}
use Rattle.frame_outside.proofs.dir_shelf.opening.is_in_use.Given as goal

abbrev pub invariant-loop-slot : goal.invariant-loop-slot
invariant-loop-slot g l =
    list_any (is_file_of l.identity) (drop l.slot-index l.slots) ≡ list_any (is_file_of l.identity) l.slots
