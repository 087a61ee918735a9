-- What no call changes of the slots is as it was.
use Rattle.std.proofs.Common.{◌≡◌, map}
use Rattle.frame_outside.specs.Opened.{seen_of}
use Rattle.frame_outside.proofs.dir_shelf.opening.give_back_ended.Given as goal

abbrev pub invariant-loop-slot : goal.invariant-loop-slot
invariant-loop-slot g l = map seen_of l.slot-items ≡ map seen_of l.fn.slots.items
