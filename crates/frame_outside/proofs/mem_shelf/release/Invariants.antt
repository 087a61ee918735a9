-- The slots so far are released.
use Rattle.std.proofs.Common.{◌≡◌, map}
use Rattle.frame_outside.specs.MemSlot.{slot_of}
use Rattle.frame_outside.proofs.Kept.{released_to}
use Rattle.frame_outside.proofs.mem_shelf.release.Given as goal

abbrev pub invariant-loop-slot : goal.invariant-loop-slot
invariant-loop-slot l = map slot_of l.slot-items
    ≡ released_to l.name l.slot-index (map slot_of l.fn.slots.items)
