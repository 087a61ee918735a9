-- One of the open files was written to, and nothing of it is told.
use Rattle.std.proofs.Common.{arith, ap, ◌∙◌}
use Rattle.frame_outside.specs.Opened.{is_written}
use Rattle.frame_outside.specs.Shelf.{untold_slots}
use Rattle.frame_outside.proofs.Untold.{writes_untold, writes_part_untold, map-set-untold}
use Rattle.frame_outside.proofs.dir_shelf.DirShelfShelf.put.Goals as goal

pub returns-in-Ok-clause-ok : goal.returns-in-Ok-clause-ok
returns-in-Ok-clause-ok g c = writes_untold _ _ _ _ _ _ _ _ (omega arith)
    (map-set-untold is_written _ _ c.index_mut.result.now c.put.new.self c.index_mut.ensures.value
    (ap (λ seen. seen.is_written) c.put.ensures))

pub returns-in-Err-clause-part : goal.returns-in-Err-clause-part
returns-in-Err-clause-part g c = λ _. writes_part_untold _ _ _ _ _ _ _ _ _
    (omega (arith, c.fault.ensures.faults)) c.fault.ensures.taken
    (ap (λ slots. untold_slots is_written slots.items) c.fault.ensures.slots
    ∙ map-set-untold is_written _ _ c.index_mut.result.now c.put.new.self c.index_mut.ensures.value
    (ap (λ seen. seen.is_written) c.put.ensures))
