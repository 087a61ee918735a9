-- One of the open files has moved, and nothing of it is told.
use Rattle.std.proofs.Common.{arith, ap, ◌∙◌}
use Rattle.frame_outside.specs.Opened.{is_written}
use Rattle.frame_outside.specs.Shelf.{untold_slots}
use Rattle.frame_outside.proofs.Untold.{passes_untold, refuses_untold, gives_untold, map-set-untold}
use Rattle.frame_outside.proofs.dir_shelf.DirShelfShelf.take.Goals as goal

pub returns-in-Ok-clause-passes : goal.returns-in-Ok-clause-passes
returns-in-Ok-clause-passes g c = passes_untold _ _ _ _ _ _ _ _ _ (omega (arith, c.hand_out.ensures.faults))
    c.hand_out.ensures.taken
    (ap (λ slots. untold_slots is_written slots.items) c.hand_out.ensures.slots
    ∙ map-set-untold is_written _ _ c.index_mut.result.now c.take.new.self c.index_mut.ensures.value
    (ap (λ seen. seen.is_written) c.take.ensures.kept))

pub returns-in-Ok-clause-gives : goal.returns-in-Ok-clause-gives
returns-in-Ok-clause-gives g c = gives_untold _ _ _ _ _ _ _

pub returns-in-Err-clause-refused : goal.returns-in-Err-clause-refused
returns-in-Err-clause-refused g c = refuses_untold _ _ _ _ _ _ _ _ (omega (arith, c.fault.ensures.faults))
    c.fault.ensures.taken
    (ap (λ slots. untold_slots is_written slots.items) c.fault.ensures.slots
    ∙ map-set-untold is_written _ _ c.index_mut.result.now c.take.new.self c.index_mut.ensures.value
    (ap (λ seen. seen.is_written) c.take.ensures.kept))
