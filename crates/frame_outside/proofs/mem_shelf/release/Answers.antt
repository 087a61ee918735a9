-- One slot more is released.
use Rattle.std.proofs.Common.{◌≡◌, ◌<◌, ◌≤◌, ◌++◌, length, take, drop, map, sym, ap, ◌∙◌, add-one, arith}
use Rattle.std.proofs.lemmas.Grind.{common_steps}
use Rattle.std.proofs.lemmas.List.{length-map}
use Rattle.frame_outside.specs.MemSlot.{slot_of}
use Rattle.frame_outside.specs.Shelf.{slot_released}
use Rattle.frame_outside.proofs.Kept.{released_to-none, released_to-more, released_to-all}
use Rattle.frame_outside.proofs.mem_shelf.release.Goals as goal

pub loop-slot-init : goal.loop-slot-init
loop-slot-init c = ap (map slot_of) c.deref_mut-slot-items.ensures.value
    ∙ released_to-none c.args.name.now (map slot_of c.args.slots.now.items)

pub loop-slot-preserved : goal.loop-slot-preserved
loop-slot-preserved c =
    let within : c.loop-slot.slot-index < length c.loop-slot.slot-items =
    omega (arith, c.loop-slot-test.true, c.loop-slot.auto.slot-items) in
    rw add-one (released_to-more _ c.args.name.now c.loop-slot.slot-index c.loop-slot.slot-items _
    c.slot-item.result c.release.new.self within c.slot-item.is c.loop-slot.invariant
    (c.release.ensures ∙ ap (λ slot. slot_released c.args.name.now (slot_of slot)) (sym c.slot-item.is)))

pub returns-clause-slots : goal.returns-clause-slots
returns-clause-slots c =
    let size : length c.loop-slot.slot-items ≡ length c.args.slots.now.items =
    c.loop-slot.auto.slot-items ∙ ap length c.deref_mut-slot-items.ensures.value in
    let whole : take c.args.slots.now.len
    (c.loop-slot.slot-items ++ drop (length c.loop-slot.slot-items) c.args.slots.now.items)
    ≡ c.loop-slot.slot-items = grind (arith, common_steps) in
    let all : length (map slot_of c.args.slots.now.items) ≤ c.loop-slot.slot-index =
    rw length-map (omega (arith, c.loop-slot-test.false, size, c.loop-slot.auto.slot-items)) in
    ap (map slot_of) whole ∙ c.loop-slot.invariant
    ∙ released_to-all c.args.name.now c.loop-slot.slot-index (map slot_of c.args.slots.now.items) all
