-- One slot more is seen as before.
use Rattle.std.proofs.Common.{◌≡◌, ◌++◌, length, take, drop, map, sym, ap, ◌∙◌, arith}
use Rattle.std.proofs.lemmas.Grind.{common_steps}
use Rattle.frame_outside.specs.Opened.{seen_of}
use Rattle.frame_outside.proofs.Giving.{seen_given_back}
use Rattle.frame_outside.proofs.Kept.{map-set-same}
use Rattle.frame_outside.proofs.dir_shelf.opening.give_back_ended.Goals as goal

pub loop-slot-init : goal.loop-slot-init
loop-slot-init g c = ap (map seen_of) c.deref_mut-slot-items.ensures.value

pub loop-slot-preserved : goal.loop-slot-preserved
loop-slot-preserved g c =
    map-set-same seen_of c.loop-slot.slot-items c.loop-slot.slot-index c.slot-item.result
    c.give_back-any.new.self
    c.slot-item.is (ap seen_of c.give_back-any.ensures.after ∙ seen_given_back _
    ∙ ap seen_of (sym c.slot-item.is))
    ∙ c.loop-slot.invariant

pub returns-clause-kept : goal.returns-clause-kept
returns-clause-kept g c =
    let size : length c.loop-slot.slot-items ≡ length c.args.slots.now.items =
    c.loop-slot.auto.slot-items ∙ ap length c.deref_mut-slot-items.ensures.value in
    let whole : take c.args.slots.now.len
    (c.loop-slot.slot-items ++ drop (length c.loop-slot.slot-items) c.args.slots.now.items)
    ≡ c.loop-slot.slot-items = grind (arith, common_steps) in
    ap (map seen_of) whole ∙ c.loop-slot.invariant
