-- The slots before are released, and one more writes the file.
use Rattle.std.proofs.Common.{◌≡◌, map, length, option_map, sym, ap, ◌∙◌, subst, rules}
use Rattle.std.proofs.lemmas.List.{length-map}
use Rattle.std.specs.BTreeMap.{get_by_text}
use Rattle.frame_outside.specs.MemSlot.{slot_of}
use Rattle.frame_outside.specs.Shelf.{without_slot}
use Rattle.frame_outside.specs.Written.{AreApart}
use Rattle.frame_outside.proofs.Kept.{given_slots}
use Rattle.frame_outside.proofs.Written.{apart-made}
use Rattle.frame_outside.proofs.MemCalls.{telling_makes, made_slot}
use Rattle.frame_outside.proofs.mem_shelf.MemShelfShelf.target.Goals as goal

pub invariant_of-self-in-Ok : goal.invariant_of-self-in-Ok
invariant_of-self-in-Ok c = record {
  some = c.args.self.now.some;
  apart = subst AreApart
      (sym (given_slots slot_of c.release.new.slots.items c.push_reserved.new.self.items _ _ _
      c.push_reserved.ensures.items
      (c.release.ensures.slots ∙ ap (λ slots. without_slot c.args.name.now (map slot_of slots))
      c.reserve.ensures.items)
      (made_slot _ _ c.args.name.now c.in-Ok-new.ensures.written c.in-Ok-new.ensures.name)))
      (apart-made c.args.name.now (map slot_of c.args.self.now.slots.items) c.args.self.now.apart);
}

pub returns-else-is_err-clause-ok : goal.returns-else-is_err-clause-ok
returns-else-is_err-clause-ok c =
    let number : c.in-Ok.slot ≡ length c.args.self.now.slots.items = search rules in
    telling_makes c.args.self.now.calls.faults c.count_one-fails.new.self.faults c.args.self.now.misses
    c.args.self.now.taken c.in-Ok.slot c.args.name.now (map slot_of c.args.self.now.slots.items) _
    (λ q. option_map (λ bytes. bytes.items) (get_by_text c.args.self.now.files q)) (search rules)
    (number ∙ sym (length-map _ slot_of))
    (given_slots slot_of c.release.new.slots.items c.push_reserved.new.self.items _ _ _
    c.push_reserved.ensures.items
    (c.release.ensures.slots ∙ ap (λ slots. without_slot c.args.name.now (map slot_of slots))
    c.reserve.ensures.items)
    (made_slot _ _ c.args.name.now c.in-Ok-new.ensures.written c.in-Ok-new.ensures.name))
