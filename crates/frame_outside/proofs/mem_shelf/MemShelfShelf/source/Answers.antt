-- One slot more is at the beginning of what the file holds.
use Rattle.std.proofs.Common.{◌≡◌, map, length, option_map, refl, sym, ◌∙◌, rules}
use Rattle.std.proofs.lemmas.List.{length-map}
use Rattle.std.specs.BTreeMap.{get_by_text}
use Rattle.frame_outside.specs.MemSlot.{slot_of}
use Rattle.frame_outside.proofs.Kept.{given_slots}
use Rattle.frame_outside.proofs.Written.{apart_pushed}
use Rattle.frame_outside.proofs.MemCalls.{telling_opens, opened_slot, pushed}
use Rattle.frame_outside.proofs.mem_shelf.MemShelfShelf.source.Goals as goal

pub invariant_of-self-in-Ok : goal.invariant_of-self-in-Ok
invariant_of-self-in-Ok c = record {
  some = c.args.self.now.some;
  apart = apart_pushed slot_of c.args.self.now.slots.items c.push.new.self.items _ _ c.push.ensures.items
      c.args.self.now.apart (λ q. refl);
}

pub returns-else-is_err-clause-ok : goal.returns-else-is_err-clause-ok
returns-else-is_err-clause-ok c =
    let number : c.in-Ok.slot ≡ length c.args.self.now.slots.items = search rules in
    telling_opens c.args.self.now.calls.faults c.count_one-fails.new.self.faults c.args.self.now.misses
    c.args.self.now.taken c.in-Ok.slot c.args.name.now c.in-Some.held.now
    (map slot_of c.args.self.now.slots.items) _
    (λ q. option_map (λ bytes. bytes.items) (get_by_text c.args.self.now.files q)) (search rules)
    (number ∙ sym (length-map _ slot_of)) (sym c.in-Some.ensures)
    (given_slots slot_of c.args.self.now.slots.items c.push.new.self.items _ _ _
    (pushed _ c.push.result _ _ (sym c.is_err.ensures.value ∙ c.if-is_err.false) c.push.ensures.items) refl
    (opened_slot _ _ c.in-Some.held.now c.in-Ok-new.ensures.opened c.in-Ok-new.ensures.at))
