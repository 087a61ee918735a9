-- The slots are seen through what is kept of them, of which one has moved.
use Rattle.std.proofs.Common.{◌<◌, map, length, option_map, sym, subst, arith, rules}
use Rattle.std.specs.BTreeMap.{get_by_text}
use Rattle.frame_outside.specs.MemSlot.{slot_of}
use Rattle.frame_outside.specs.Written.{AreApart}
use Rattle.frame_outside.proofs.Kept.{IsSource-within, map-set-pass, told_at, is_source_at}
use Rattle.frame_outside.proofs.Written.{apart-pass}
use Rattle.frame_outside.proofs.MemCalls.{telling_passes, telling_refuses_pass}
use Rattle.frame_outside.proofs.mem_shelf.MemShelfShelf.take.Goals as goal

pub returns-then-count_one-clause-refused : goal.returns-then-count_one-clause-refused
returns-then-count_one-clause-refused c =
    telling_refuses_pass c.args.self.now.calls.faults c.count_fault.new.self.faults c.args.self.now.misses
    c.args.self.now.taken c.args.slot (map slot_of c.args.self.now.slots.items)
    (λ q. option_map (λ bytes. bytes.items) (get_by_text c.args.self.now.files q)) (search rules)

pub index_mut-requires : goal.index_mut-requires
index_mut-requires c =
    let within : c.args.slot < length c.args.self.now.slots.items =
    IsSource-within _ c.args.self.now.slots.items c.args.slot c.requires in
    search rules

pub take-count-requires : goal.take-count-requires
take-count-requires c =
    let within : c.args.slot < length c.args.self.now.slots.items =
    IsSource-within _ c.args.self.now.slots.items c.args.slot c.requires in
    is_source_at _ c.args.self.now.slots.items c.args.slot c.index_mut.result.now within
    c.index_mut.ensures.value c.requires

pub invariant_of-self-2 : goal.invariant_of-self-2
invariant_of-self-2 c = record {
  some = c.args.self.now.some;
  apart = subst AreApart
      (sym (map-set-pass _ c.args.self.now.slots.items c.args.slot _ c.index_mut.result.now
      c.take-count.new.self c.index_mut.ensures.value c.take-count.ensures.slot))
      (apart-pass (map slot_of c.args.self.now.slots.items) c.args.slot c.take-count.result
      c.args.self.now.apart);
}

pub returns-clause-passes : goal.returns-clause-passes
returns-clause-passes c =
    let within : c.args.slot < length c.args.self.now.slots.items =
    IsSource-within _ c.args.self.now.slots.items c.args.slot c.requires in
    telling_passes c.args.self.now.calls.faults c.count_one.new.self.faults c.args.self.now.misses
    c.args.self.now.taken c.saturating_add-self.result c.take-count.result c.args.slot
    (map slot_of c.args.self.now.slots.items) _
    (λ q. option_map (λ bytes. bytes.items) (get_by_text c.args.self.now.files q)) (search rules)
    (search rules) (map-set-pass _ c.args.self.now.slots.items c.args.slot _ c.index_mut.result.now
    c.take-count.new.self c.index_mut.ensures.value c.take-count.ensures.slot)
    (told_at _ _ c.args.self.now.slots.items c.args.slot c.index_mut.result.now within
    c.index_mut.ensures.value (λ reading told. let e = c.take-count.ensures.count reading told in
    omega (arith, e)))

pub returns-clause-gives : goal.returns-clause-gives
returns-clause-gives c =
    let within : c.args.slot < length c.args.self.now.slots.items =
    IsSource-within _ c.args.self.now.slots.items c.args.slot c.requires in
    record {
      bytes = told_at _ _ c.args.self.now.slots.items c.args.slot c.index_mut.result.now within
          c.index_mut.ensures.value c.take-count.ensures.bytes;
      end = λ none room. told_at _ _ c.args.self.now.slots.items c.args.slot c.index_mut.result.now within
          c.index_mut.ensures.value
          (λ reading told. let e = c.take-count.ensures.count reading told in
          omega (arith, e, none, room, c.args.self.now.some));
    }
