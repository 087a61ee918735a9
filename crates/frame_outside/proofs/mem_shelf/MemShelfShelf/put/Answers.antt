-- The slots are seen through what is kept of them, of which one has written.
use Rattle.std.proofs.Common.{◌<◌, map, length, option_map, rules}
use Rattle.std.specs.BTreeMap.{get_by_text}
use Rattle.frame_outside.specs.MemSlot.{slot_of}
use Rattle.frame_outside.proofs.Kept.{IsTarget-within, map-set-write, map-set-same, is_target_at}
use Rattle.frame_outside.proofs.Written.{apart_put}
use Rattle.frame_outside.proofs.MemCalls.{telling_writes, telling_writes_none, telling_same}
use Rattle.frame_outside.proofs.mem_shelf.MemShelfShelf.put.Goals as goal

pub returns-then-count_one-clause-part : goal.returns-then-count_one-clause-part
returns-then-count_one-clause-part c =
    λ _. telling_writes_none c.args.self.now.calls.faults c.count_fault.new.self.faults
    c.args.self.now.misses c.args.self.now.taken c.args.slot c.args.piece.now
    (map slot_of c.args.self.now.slots.items)
    (λ q. option_map (λ bytes. bytes.items) (get_by_text c.args.self.now.files q)) c.args.self.now.apart
    (search rules)

pub index_mut-requires : goal.index_mut-requires
index_mut-requires c =
    let within : c.args.slot < length c.args.self.now.slots.items =
    IsTarget-within _ c.args.self.now.slots.items c.args.slot c.requires in
    search rules

pub put-requires : goal.put-requires
put-requires c =
    let within : c.args.slot < length c.args.self.now.slots.items =
    IsTarget-within _ c.args.self.now.slots.items c.args.slot c.requires in
    is_target_at _ c.args.self.now.slots.items c.args.slot c.index_mut.result.now within
    c.index_mut.ensures.value c.requires

pub invariant_of-self-2 : goal.invariant_of-self-2
invariant_of-self-2 c = record {
  some = c.args.self.now.some;
  apart = apart_put _ c.args.self.now.slots.items c.args.slot c.args.piece.now c.index_mut.result.now
      c.put.new.self c.put.result c.args.self.now.apart c.index_mut.ensures.value c.put.ensures.ok
      c.put.ensures.err;
}

pub returns-in-Ok-clause-ok : goal.returns-in-Ok-clause-ok
returns-in-Ok-clause-ok c =
    telling_writes c.args.self.now.calls.faults c.count_one.new.self.faults c.args.self.now.misses
    c.args.self.now.taken c.args.slot c.args.piece.now (map slot_of c.args.self.now.slots.items) _
    (λ q. option_map (λ bytes. bytes.items) (get_by_text c.args.self.now.files q)) c.args.self.now.apart
    (search rules) (map-set-write _ c.args.self.now.slots.items c.args.slot _ c.index_mut.result.now
    c.put.new.self c.index_mut.ensures.value c.in-Ok.ensures.ok)

pub returns-in-Err-clause-none : goal.returns-in-Err-clause-none
returns-in-Err-clause-none c =
    telling_same c.args.self.now.calls.faults c.count_one.new.self.faults c.args.self.now.misses
    c.args.self.now.taken (map slot_of c.args.self.now.slots.items) _
    (λ q. option_map (λ bytes. bytes.items) (get_by_text c.args.self.now.files q)) (search rules)
    (map-set-same _ c.args.self.now.slots.items c.args.slot c.index_mut.result.now c.put.new.self
    c.index_mut.ensures.value c.in-Err.ensures.err)
