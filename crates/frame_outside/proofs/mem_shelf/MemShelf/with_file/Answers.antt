-- The map after the insert, read by bytes, is the map before but for that name, and no slot writes it.
use Rattle.std.proofs.Common.{map, option_map, sym, ap, ◌∙◌, subst}
use Rattle.std.specs.BTreeMap.{get_by_text}
use Rattle.std.specs.Option.{option_or}
use Rattle.frame_outside.specs.MemSlot.{slot_of}
use Rattle.frame_outside.specs.Shelf.{without_slot}
use Rattle.frame_outside.specs.Written.{AreApart, written_under}
use Rattle.frame_outside.proofs.Files.{seen_after_insert}
use Rattle.frame_outside.proofs.Written.{apart-released, file_placed}
use Rattle.frame_outside.proofs.mem_shelf.MemShelf.with_file.Goals as goal

pub invariant_of-self-2 : goal.invariant_of-self-2
invariant_of-self-2 c = record {
  some = c.args.self.now.some;
  apart = subst AreApart (sym c.release.ensures.slots)
      (apart-released c.args.name.now (map slot_of c.args.self.now.slots.items) c.args.self.now.apart);
}

pub returns-clause-ok : goal.returns-clause-ok
returns-clause-ok c = λ q.
    ap (λ slots. option_or (written_under slots q)
    (option_map (λ bytes. bytes.items) (get_by_text c.insert.new.self q))) c.release.ensures.slots
    ∙ ap (option_or (written_under (without_slot c.args.name.now (map slot_of c.args.self.now.slots.items)) q))
    (seen_after_insert _ c.args.self.now.files c.insert.new.self _ _ _ _ c.in_ok-insert.ensures.updates
    c.in_ok-key.ensures.ok c.in_ok-held.ensures.items q)
    ∙ file_placed c.args.name.now q c.args.bytes.now (map slot_of c.args.self.now.slots.items)
    (option_map (λ bytes. bytes.items) (get_by_text c.args.self.now.files q))
