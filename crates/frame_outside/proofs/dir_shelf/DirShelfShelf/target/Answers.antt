-- One file more is open, and nothing of it is told.
use Rattle.std.proofs.Common.{◌≡◌, length, map, rules, sym, ap, ◌∙◌, arith}
use Rattle.frame_outside.specs.Opened.{is_written, seen_of}
use Rattle.frame_outside.proofs.Counting.{counted_by-zero}
use Rattle.frame_outside.proofs.Untold.{seen_untold, hands_out_untold, makes_untold}
use Rattle.frame_outside.proofs.dir_shelf.DirShelfShelf.target.Goals as goal

pub returns-clause-ok : goal.returns-clause-ok
returns-clause-ok g c =
    let number : c.in-Ok.slot ≡ length c.args.self.now.slots.items = search rules in
    makes_untold is_written c.args.self.now.faults c.args.self.now.taken c.args.self.now.slots.items
    c.open_target.new.slots.items c.push_reserved.new.self.items c.in-Ok-open_target.opened
    c.args.name.now c.in-Ok.slot number
    (seen_untold seen_of (λ seen. seen.is_written) _ _
    (c.open_target.ensures.kept ∙ ap (map seen_of) c.reserve.ensures.items)) c.push_reserved.ensures.items
    (search rules)

pub returns-in_default-open_target-clause-refused : goal.returns-in_default-open_target-clause-refused
returns-in_default-open_target-clause-refused g c =
    hands_out_untold is_written c.args.self.now.faults c.fault-in_default-open_target.new.self.faults
    c.args.self.now.taken c.fault-in_default-open_target.new.self.taken 0 c.args.self.now.slots.items
    c.fault-in_default-open_target.new.self.slots.items
    (omega (arith, c.fault-in_default-open_target.ensures.faults))
    (c.fault-in_default-open_target.ensures.taken ∙ sym (counted_by-zero c.args.self.now.taken))
    (seen_untold seen_of (λ seen. seen.is_written) _ _
    (ap (λ slots. map seen_of slots.items) c.fault-in_default-open_target.ensures.slots
    ∙ c.open_target.ensures.kept ∙ ap (map seen_of) c.reserve.ensures.items))
