-- One file more is open, and nothing of it is told.
use Rattle.std.proofs.Common.{◌≡◌, ◌++◌, ◌∷◌, [], length, map, rules, refl, sym, ap, ◌∙◌, arith}
use Rattle.frame_outside.specs.Opened.{is_written, seen_of}
use Rattle.frame_outside.proofs.Untold.{seen_untold, opens_untold, refuses_source_untold}
use Rattle.frame_outside.proofs.MemCalls.{pushed, not_pushed}
use Rattle.frame_outside.proofs.dir_shelf.DirShelfShelf.source.Goals as goal

pub returns-clause-ok : goal.returns-clause-ok
returns-clause-ok g c =
    let before = c.args.self.now.slots.items in
    let middle = c.open_source.new.slots.items in
    let number : c.in-Ok-Ok.slot ≡ length before = search rules in
    opens_untold is_written c.args.self.now.faults c.args.self.now.taken before middle c.push.new.self.items
    c.in-Ok-Ok.opened c.args.name.now c.in-Ok-Ok.slot number
    (seen_untold seen_of (λ seen. seen.is_written) _ _ c.open_source.ensures.kept)
    (pushed c.push.new.self.items c.push.result (middle ++ c.in-Ok-Ok.opened ∷ []) middle
    (sym c.is_err.ensures.value ∙ c.if-is_err.false) c.push.ensures.items) (search rules)

pub returns-in_default-clause-refused : goal.returns-in_default-clause-refused
returns-in_default-clause-refused g c =
    refuses_source_untold is_written c.args.self.now.faults c.fault.new.self.faults c.args.self.now.taken
    c.fault.new.self.taken c.args.self.now.slots.items c.fault.new.self.slots.items c.args.name.now
    (omega (arith, c.fault.ensures.faults)) c.fault.ensures.taken
    (seen_untold seen_of (λ seen. seen.is_written) _ _
    (ap (λ slots. map seen_of slots.items) c.fault.ensures.slots ∙ c.open_source.ensures.kept))

pub returns-then-is_err-clause-refused : goal.returns-then-is_err-clause-refused
returns-then-is_err-clause-refused g c =
    let middle = c.open_source.new.slots.items in
    refuses_source_untold is_written c.args.self.now.faults c.args.self.now.faults c.args.self.now.taken
    c.args.self.now.taken c.args.self.now.slots.items c.push.new.self.items c.args.name.now
    (omega arith) refl
    (seen_untold seen_of (λ seen. seen.is_written) _ _
    (ap (map seen_of) (not_pushed c.push.new.self.items c.push.result (middle ++ c.in-Ok-Ok.opened ∷ []) middle
    (sym c.is_err.ensures.value ∙ c.if-is_err.true) c.push.ensures.items) ∙ c.open_source.ensures.kept))
