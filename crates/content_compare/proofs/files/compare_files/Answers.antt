-- Both files are opened, and the rest is what the comparison of their slots says.
use Rattle.std.proofs.Common.{arith, ◌∙◌}
use Rattle.content_compare.proofs.OpenedFiles.{first-refused, second-refused, first-source, first-beginning}
use Rattle.content_compare.proofs.OpenedFiles.{opened-beginning, both-answered}
use Rattle.frame_outside.proofs.Slots.{IsSource-opens}
use Rattle.content_compare.proofs.files.compare_files.Goals as goal

pub returns-in_err-slot-clause-misses : goal.returns-in_err-slot-clause-misses
returns-in_err-slot-clause-misses g c = λ files told more due is.
    first-refused files (g.S.Shelf.outside c.args.shelf.now) (g.S.Shelf.outside c.source.new.self) c.args.first.now
    c.args.second.now due told c.in_err-slot.ensures.refused more is

pub returns-in_err-other-clause-misses : goal.returns-in_err-other-clause-misses
returns-in_err-other-clause-misses g c = λ files told more due is.
    second-refused files (g.S.Shelf.outside c.args.shelf.now) (g.S.Shelf.outside c.source.new.self)
    (g.S.Shelf.outside c.source-2.new.self) c.args.first.now c.args.second.now c.in_ok-slot.slot due told
    c.in_ok-slot.ensures.ok c.in_err-other.ensures.refused more is

pub compare_slots-requires-clause-first : goal.compare_slots-requires-clause-first
compare_slots-requires-clause-first g c =
    first-source (g.S.Shelf.outside c.args.shelf.now) (g.S.Shelf.outside c.source.new.self)
    (g.S.Shelf.outside c.source-2.new.self) c.args.first.now c.args.second.now c.in_ok-slot.slot c.in_ok-other.other
    c.in_ok-slot.ensures.ok c.in_ok-other.ensures.ok

pub compare_slots-requires-clause-first_beginning :
    goal.compare_slots-requires-clause-first_beginning
compare_slots-requires-clause-first_beginning g c =
    first-beginning (g.S.Shelf.outside c.args.shelf.now) (g.S.Shelf.outside c.source.new.self)
    (g.S.Shelf.outside c.source-2.new.self) c.args.first.now c.args.second.now c.in_ok-slot.slot c.in_ok-other.other
    c.in_ok-slot.ensures.ok c.in_ok-other.ensures.ok

pub compare_slots-requires-clause-second : goal.compare_slots-requires-clause-second
compare_slots-requires-clause-second g c =
    IsSource-opens (g.S.Shelf.outside c.source.new.self) (g.S.Shelf.outside c.source-2.new.self) c.args.second.now
    c.in_ok-other.other c.in_ok-other.ensures.ok

pub compare_slots-requires-clause-second_beginning :
    goal.compare_slots-requires-clause-second_beginning
compare_slots-requires-clause-second_beginning g c =
    opened-beginning (g.S.Shelf.outside c.source.new.self) (g.S.Shelf.outside c.source-2.new.self) c.args.second.now
    c.in_ok-other.other c.in_ok-other.ensures.ok

pub returns-clause-answer : goal.returns-clause-answer
returns-clause-answer g c = λ files told due is.
    both-answered files (g.S.Shelf.outside c.args.shelf.now) (g.S.Shelf.outside c.source.new.self)
    (g.S.Shelf.outside c.source-2.new.self) c.args.first.now c.args.second.now c.in_ok-slot.slot c.in_ok-other.other
    c.compare_slots.result due told c.in_ok-slot.ensures.ok c.in_ok-other.ensures.ok
    (λ missing. let failed = c.source.ensures.missing files told missing in let was = c.in_ok-slot.was in cc)
    (λ missing. let failed = c.source-2.ensures.missing files (c.in_ok-slot.ensures.ok.files ∙ told) missing in
    let was = c.in_ok-other.was in cc)
    c.compare_slots.ensures.compares is

pub returns-clause-misses : goal.returns-clause-misses
returns-clause-misses g c = λ files told more due is.
    absurd (omega (
      arith,
      more,
      c.in_ok-slot.ensures.ok.misses,
      c.in_ok-other.ensures.ok.misses,
      (c.compare_slots.ensures.draws 0 (omega arith) (omega arith)).misses,
    ))
