-- The file is opened, and the rest is what is said of its slot; or it is not.
use Rattle.std.proofs.Common.{Err, sym, ap, subst, ◌∙◌}
use Rattle.std.proofs.lemmas.Result.{err_from_is_err_and}
use Rattle.dumper.specs.Due.{Dumps}
use Rattle.dumper.proofs.Pages.{appends-nothing}
use Rattle.dumper.proofs.ReadFiles.{opened-beginning, opened-file, reads-one}
use Rattle.dumper.proofs.DumpErrors.{refused-so}
use Rattle.dumper.proofs.DumpEnds.{dumps-unopened}
use Rattle.dumper.proofs.files.dump_file.Goals as goal

pub returns-in_err-slot-clause-answer : goal.returns-in_err-slot-clause-answer
returns-in_err-slot-clause-answer g c = λ files told file held.
    let out = g.O.Sink.output c.args.out.now in
    let from = err_from_is_err_and c.from_residual.result c.from_residual.ensures.1 in
    subst (Dumps file out out) (sym (from.1 ∙ ap (λ e. Err e) from.2))
    (dumps-unopened file out c.in_err-slot.field-0.0)

pub returns-in_err-slot-clause-missing : goal.returns-in_err-slot-clause-missing
returns-in_err-slot-clause-missing g c = λ files told missing.
    let from = err_from_is_err_and c.from_residual.result c.from_residual.ensures.1 in (
      refused-so c.from_residual.result c.in_err-slot.field-0.0 (from.1 ∙ ap (λ e. Err e) from.2),
      appends-nothing (g.O.Sink.output c.args.out.now),
    )

pub dump_slot-requires-clause-beginning : goal.dump_slot-requires-clause-beginning
dump_slot-requires-clause-beginning g c =
    opened-beginning (g.S.Shelf.outside c.args.shelf.now) (g.S.Shelf.outside c.source.new.self) c.args.from.now
    c.in_ok-slot.slot c.in_ok-slot.ensures.ok

pub returns-clause-answer : goal.returns-clause-answer
returns-clause-answer g c = λ files told file held.
    c.dump_slot.ensures.answer file
    (opened-file files (g.S.Shelf.outside c.args.shelf.now) (g.S.Shelf.outside c.source.new.self) c.args.from.now file
    c.in_ok-slot.slot c.in_ok-slot.ensures.ok told held)

pub returns-clause-missing : goal.returns-clause-missing
returns-clause-missing g c = λ files told missing.
    let failed = c.source.ensures.missing files told missing in let was = c.in_ok-slot.was in absurd cc

pub returns-clause-shelf : goal.returns-clause-shelf
returns-clause-shelf g c =
    reads-one (g.S.Shelf.outside c.args.shelf.now) (g.S.Shelf.outside c.source.new.self)
    (g.S.Shelf.outside c.dump_slot.new.shelf) c.args.from.now c.in_ok-slot.slot c.in_ok-slot.ensures.ok
    c.dump_slot.ensures.draws
