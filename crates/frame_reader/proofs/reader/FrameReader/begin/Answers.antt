-- A reader that has read the header alone, or its fault.
use Rattle.std.proofs.Common.{Err, ap, ◌∙◌}
use Rattle.std.proofs.lemmas.Result.{err_from_is_err_and}
use Rattle.contents_table.specs.Layouts.{layouts_of}
use Rattle.item_reader.specs.Reader.{file_of}
use Rattle.file_content.proofs.WholeFiles.{file_of-drawn}
use Rattle.frame_reader.proofs.Giving.{none-begun, same-error}
use Rattle.frame_reader.proofs.reader.FrameReader.begin.Goals as goal

pub returns-in_err-items-clause-fault : goal.returns-in_err-items-clause-fault
returns-in_err-items-clause-fault g c = λ fault is.
    let p = err_from_is_err_and c.from_residual.result c.from_residual.ensures.1 in
    c.begin.ensures.header fault
    (c.in_err-items.was ∙ ap (λ e. Err e) (same-error (p.1 ∙ ap (λ e. Err e) p.2) is))

pub returns-clause-given : goal.returns-clause-given
returns-clause-given g c = λ file told.
    let now = g.S.Shelf.outside c.begin.new.shelf in
    let r = c.in_ok-items.items in
    let b = c.in_ok-items.ensures in
    none-begun file r c.of-layouts.result
    (b.reads.read b.begun.3 file (ap (file_of now) b.slot
    ∙ file_of-drawn (g.S.Shelf.outside c.args.shelf.now) now c.args.slot c.begin.ensures.draws.draws ∙ told))
    b.begun.2 b.begun.0 (c.of-layouts.ensures.layouts ∙ ap layouts_of c.dictionary.ensures)
