-- How it is left at each of its ends, by the lemma of its name.
use Rattle.std.proofs.Common.{inr, refl, sym, ap, subst, ◌∙◌}
use Rattle.std.proofs.lemmas.Result.{err_from_is_err_and}
use Rattle.frame_outside.specs.Shelf.{IsTarget}
use Rattle.canonical_writer.specs.declared.errors.WriteError.TheVariants as write
use Rattle.canonical_writer.specs.Parts.{IsUsableClosing}
use Rattle.canonical_writer.specs.Writer.{Writer}
use Rattle.sample_file.specs.Put.{sample_head, HasMade}
use Rattle.sample_file.proofs.SampleClosings.{closing-usable}
use Rattle.sample_file.proofs.SampleEnds.{left-part, left-head, left-ended}
use Rattle.sample_file.proofs.files.write_frames.Goals as goal

pub returns-in_err-put_frames-clause-left : goal.returns-in_err-put_frames-clause-left
returns-in_err-put_frames-clause-left g c = λ old name made.
    let p = err_from_is_err_and c.from_residual.result c.from_residual.ensures.1 in
    rw (p.1, p.2)
    (left-part old (g.S.Shelf.outside c.put_frames.new.shelf) name c.args.frames c.in_err-put_frames.field-0.0
    c.in_err-put_frames.ensures.outside (c.in_err-put_frames.ensures.puts old name made))

pub hold_closing-requires : goal.hold_closing-requires
hold_closing-requires g c = subst IsUsableClosing (sym c.requires.closing) closing-usable

pub returns-in_err-hold_closing-clause-left : goal.returns-in_err-hold_closing-clause-left
returns-in_err-hold_closing-clause-left g c = λ old name made.
    let p = err_from_is_err_and c.from_residual-in_err-hold_closing.result
    c.from_residual-in_err-hold_closing.ensures.1 in
    rw (p.1, p.2)
    (left-head old (g.S.Shelf.outside c.put_frames.new.shelf) name c.args.writer.slot c.args.frames write.NoMemory
    (inr refl) (c.in_ok-put_frames.ensures.puts old name made))

pub close-requires-clause-slot : goal.close-requires-clause-slot
close-requires-clause-slot g c =
    let now = g.S.Shelf.outside c.put_frames.new.shelf in
    subst (λ slot. IsTarget now.slots slot) (sym (ap (λ (w : Writer). w.slot) c.in_ok-hold_closing.ensures.ok))
    c.in_ok-put_frames.ensures.target

pub returns-clause-left : goal.returns-clause-left
returns-clause-left g c = λ old name made.
    let now = g.S.Shelf.outside c.put_frames.new.shelf in
    let w = c.put_frames.new.writer in
    let v = c.hold_closing.new.self in
    let has = c.in_ok-put_frames.ensures.written in
    let held = c.in_ok-hold_closing.ensures.ok in
    let error = ap (λ (w : Writer). w.error) held ∙ has.error in
    let puts = c.close.ensures.puts error in
    left-ended c.args.frames old now (g.S.Shelf.outside c.close.new.shelf) name w v c.args.closing.now c.close.result
    puts.0 c.requires.few
    (subst (λ slot. HasMade old now name slot (sample_head c.args.frames)) (sym c.in_ok-put_frames.ensures.slot)
    (c.in_ok-put_frames.ensures.puts old name made))
    has c.requires.closing held (c.close.ensures.answer error) puts.1 puts.2
