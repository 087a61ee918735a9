-- How it is left at each of its ends, by the lemma of its name.
use Rattle.std.proofs.Common.{ℕ, List, inr, refl, subst, arith}
use Rattle.std.proofs.lemmas.Result.{err_from_is_err_and}
use Rattle.canonical_writer.specs.declared.errors.WriteError.TheVariants as write
use Rattle.sample_file.specs.Put.{HasMade}
use Rattle.sample_file.proofs.Fronts.{head-none}
use Rattle.sample_file.proofs.Making.{made-begun}
use Rattle.sample_file.proofs.Ready.{written-none}
use Rattle.sample_file.proofs.SampleEnds.{left-none, left-unbegun, begun-outside}
use Rattle.sample_file.proofs.files.write_file.Goals as goal

-- ---- the file was not made

pub returns-in_err-sample-clause-left : goal.returns-in_err-sample-clause-left
returns-in_err-sample-clause-left g c =
    let p = err_from_is_err_and c.from_residual.result c.from_residual.ensures.1 in
    rw (p.1, p.2)
    (left-none (g.S.Shelf.outside c.args.shelf.now) c.args.to.now c.args.frames write.NoMemory (inr refl))

pub returns-in_err-closing-clause-left : goal.returns-in_err-closing-clause-left
returns-in_err-closing-clause-left g c =
    let p = err_from_is_err_and c.from_residual-in_err-closing.result c.from_residual-in_err-closing.ensures.1 in
    rw (p.1, p.2)
    (left-none (g.S.Shelf.outside c.args.shelf.now) c.args.to.now c.args.frames write.NoMemory (inr refl))

pub returns-in_err-writer-clause-left : goal.returns-in_err-writer-clause-left
returns-in_err-writer-clause-left g c =
    let p = err_from_is_err_and c.from_residual-in_err-writer.result c.from_residual-in_err-writer.ensures.1 in
    rw (p.1, p.2)
    (left-unbegun (g.S.Shelf.outside c.args.shelf.now) (g.S.Shelf.outside c.begin.new.shelf) c.args.to.now c.args.frames
    c.in_err-writer.field-0.0 (begun-outside c.in_err-writer.field-0.0 c.in_err-writer.ensures.errors)
    c.in_err-writer.ensures.refused)

-- ---- the header was written

pub write_frames-requires-clause-target : goal.write_frames-requires-clause-target
write_frames-requires-clause-target g c =
    (made-begun (g.S.Shelf.outside c.args.shelf.now) (g.S.Shelf.outside c.begin.new.shelf) c.args.to.now
    c.in_ok-writer.writer.slot c.in_ok-writer.ensures.made).target

pub write_frames-requires-clause-written : goal.write_frames-requires-clause-written
write_frames-requires-clause-written g c = written-none c.in_ok-writer.writer c.in_ok-writer.ensures.begun

pub returns-clause-left : goal.returns-clause-left
returns-clause-left g c =
    let old = g.S.Shelf.outside c.args.shelf.now in
    let now = g.S.Shelf.outside c.begin.new.shelf in
    let slot = c.in_ok-writer.writer.slot in
    c.write_frames.ensures.left old c.args.to.now
    (subst (λ (bytes : List ℕ). HasMade old now c.args.to.now slot bytes) head-none
    (made-begun old now c.args.to.now slot c.in_ok-writer.ensures.made))

pub returns-clause-device : goal.returns-clause-device
returns-clause-device g c = λ is.
    let made = c.in_ok-writer.ensures.made in
    omega (arith, made.makes.faults, made.writes.faults, c.write_frames.ensures.device is)
