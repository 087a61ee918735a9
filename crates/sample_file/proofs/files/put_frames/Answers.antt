-- Each frame by the lemma of its name.
use Rattle.std.proofs.Common.{◌≡◌, Ok, Err, refl, sym, ap, subst, ◌∙◌, arith}
use Rattle.std.proofs.lemmas.Result.{err_from_is_err_and}
use Rattle.frame_outside.specs.Shelf.{IsTarget}
use Rattle.sample_file.specs.Put.{PutsFrame, PutsFrames}
use Rattle.sample_file.proofs.AllFrames.{target-puts, faults-puts, made-frame, part-frame}
use Rattle.sample_file.proofs.files.put_frames.Goals as goal

pub loop-k-init : goal.loop-k-init
loop-k-init g c = record {
  room = c.requires.room;
  slot = refl;
  target = c.requires.target;
  written = c.requires.written;
  faults = omega arith;
  made = λ old name made. made;
}

pub loop-k-preserved : goal.loop-k-preserved
loop-k-preserved g c =
    let now = g.S.Shelf.outside c.loop-k.shelf in
    let new = g.S.Shelf.outside c.put_frame.new.shelf in
    let i = c.loop-k.invariant in
    let first = c.args.writer.now.slot in
    let puts = c.in_ok-put_frame.ensures.put.puts in
    record {
      room = c.in_ok-put_frame.ensures.room;
      slot = c.in_ok-put_frame.ensures.slot ∙ i.slot;
      target = subst (λ slot. IsTarget new.slots slot) (sym c.in_ok-put_frame.ensures.slot)
          (target-puts now new c.loop-k.writer.slot puts.bytes c.in_ok-put_frame.field-0 puts.puts i.target);
      written = c.in_ok-put_frame.ensures.put.written;
      faults = omega (
        arith,
        i.faults,
        faults-puts {X = Unit {0}} now new c.loop-k.writer.slot puts.bytes (Ok c.in_ok-put_frame.field-0) puts.puts,
      );
      made = λ old name made.
          made-frame old now new name first c.loop-k.k c.in_ok-put_frame.field-0 (i.made old name made)
          (subst (λ slot. PutsFrame c.loop-k.k now new slot (Ok c.in_ok-put_frame.field-0)) i.slot puts);
    }

pub returns-in_err-put_frame-clause-puts : goal.returns-in_err-put_frame-clause-puts
returns-in_err-put_frame-clause-puts g c = λ old name made.
    let now = g.S.Shelf.outside c.loop-k.shelf in
    let new = g.S.Shelf.outside c.put_frame.new.shelf in
    let i = c.loop-k.invariant in
    let error = c.in_err-put_frame.field-0.0 in
    let slot = c.args.writer.now.slot in
    let p = err_from_is_err_and c.from_residual.result c.from_residual.ensures.1 in
    let is : c.from_residual.result ≡ Err error = p.1 ∙ ap (λ e. Err e) p.2 in
    subst (λ result. PutsFrames old new name slot c.args.frames result) (sym is)
    (part-frame old now new name slot c.loop-k.k c.args.frames error (omega arith)
    c.in_err-put_frame.ensures.put.outside (i.made old name made)
    (subst (λ slot. PutsFrame c.loop-k.k now new slot (Err error)) i.slot c.in_err-put_frame.ensures.put.puts))

pub returns-in_err-put_frame-clause-faults : goal.returns-in_err-put_frame-clause-faults
returns-in_err-put_frame-clause-faults g c =
    let now = g.S.Shelf.outside c.loop-k.shelf in
    let new = g.S.Shelf.outside c.put_frame.new.shelf in
    let puts = c.in_err-put_frame.ensures.put.puts in
    let later = faults-puts {X = Unit {0}} now new c.loop-k.writer.slot puts.bytes (Err c.in_err-put_frame.field-0.0)
    puts.puts in
    omega (arith, c.loop-k.invariant.faults, later)
