-- Each step by the lemma of its name on what is put, and what is drawn, on the way.
use Rattle.std.proofs.Common.{◌≡◌, ℕ, List, true, false, Some, Ok, Err, refl, sym, ap, subst, ◌∙◌, arith}
use Rattle.std.proofs.lemmas.Result.{err_from_is_err_and}
use Rattle.frame_outside.specs.Shelf.{Outside, IsTarget}
use Rattle.frame_outside.specs.SlotReader.{Draws}
use Rattle.structure_source.specs.Source.{GoesOn as Passes}
use Rattle.item_reader.specs.Reader.{Reader, file_of}
use Rattle.file_content.proofs.WholeFiles.{file_of-drawn}
use Rattle.frame_reader.specs.Given.{GoesOn}
use Rattle.splicer.specs.declared.errors.InputError.TheVariants as input
use Rattle.splicer.specs.Errors.{error_of_read}
use Rattle.splicer.specs.Put.{PutsFrames}
use Rattle.splicer.specs.Drawn.{DrawsInput}
use Rattle.splicer.proofs.OnlyWritten.{target-drawn}
use Rattle.splicer.proofs.PutsOn.{MadeOn, made_on-init, made_on-drawn, made_on-frame, puts_on-init}
use Rattle.splicer.proofs.PutsOn.{puts_on-drawn, puts_on-unread, puts_on-ended, puts_on-next, puts_on-given}
use Rattle.splicer.proofs.PutsOn.{puts_on-more, puts_on-put}
use Rattle.splicer.proofs.ReadsOn.{reads_on-init, reads_on-drawn, reads_on-written, reads_on-read, draws-unread}
use Rattle.splicer.proofs.ReadsOn.{draws-all, draws-next}
use Rattle.splicer.proofs.inputs.put_frames.Goals as goal

-- the slot that is read is that of the same file
here : (first now : Outside) (before r : Reader) (file : List ℕ) → r.position.slot ≡ before.position.slot
    → file_of now before.position.slot ≡ file_of first before.position.slot
    → file_of first before.position.slot ≡ Some file → file_of now r.position.slot ≡ Some file
here first now before r file slot same told = ap (file_of now) slot ∙ same ∙ told

-- so it is after the reader has read on
same-file : (first now middle : Outside) (before r new : Reader) → Passes now middle r.position new.position
    → r.position.slot ≡ before.position.slot → file_of now before.position.slot ≡ file_of first before.position.slot
    → file_of middle new.position.slot ≡ file_of first before.position.slot
same-file first now middle before r new passes slot same =
    ap (file_of middle) (passes.slot ∙ slot)
    ∙ file_of-drawn now middle before.position.slot (subst (λ slot. Draws now middle slot) slot passes.draws)
    ∙ same

pub frames-init : goal.frames-init
frames-init g c = record {
  reads = c.requires.reads;
  slot = refl;
  unclosed = c.requires.open.1;
  error = c.requires.open.0;
  target = c.requires.target;
  no_error = c.requires.error;
  writes = refl;
  closing = refl;
  faults = omega arith;
  file = refl;
  puts = puts_on-init (g.S.Shelf.outside c.args.shelf.now) c.args.frames.now c.args.writer.now;
  made = made_on-init (g.S.Shelf.outside c.args.shelf.now) c.args.frames.now.reader.position.slot c.args.writer.now;
  drawn = reads_on-init (g.S.Shelf.outside c.args.shelf.now) c.args.frames.now.reader;
}

-- ---- no frame was given

pub returns-in_err-next-clause-puts : goal.returns-in_err-next-clause-puts
returns-in_err-next-clause-puts g c = λ old name inputs stood file told past bytes put.
    let first = g.S.Shelf.outside c.args.shelf.now in
    let now = g.S.Shelf.outside c.frames.shelf in
    let middle = g.S.Shelf.outside c.next.new.shelf in
    let before = c.args.frames.now in
    let r = c.frames.frames in
    let w = c.args.writer.now in
    let v = c.frames.writer in
    let i = c.frames.invariant in
    let error = c.in_err-next.field-0.0 in
    let draws = subst (λ slot. Draws now middle slot) i.slot c.next.ensures.draws.draws in
    let p = err_from_is_err_and c.from_residual.result c.from_residual.ensures.1 in
    let is : c.from_residual.result ≡ Err (error_of_read error) = p.1 ∙ ap (λ e. Err e) p.2 in
    subst (λ result. PutsFrames file c.next.new.self w.closing stood old middle name inputs v result) (sym is)
    (puts_on-unread first middle before r c.next.new.self w v error
    (puts_on-drawn first now middle before r w v i.puts draws)
    (λ file frames told bytes given. c.in_err-next.ensures.goes file frames
    (here first now before.reader r.reader file i.slot i.file told) bytes i.unclosed given)
    old name inputs stood file told past bytes put)

pub returns-in_err-next-clause-draws : goal.returns-in_err-next-clause-draws
returns-in_err-next-clause-draws g c = λ old name inputs stood file told past bytes put start has.
    let first = g.S.Shelf.outside c.args.shelf.now in
    let now = g.S.Shelf.outside c.frames.shelf in
    let middle = g.S.Shelf.outside c.next.new.shelf in
    let before = c.args.frames.now in
    let r = c.frames.frames in
    let new = c.next.new.self in
    let w = c.args.writer.now in
    let v = c.frames.writer in
    let i = c.frames.invariant in
    let error = c.in_err-next.field-0.0 in
    let at = here first now before.reader r.reader file i.slot i.file told in
    let reads_on = reads_on-drawn first now middle before.reader r.reader new.reader i.drawn c.next.ensures.draws
    c.next.ensures.reads.stands
    (same-file first now middle before.reader r.reader new.reader c.next.ensures.draws i.slot i.file) in
    let p = err_from_is_err_and c.from_residual.result c.from_residual.ensures.1 in
    let is : c.from_residual.result ≡ Err (error_of_read error) = p.1 ∙ ap (λ e. Err e) p.2 in
    subst (λ result. DrawsInput file w.closing stood start middle result) (sym is)
    (draws-unread file r new w.closing stood old now start middle name inputs v error
    (puts_on-put first now before r w v i.puts old name inputs stood file told past bytes put)
    (reads_on-read first middle before.reader new.reader reads_on start file told has)
    (λ frames given. c.in_err-next.ensures.goes file frames at bytes i.unclosed given)
    (λ frames given. c.in_err-next.ensures.ahead file frames at i.unclosed given))

pub returns-in_err-next-clause-made : goal.returns-in_err-next-clause-made
unfolding MadeOn
returns-in_err-next-clause-made g c =
    let first = g.S.Shelf.outside c.args.shelf.now in
    let now = g.S.Shelf.outside c.frames.shelf in
    let middle = g.S.Shelf.outside c.next.new.shelf in
    let draws = subst (λ slot. Draws now middle slot) c.frames.invariant.slot c.next.ensures.draws.draws in
    made_on-drawn first now middle c.args.frames.now.reader.position.slot c.args.writer.now c.frames.writer
    c.frames.invariant.made draws

-- ---- the file has ended

pub returns-then-not-branch-clause-puts : goal.returns-then-not-branch-clause-puts
returns-then-not-branch-clause-puts g c = λ old name inputs stood file told past bytes put.
    let first = g.S.Shelf.outside c.args.shelf.now in
    let now = g.S.Shelf.outside c.frames.shelf in
    let middle = g.S.Shelf.outside c.next.new.shelf in
    let before = c.args.frames.now in
    let r = c.frames.frames in
    let new = c.next.new.self in
    let w = c.args.writer.now in
    let v = c.frames.writer in
    let i = c.frames.invariant in
    let draws = subst (λ slot. Draws now middle slot) i.slot c.next.ensures.draws.draws in
    puts_on-ended first middle before r new w v (puts_on-drawn first now middle before r w v i.puts draws)
    (λ file frames told bytes given. subst (λ more. GoesOn file frames new (Ok more)) c.if-not-branch.true
    (c.in_ok-next.ensures.goes file frames (here first now before.reader r.reader file i.slot i.file told) bytes
    i.unclosed given))
    (λ file told. c.in_ok-next.ensures.keeps file (here first now before.reader r.reader file i.slot i.file told))
    old name inputs stood file told past bytes put

pub returns-then-not-branch-clause-draws : goal.returns-then-not-branch-clause-draws
returns-then-not-branch-clause-draws g c = λ old name inputs stood file told past bytes put start has.
    let first = g.S.Shelf.outside c.args.shelf.now in
    let now = g.S.Shelf.outside c.frames.shelf in
    let middle = g.S.Shelf.outside c.next.new.shelf in
    let before = c.args.frames.now in
    let r = c.frames.frames in
    let new = c.next.new.self in
    let i = c.frames.invariant in
    let reads_on = reads_on-drawn first now middle before.reader r.reader new.reader i.drawn c.next.ensures.draws
    c.next.ensures.reads.stands
    (same-file first now middle before.reader r.reader new.reader c.next.ensures.draws i.slot i.file) in
    draws-all file new.reader c.args.writer.now.closing stood start middle
    (reads_on-read first middle before.reader new.reader reads_on start file told has)

pub returns-then-not-branch-clause-made : goal.returns-then-not-branch-clause-made
unfolding MadeOn
returns-then-not-branch-clause-made g c =
    let first = g.S.Shelf.outside c.args.shelf.now in
    let now = g.S.Shelf.outside c.frames.shelf in
    let middle = g.S.Shelf.outside c.next.new.shelf in
    let draws = subst (λ slot. Draws now middle slot) c.frames.invariant.slot c.next.ensures.draws.draws in
    made_on-drawn first now middle c.args.frames.now.reader.position.slot c.args.writer.now c.frames.writer
    c.frames.invariant.made draws

pub returns-then-not-branch-clause-target : goal.returns-then-not-branch-clause-target
returns-then-not-branch-clause-target g c =
    target-drawn (g.S.Shelf.outside c.frames.shelf) (g.S.Shelf.outside c.next.new.shelf)
    c.frames.frames.reader.position.slot c.frames.writer.slot c.next.ensures.draws.draws c.frames.invariant.target

-- ---- a frame was given

pub put_frame-requires-clause-target : goal.put_frame-requires-clause-target
put_frame-requires-clause-target g c =
    target-drawn (g.S.Shelf.outside c.frames.shelf) (g.S.Shelf.outside c.next.new.shelf)
    c.frames.frames.reader.position.slot c.frames.writer.slot c.next.ensures.draws.draws c.frames.invariant.target

pub frames-preserved : goal.frames-preserved
frames-preserved g c =
    let first = g.S.Shelf.outside c.args.shelf.now in
    let now = g.S.Shelf.outside c.frames.shelf in
    let middle = g.S.Shelf.outside c.next.new.shelf in
    let last = g.S.Shelf.outside c.put_frame.new.shelf in
    let before = c.args.frames.now in
    let r = c.frames.frames in
    let new = c.next.new.self in
    let w = c.args.writer.now in
    let v = c.frames.writer in
    let u = c.put_frame.new.writer in
    let i = c.frames.invariant in
    let only = c.put_frame.ensures.only in
    let draws = subst (λ slot. Draws now middle slot) i.slot c.next.ensures.draws.draws in
    let kept = c.put_frame.ensures.kept in
    let slot = before.reader.position.slot in
    record {
      reads = only.reads new.reader c.next.ensures.reads;
      slot = c.next.ensures.draws.slot ∙ i.slot;
      unclosed = (c.in_ok-next.ensures.on c.if-not-branch.false).2;
      error = c.in_ok-next.ensures.no_error;
      target = subst (λ slot. IsTarget last.slots slot) (sym kept.0)
          (only.targets v.slot
          (target-drawn now middle r.reader.position.slot v.slot c.next.ensures.draws.draws i.target));
      no_error = c.in_ok-put_frame.ensures.no_error;
      writes = kept.0 ∙ i.writes;
      closing = kept.1 ∙ i.closing;
      faults = omega (arith, draws.passes.faults, only.faults, i.faults);
      file = only.files slot ∙ file_of-drawn now middle slot draws ∙ i.file;
      puts = puts_on-more first middle last before r new w v u
          (puts_on-drawn first now middle before r w v i.puts draws) i.closing
          (λ file frames told bytes given. subst (λ more. GoesOn file frames new (Ok more)) c.if-not-branch.false
          (c.in_ok-next.ensures.goes file frames (here first now before.reader r.reader file i.slot i.file told) bytes
          i.unclosed given))
          (λ file told. c.in_ok-next.ensures.keeps file
          (here first now before.reader r.reader file i.slot i.file told))
          c.in_ok-put_frame.ensures.puts;
      made = made_on-frame first middle last slot w v u
          (made_on-drawn first now middle slot w v i.made draws) c.put_frame.ensures.made;
      drawn = reads_on-written first middle last before.reader new.reader
          (reads_on-drawn first now middle before.reader r.reader new.reader i.drawn c.next.ensures.draws
          c.next.ensures.reads.stands
          (same-file first now middle before.reader r.reader new.reader c.next.ensures.draws i.slot i.file))
          only.taken;
    }

pub returns-in_err-put_frame-clause-puts : goal.returns-in_err-put_frame-clause-puts
returns-in_err-put_frame-clause-puts g c = λ old name inputs stood file told past bytes put.
    let first = g.S.Shelf.outside c.args.shelf.now in
    let now = g.S.Shelf.outside c.frames.shelf in
    let middle = g.S.Shelf.outside c.next.new.shelf in
    let last = g.S.Shelf.outside c.put_frame.new.shelf in
    let before = c.args.frames.now in
    let r = c.frames.frames in
    let new = c.next.new.self in
    let w = c.args.writer.now in
    let v = c.frames.writer in
    let u = c.put_frame.new.writer in
    let i = c.frames.invariant in
    let error = c.in_err-put_frame.field-0.0 in
    let draws = subst (λ slot. Draws now middle slot) i.slot c.next.ensures.draws.draws in
    let p = err_from_is_err_and c.from_residual-in_err-put_frame.result c.from_residual-in_err-put_frame.ensures.1 in
    let is : c.from_residual-in_err-put_frame.result ≡ Err (input.Write error) = p.1 ∙ ap (λ e. Err e) p.2 in
    subst (λ result. PutsFrames file new w.closing stood old last name inputs u result) (sym is)
    (puts_on-given first middle last before r new w v u (Err error)
    (puts_on-drawn first now middle before r w v i.puts draws) i.closing
    (λ file frames told bytes given. subst (λ more. GoesOn file frames new (Ok more)) c.if-not-branch.false
    (c.in_ok-next.ensures.goes file frames (here first now before.reader r.reader file i.slot i.file told) bytes
    i.unclosed given))
    (λ file told. c.in_ok-next.ensures.keeps file (here first now before.reader r.reader file i.slot i.file told))
    c.in_err-put_frame.ensures.puts old name inputs stood file told past bytes put)

pub returns-in_err-put_frame-clause-draws : goal.returns-in_err-put_frame-clause-draws
returns-in_err-put_frame-clause-draws g c = λ old name inputs stood file told past bytes put start has.
    let first = g.S.Shelf.outside c.args.shelf.now in
    let now = g.S.Shelf.outside c.frames.shelf in
    let middle = g.S.Shelf.outside c.next.new.shelf in
    let last = g.S.Shelf.outside c.put_frame.new.shelf in
    let before = c.args.frames.now in
    let r = c.frames.frames in
    let new = c.next.new.self in
    let w = c.args.writer.now in
    let v = c.frames.writer in
    let i = c.frames.invariant in
    let error = c.in_err-put_frame.field-0.0 in
    let draws = subst (λ slot. Draws now middle slot) i.slot c.next.ensures.draws.draws in
    let same = same-file first now middle before.reader r.reader new.reader c.next.ensures.draws i.slot i.file in
    let reads_on = reads_on-written first middle last before.reader new.reader
    (reads_on-drawn first now middle before.reader r.reader new.reader i.drawn c.next.ensures.draws
    c.next.ensures.reads.stands same) c.put_frame.ensures.only.taken in
    let next = puts_on-next first middle before r new w v (puts_on-drawn first now middle before r w v i.puts draws)
    (λ file frames told bytes given. subst (λ more. GoesOn file frames new (Ok more)) c.if-not-branch.false
    (c.in_ok-next.ensures.goes file frames (here first now before.reader r.reader file i.slot i.file told) bytes
    i.unclosed given))
    (λ file told. c.in_ok-next.ensures.keeps file (here first now before.reader r.reader file i.slot i.file told))
    old name inputs stood file told past bytes put in
    let p = err_from_is_err_and c.from_residual-in_err-put_frame.result c.from_residual-in_err-put_frame.ensures.1 in
    let is : c.from_residual-in_err-put_frame.result ≡ Err (input.Write error) = p.1 ∙ ap (λ e. Err e) p.2 in
    subst (λ result. DrawsInput file w.closing stood start last result) (sym is)
    (draws-next file next.0 new w.closing stood old middle middle start last name inputs v error next.1
    (reads_on-read first last before.reader new.reader reads_on start file told has) c.next.ensures.reads
    c.in_ok-next.ensures.no_error (same ∙ told))

pub returns-in_err-put_frame-clause-made : goal.returns-in_err-put_frame-clause-made
unfolding MadeOn
returns-in_err-put_frame-clause-made g c =
    let first = g.S.Shelf.outside c.args.shelf.now in
    let now = g.S.Shelf.outside c.frames.shelf in
    let middle = g.S.Shelf.outside c.next.new.shelf in
    let last = g.S.Shelf.outside c.put_frame.new.shelf in
    let slot = c.args.frames.now.reader.position.slot in
    let w = c.args.writer.now in
    let v = c.frames.writer in
    let draws = subst (λ slot. Draws now middle slot) c.frames.invariant.slot c.next.ensures.draws.draws in
    made_on-frame first middle last slot w v c.put_frame.new.writer
    (made_on-drawn first now middle slot w v c.frames.invariant.made draws) c.put_frame.ensures.made
