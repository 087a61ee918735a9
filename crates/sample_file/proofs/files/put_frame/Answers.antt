-- The frame that was filled is written as a writer answers to it.
use Rattle.std.proofs.lemmas.Result.{err_from_is_err_and}
use Rattle.sample_file.proofs.PutFrames.{puts-frame, puts-none}
use Rattle.sample_file.proofs.files.put_frame.Goals as goal

pub returns-in_err-numbering-clause-put : goal.returns-in_err-numbering-clause-put
returns-in_err-numbering-clause-put g c =
    let p = err_from_is_err_and c.from_residual.result c.from_residual.ensures.1 in
    rw (p.1, p.2) (puts-none c.args.k (g.S.Shelf.outside c.args.shelf.now) c.args.writer.now c.args.writer.now)

pub returns-clause-put : goal.returns-clause-put
returns-clause-put g c =
    puts-frame c.args.k (g.S.Shelf.outside c.args.shelf.now) (g.S.Shelf.outside c.frame.new.shelf) c.args.writer.now
    c.frame.new.self c.fill.new.self c.in_ok-numbering.numbering c.frame.result c.requires.few c.requires.written
    c.fill.ensures.room c.in_ok-numbering.ensures.frame (record {
      answer = c.frame.ensures.answer c.requires.written.error;
      puts = c.frame.ensures.puts c.requires.written.error;
      written = c.frame.ensures.written;
      closing = c.frame.ensures.kept.1;
      no_error = c.frame.ensures.no_error;
    })
