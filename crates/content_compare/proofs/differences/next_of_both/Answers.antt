-- Both readers read on, and an error by what it says of the two files.
use Rattle.std.proofs.Common.{◌++◌, Err, sym, ap, subst, ◌∙◌}
use Rattle.std.proofs.lemmas.Result.{err_from_is_err_and}
use Rattle.content_compare.specs.Sides.{BothMove, ReadOn, Stops}
use Rattle.content_compare.proofs.Draws.{file-stays, read-first, read-both, read-back, told-first}
use Rattle.content_compare.proofs.ReadingOn.{NextDoes, next-moves, next-side}
use Rattle.content_compare.proofs.Sides.{stops-first, stops-before, stops-second}
use Rattle.content_compare.proofs.differences.next_of_both.Goals as goal

pub returns-in-Err-clause-moves : goal.returns-in-Err-clause-moves
returns-in-Err-clause-moves g c = λ file other frames others told also bytes too side beside.
    let old = g.S.Shelf.outside c.args.shelf.now in
    let r = c.args.first.now in
    let new = c.next.new.self in
    subst (Stops file other) (sym c.of_file.ensures)
    (stops-first old r new file other frames c.in-Err.error
    (subst (NextDoes old r new) c.in-Err.is (record {
      goes = c.next.ensures.goes;
      on = c.next.ensures.on;
      end = c.next.ensures.end;
      again = c.next.ensures.end_again;
    })) told bytes side)

pub returns-in-Err-clause-reads : goal.returns-in-Err-clause-reads
returns-in-Err-clause-reads g c =
    read-first _ _ c.args.first.now.reader c.args.second.now.reader c.next.new.self.reader c.next.ensures.draws
    c.next.ensures.reads c.requires.second c.requires.apart

pub next-requires-2-clause-reads : goal.next-requires-2-clause-reads
next-requires-2-clause-reads g c =
    (read-first _ _ c.args.first.now.reader c.args.second.now.reader c.next.new.self.reader c.next.ensures.draws
    c.next.ensures.reads c.requires.second c.requires.apart).second

pub read_to_end-requires-clause-reads : goal.read_to_end-requires-clause-reads
read_to_end-requires-clause-reads g c =
    (read-both _ _ _ c.args.first.now.reader c.args.second.now.reader c.next.new.self.reader c.next-2.new.self.reader
    c.next.ensures.draws c.next.ensures.reads c.next-2.ensures.draws c.next-2.ensures.reads c.requires.second
    c.requires.apart).first

pub returns-in_err-read_to_end-in-Err-next-clause-moves :
    goal.returns-in_err-read_to_end-in-Err-next-clause-moves
returns-in_err-read_to_end-in-Err-next-clause-moves g c = λ file other frames others told also bytes too side beside.
    let old = g.S.Shelf.outside c.args.shelf.now in
    let middle = g.S.Shelf.outside c.next.new.shelf in
    let r = c.args.first.now in
    let s = c.args.second.now in
    let q = c.next.new.self in
    let p = c.next-2.new.self in
    let on : ReadOn old (g.S.Shelf.outside c.next-2.new.shelf) r.reader s.reader q.reader p.reader =
    read-both _ _ _ c.args.first.now.reader c.args.second.now.reader c.next.new.self.reader c.next-2.new.self.reader
    c.next.ensures.draws c.next.ensures.reads c.next-2.ensures.draws c.next-2.ensures.reads c.requires.second
    c.requires.apart in
    let now = next-side old r q file frames c.in-Ok.more (subst (NextDoes old r q) c.in-Ok.is (record {
      goes = c.next.ensures.goes;
      on = c.next.ensures.on;
      end = c.next.ensures.end;
      again = c.next.ensures.end_again;
    })) told bytes side in
    let from = err_from_is_err_and c.from_residual.result c.from_residual.ensures.1 in
    subst (BothMove file other frames others c.read_to_end.new.frames p) (sym (from.1 ∙ ap (λ e. Err e) from.2))
    (stops-before file other (frames ++ now.0) c.read_to_end.new.frames c.in_err-read_to_end-in-Err-next.field-0.0
    (c.in_err-read_to_end-in-Err-next.ensures.ends file (frames ++ now.0)
    (told-first _ _ r.reader s.reader q.reader p.reader file on told) bytes now.1))

pub returns-in_err-read_to_end-in-Err-next-clause-reads :
    goal.returns-in_err-read_to_end-in-Err-next-clause-reads
returns-in_err-read_to_end-in-Err-next-clause-reads g c =
    read-back _ _ _ c.args.first.now.reader c.args.second.now.reader c.next.new.self.reader c.next-2.new.self.reader
    c.read_to_end.new.frames.reader
    (read-both _ _ _ c.args.first.now.reader c.args.second.now.reader c.next.new.self.reader c.next-2.new.self.reader
    c.next.ensures.draws c.next.ensures.reads c.next-2.ensures.draws c.next-2.ensures.reads c.requires.second
    c.requires.apart) c.read_to_end.ensures.draws c.read_to_end.ensures.reads c.requires.apart

pub returns-in-Ok-next-clause-moves : goal.returns-in-Ok-next-clause-moves
returns-in-Ok-next-clause-moves g c = λ file other frames others told also bytes too side beside.
    let old = g.S.Shelf.outside c.args.shelf.now in
    let middle = g.S.Shelf.outside c.next.new.shelf in
    let r = c.args.first.now in
    let s = c.args.second.now in
    let q = c.next.new.self in
    let p = c.next-2.new.self in (
      next-moves old r q file frames c.in-Ok.more (subst (NextDoes old r q) c.in-Ok.is (record {
        goes = c.next.ensures.goes;
        on = c.next.ensures.on;
        end = c.next.ensures.end;
        again = c.next.ensures.end_again;
      })) told bytes side,
      next-moves middle s p other others c.in-Ok-next.also (subst (NextDoes middle s p) c.in-Ok-next.is (record {
        goes = c.next-2.ensures.goes;
        on = c.next-2.ensures.on;
        end = c.next-2.ensures.end;
        again = c.next-2.ensures.end_again;
      })) (file-stays old middle r.reader.position.slot s.reader.position.slot c.next.ensures.draws.draws ∙ also) too
          beside,
    )

pub returns-in-Ok-next-clause-keeps : goal.returns-in-Ok-next-clause-keeps
returns-in-Ok-next-clause-keeps g c = (
  c.in-Ok.ensures.keeps,
  λ file told. c.in-Ok-next.ensures.keeps file
      (file-stays (g.S.Shelf.outside c.args.shelf.now) (g.S.Shelf.outside c.next.new.shelf)
      c.args.first.now.reader.position.slot c.args.second.now.reader.position.slot c.next.ensures.draws.draws ∙ told),
)

pub returns-in-Ok-next-clause-reads : goal.returns-in-Ok-next-clause-reads
returns-in-Ok-next-clause-reads g c =
    read-both _ _ _ c.args.first.now.reader c.args.second.now.reader c.next.new.self.reader c.next-2.new.self.reader
    c.next.ensures.draws c.next.ensures.reads c.next-2.ensures.draws c.next-2.ensures.reads c.requires.second
    c.requires.apart

pub returns-in_ok-read_to_end-in-Err-next-clause-moves :
    goal.returns-in_ok-read_to_end-in-Err-next-clause-moves
returns-in_ok-read_to_end-in-Err-next-clause-moves g c = λ file other frames others told also bytes too side beside.
    let old = g.S.Shelf.outside c.args.shelf.now in
    let middle = g.S.Shelf.outside c.next.new.shelf in
    let r = c.args.first.now in
    let s = c.args.second.now in
    let q = c.next.new.self in
    let p = c.next-2.new.self in
    let on : ReadOn old (g.S.Shelf.outside c.next-2.new.shelf) r.reader s.reader q.reader p.reader =
    read-both _ _ _ c.args.first.now.reader c.args.second.now.reader c.next.new.self.reader c.next-2.new.self.reader
    c.next.ensures.draws c.next.ensures.reads c.next-2.ensures.draws c.next-2.ensures.reads c.requires.second
    c.requires.apart in
    let now = next-side old r q file frames c.in-Ok.more (subst (NextDoes old r q) c.in-Ok.is (record {
      goes = c.next.ensures.goes;
      on = c.next.ensures.on;
      end = c.next.ensures.end;
      again = c.next.ensures.end_again;
    })) told bytes side in
    subst (Stops file other) (sym c.of_file-in-Err-next.ensures)
    (stops-second middle s p c.read_to_end.new.frames file other (frames ++ now.0) others c.in-Err-next.error
    (c.in_ok-read_to_end-in-Err-next.ensures.ends file (frames ++ now.0)
    (told-first _ _ r.reader s.reader q.reader p.reader file on told) bytes now.1)
    (subst (NextDoes middle s p) c.in-Err-next.is (record {
      goes = c.next-2.ensures.goes;
      on = c.next-2.ensures.on;
      end = c.next-2.ensures.end;
      again = c.next-2.ensures.end_again;
    }))
    (file-stays old middle r.reader.position.slot s.reader.position.slot c.next.ensures.draws.draws ∙ also) too beside)

pub returns-in_ok-read_to_end-in-Err-next-clause-reads :
    goal.returns-in_ok-read_to_end-in-Err-next-clause-reads
returns-in_ok-read_to_end-in-Err-next-clause-reads g c =
    read-back _ _ _ c.args.first.now.reader c.args.second.now.reader c.next.new.self.reader c.next-2.new.self.reader
    c.read_to_end.new.frames.reader
    (read-both _ _ _ c.args.first.now.reader c.args.second.now.reader c.next.new.self.reader c.next-2.new.self.reader
    c.next.ensures.draws c.next.ensures.reads c.next-2.ensures.draws c.next-2.ensures.reads c.requires.second
    c.requires.apart) c.read_to_end.ensures.draws c.read_to_end.ensures.reads c.requires.apart
