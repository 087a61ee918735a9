-- Each step by the lemma of its name on what is read on.
use Rattle.std.proofs.Common.{true, Ok, Err, refl, sym, ap, subst, ◌∙◌}
use Rattle.structure_source.proofs.Going.{goes-none, goes-more}
use Rattle.content_compare.specs.Sides.{EndsAs}
use Rattle.content_compare.proofs.ReadingOn.{NextDoes, reads-again}
use Rattle.content_compare.proofs.ReadingOn.{reads_on-init, reads_on-more, reads_on-ends, reads_on-breaks}
use Rattle.content_compare.proofs.differences.read_to_end.Goals as goal

pub frames-init : goal.frames-init
frames-init g c = record {
  reads = c.requires.reads;
  error = c.requires.error;
  again = λ closed. refl;
  passes = goes-none (g.S.Shelf.outside c.args.shelf.now) c.args.frames.now.reader.position;
  on = reads_on-init (g.S.Shelf.outside c.args.shelf.now) c.args.frames.now;
}

pub frames-preserved : goal.frames-preserved
frames-preserved g c =
    let first = g.S.Shelf.outside c.args.shelf.now in
    let now = g.S.Shelf.outside c.frames.shelf in
    let next = g.S.Shelf.outside c.next.new.shelf in
    let before = c.args.frames.now in
    let r = c.frames.frames in
    let new = c.next.new.self in
    let i = c.frames.invariant in
    let does : NextDoes now r new (Ok true) =
    subst (NextDoes now r new) (c.in-Ok-true.is ∙ ap Ok c.in-Ok-true.field-0-test) (record {
      goes = c.next.ensures.goes;
      on = c.next.ensures.on;
      end = c.next.ensures.end;
      again = c.next.ensures.end_again;
    }) in
    record {
      reads = c.next.ensures.reads;
      error = c.in-Ok-true.ensures.no_error;
      again = reads-again now before r new i.again does;
      passes = goes-more first now next before.reader.position r.reader.position new.reader.position i.passes
          c.next.ensures.draws;
      on = reads_on-more first now before r new true i.on i.passes does;
    }

pub returns-in-Ok-false-clause-ends : goal.returns-in-Ok-false-clause-ends
returns-in-Ok-false-clause-ends g c =
    let first = g.S.Shelf.outside c.args.shelf.now in
    let now = g.S.Shelf.outside c.frames.shelf in
    let r = c.frames.frames in
    let new = c.next.new.self in
    reads_on-ends first now c.args.frames.now r new c.args.number c.frames.invariant.on c.frames.invariant.passes
    (subst (NextDoes now r new) (c.in-Ok-false.is ∙ ap Ok c.in-Ok-false.field-0-test) (record {
      goes = c.next.ensures.goes;
      on = c.next.ensures.on;
      end = c.next.ensures.end;
      again = c.next.ensures.end_again;
    }))

pub returns-in-Ok-false-clause-draws : goal.returns-in-Ok-false-clause-draws
returns-in-Ok-false-clause-draws g c =
    goes-more _ _ _ _ _ c.next.new.self.reader.position c.frames.invariant.passes c.next.ensures.draws

pub returns-in-Err-clause-ends : goal.returns-in-Err-clause-ends
returns-in-Err-clause-ends g c = λ file given told bytes side.
    let first = g.S.Shelf.outside c.args.shelf.now in
    let now = g.S.Shelf.outside c.frames.shelf in
    let r = c.frames.frames in
    let new = c.next.new.self in
    subst (λ error. EndsAs c.args.number file given new (Err error)) (sym c.of_file.ensures)
    (reads_on-breaks first now c.args.frames.now r new c.args.number c.in-Err.error c.frames.invariant.on
    c.frames.invariant.passes
    (subst (NextDoes now r new) c.in-Err.is (record {
      goes = c.next.ensures.goes;
      on = c.next.ensures.on;
      end = c.next.ensures.end;
      again = c.next.ensures.end_again;
    })) file given told bytes side)

pub returns-in-Err-clause-draws : goal.returns-in-Err-clause-draws
returns-in-Err-clause-draws g c =
    goes-more _ _ _ _ _ c.next.new.self.reader.position c.frames.invariant.passes c.next.ensures.draws
