-- Each step by the lemma of its name on copying on its way.
use Rattle.std.proofs.Common.{◌≡◌, ◌+◌, inl, inr, arith, rules}
use Rattle.frame_outside.proofs.Reading.{on_err}
use Rattle.outside_trial.proofs.Pieces.{copied_none, IsTarget-passes, copied_more, copied_all, front_so_far}
use Rattle.outside_trial.proofs.Pieces.{front_no_take, front_no_memory, front_no_put, too_many, by_error}
use Rattle.outside_trial.proofs.Pieces.{rose_since}
use Rattle.outside_trial.proofs.copying.copy_through.Goals as goal

pub pieces-init : goal.pieces-init
pieces-init g c = record {
  room = c.requires.room;
  copied = copied_none _ _ _ c.requires.source c.requires.target;
}

pub returns-in_default-clause-front : goal.returns-in_default-clause-front
returns-in_default-clause-front g c = front_no_take _ _ _ _ _ _ c.pieces.invariant.copied
    c.in_default.ensures.refused

pub returns-then-count-eq0-clause-all : goal.returns-then-count-eq0-clause-all
returns-then-count-eq0-clause-all g c =
    copied_all _ _ _ _ _ _ c.in-Ok.count c.take.new.into c.pieces.invariant.copied c.in-Ok.ensures.passes
    c.in-Ok.ensures.gives (omega arith) c.if-count-eq0.true

pub put-requires : goal.put-requires
put-requires g c = IsTarget-passes _ _ _ _ _ c.in-Ok.ensures.passes c.pieces.invariant.copied.target

pub returns-in_err-put-clause-front : goal.returns-in_err-put-clause-front
returns-in_err-put-clause-front g c =
    on_err c.from_residual.result (by_error c.put.result _ c.in_err-put.was
    (λ failed. front_no_put _ _ _ _ _ _ _ c.in-Ok.count c.take.new.into c.pieces.invariant.copied
    c.in-Ok.ensures.passes c.in-Ok.ensures.gives c.in-Ok.ensures.room (c.put.ensures.part failed))
    (λ none. front_no_memory _ _ _ _ _ _ _ c.in-Ok.count c.pieces.invariant.copied c.in-Ok.ensures.passes
    (c.put.ensures.none none)))

pub returns-in_err-put-clause-failed : goal.returns-in_err-put-clause-failed
returns-in_err-put-clause-failed g c = λ failed.
    inl (rose_since _ _ _ (g.S.Shelf.outside c.put.new.self) _ _ _ c.in-Ok.count c.pieces.invariant.copied
    c.in-Ok.ensures.passes (c.put.ensures.failed (search rules)))

pub returns-in_default-checked_add-clause-front : goal.returns-in_default-checked_add-clause-front
returns-in_default-checked_add-clause-front g c =
    front_so_far _ _ _ _ _ (copied_more _ _ _ _ _ _ _ c.in-Ok.count c.take.new.into
    c.pieces.invariant.copied c.in-Ok.ensures.passes c.in-Ok.ensures.gives c.in-Ok.ensures.room
    c.in_ok-put.ensures.ok)

pub returns-in_default-checked_add-clause-failed : goal.returns-in_default-checked_add-clause-failed
returns-in_default-checked_add-clause-failed g c = λ _.
    inr (too_many _ _ _ _ (c.pieces.copied + c.in-Ok.count)
    (copied_more _ _ _ _ _ _ _ c.in-Ok.count c.take.new.into c.pieces.invariant.copied
    c.in-Ok.ensures.passes c.in-Ok.ensures.gives c.in-Ok.ensures.room c.in_ok-put.ensures.ok)
    (search rules))

pub pieces-preserved : goal.pieces-preserved
pieces-preserved g c =
    let more : c.in-Some.more ≡ c.pieces.copied + c.in-Ok.count = search rules in
    record {
      room = omega arith;
      copied = rw more (copied_more _ _ _ _ _ _ _ c.in-Ok.count c.take.new.into c.pieces.invariant.copied
          c.in-Ok.ensures.passes c.in-Ok.ensures.gives c.in-Ok.ensures.room c.in_ok-put.ensures.ok);
    }
