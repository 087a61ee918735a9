-- Each step by the lemma of its name on a walk.
use Rattle.std.proofs.Common.{◌≡◌, ◌+◌, ◌-◌, refl, subst, arith}
use Rattle.frame_outside.proofs.Reading.{HasGone, gone_none, gone_more, gone_refused}
use Rattle.frame_tool.specs.WalkSteps.{Moves, Stood}
use Rattle.frame_tool.proofs.Walking.{stood_none, stood_more, stood_all, fault_after, found_later}
use Rattle.frame_tool.proofs.walk.walk_structures.Goals as goal

pub structures-init : goal.structures-init
structures-init g c = record {
  begun = omega arith;
  within = omega arith;
  counted = omega arith;
  gone = gone_none _ _ c.requires;
  stood = λ rest _. stood_none c.args.order rest;
}

pub returns-in_err-length-clause-draws : goal.returns-in_err-length-clause-draws
returns-in_err-length-clause-draws g c =
    gone_refused _ _ _ _ _ _ c.structures.invariant.gone c.in_err-length.ensures.refused

pub structures-preserved : goal.structures-preserved
structures-preserved g c =
    let moves = subst (Moves _ _ _ _ c.structures.at) c.in-Structure.is c.in_ok-length.ensures.moves in
    let size : (c.structures.at - 40) + c.in-Structure.length ≡ c.structures.at + c.in-Structure.length - 40 =
    omega (arith, c.structures.invariant.begun) in
    record {
      begun = omega (arith, c.structures.invariant.begun);
      within = moves.2;
      counted = omega (arith, c.structures.invariant.counted, moves.1);
      gone = subst (HasGone _ _ _ _) size (gone_more _ _ _ _ _ _ _ _ c.structures.invariant.gone moves.0);
      stood = λ rest told. subst (λ n. Stood c.args.order rest n (c.structures.structures + 1)) size
          (stood_more c.args.order rest (c.structures.at - 40) c.structures.structures c.structures.at
          c.in-Structure.length (omega (arith, c.structures.invariant.begun)) (c.structures.invariant.stood rest told)
          (found_later _ _ _ _ c.args.order c.structures.at (c.structures.at - 40) _ _ c.structures.invariant.gone
          c.in_ok-length.ensures.found c.in-Structure.is rest told));
    }

pub returns-in-End-clause-verdict : goal.returns-in-End-clause-verdict
returns-in-End-clause-verdict g c = λ rest told. (
  refl,
  stood_all c.args.order rest (c.structures.at - 40) c.structures.structures c.structures.at
      (c.structures.invariant.stood rest told)
      (found_later _ _ _ _ c.args.order c.structures.at (c.structures.at - 40) _ _ c.structures.invariant.gone
      c.in_ok-length.ensures.found c.in-End.is rest told),
)

pub returns-in-End-clause-draws : goal.returns-in-End-clause-draws
returns-in-End-clause-draws g c =
    gone_refused _ _ _ _ _ _ c.structures.invariant.gone
    (subst (Moves _ _ _ _ c.structures.at) c.in-End.is c.in_ok-length.ensures.moves)

pub returns-in-Fault-clause-verdict : goal.returns-in-Fault-clause-verdict
returns-in-Fault-clause-verdict g c = λ rest told.
    fault_after c.args.order rest (c.structures.at - 40) c.structures.structures c.structures.at c.in-Fault.reason
    (omega (arith, c.structures.invariant.begun)) (c.structures.invariant.stood rest told)
    (found_later _ _ _ _ c.args.order c.structures.at (c.structures.at - 40) _ _ c.structures.invariant.gone
    c.in_ok-length.ensures.found c.in-Fault.is rest told)

pub returns-in-Fault-clause-draws : goal.returns-in-Fault-clause-draws
returns-in-Fault-clause-draws g c =
    gone_refused _ _ _ _ _ _ c.structures.invariant.gone
    (subst (Moves _ _ _ _ c.structures.at) c.in-Fault.is c.in_ok-length.ensures.moves)
