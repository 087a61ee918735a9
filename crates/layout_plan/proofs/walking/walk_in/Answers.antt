use Rattle.std.proofs.Common.{◌≡◌, ◌+◌, get_or, set, ◌<◌, length, arith, ap, sym, ◌∙◌, subst}
use Rattle.layout_plan.specs.declared.marks.Mark.{Mark}
use Rattle.layout_plan.specs.Marks.{mark_of, end_of}
use Rattle.layout_plan.proofs.MarkLemmas.{mark_of-varied}
use Rattle.std.proofs.lemmas.List.{length-take}
use Rattle.layout_plan.specs.declared.steps.Step.{Step}
use Rattle.layout_plan.specs.Steps.{counted_by, no_step, steps_of}
use Rattle.layout_plan.proofs.StepLemmas.{steps-before, steps-at, steps-is, IsStepAt, IsStepAt-step}
use Rattle.layout_plan.proofs.ReachLemmas.{IsWalked-more, IsWalked-here, end_of-set}
use Rattle.layout_plan.proofs.PassLemmas.{step-repeats, step-stays}
use Rattle.layout_plan.proofs.walking.walk_in.Goals as goal

pub slice_bounds-passed-end : goal.slice_bounds-passed-end
slice_bounds-passed-end c =
    sym (steps-before c.args.plan.now c.steps.result.now c.args.k c.mark-mark.result.varied c.steps.ensures.steps
    c.requires.fields (ap (λ (m : Mark). m.varied) c.mark-mark.ensures.mark))

pub pass-requires-clause-step : goal.pass-requires-clause-step
pass-requires-clause-step c =
    let at = steps-at c.args.plan.now c.steps.result.now c.args.k c.mark-mark.result.varied c.loop-j.j
    c.index-passed-j.result c.steps.ensures.steps c.requires.fields
    (ap (λ (m : Mark). m.varied) c.mark-mark.ensures.mark) c.loop-j-test.true in
    IsStepAt-step c.args.plan.now c.loop-j.j c.index-passed-j.result
    (subst (IsStepAt c.args.plan.now c.loop-j.j) (sym c.index-passed-j.is) at)

pub pass-requires-clause-walked : goal.pass-requires-clause-walked
pass-requires-clause-walked c =
    let at = steps-at c.args.plan.now c.steps.result.now c.args.k c.mark-mark.result.varied c.loop-j.j
    c.index-passed-j.result c.steps.ensures.steps c.requires.fields
    (ap (λ (m : Mark). m.varied) c.mark-mark.ensures.mark) c.loop-j-test.true in
    let n = (subst (IsStepAt c.args.plan.now c.loop-j.j) (sym c.index-passed-j.is) at).numbered in
    let same = mark_of-varied c.args.plan.now c.index-passed-j.result.field ∙ n.before in
    rw same c.loop-j.invariant.walked

pub loop-j-preserved : goal.loop-j-preserved
loop-j-preserved c =
    let count = ap (λ (m : Mark). m.varied) c.mark-mark.ensures.mark in
    let at = steps-at c.args.plan.now c.steps.result.now c.args.k c.mark-mark.result.varied c.loop-j.j
    c.index-passed-j.result c.steps.ensures.steps c.requires.fields count c.loop-j-test.true in
    let n = (subst (IsStepAt c.args.plan.now c.loop-j.j) (sym c.index-passed-j.is) at).numbered in
    let k = c.index-passed-j.result.field in
    let whole = steps-before c.args.plan.now c.steps.result.now c.args.k c.mark-mark.result.varied
    c.steps.ensures.steps c.requires.fields count in
    let room : c.loop-j.j < length c.loop-j.ends =
    omega (arith, whole, count, c.requires.room, c.loop-j.auto.ends, c.loop-j-test.true) in
    let st = IsStepAt-step c.args.plan.now c.loop-j.j c.index-passed-j.result
    (subst (IsStepAt c.args.plan.now c.loop-j.j) (sym c.index-passed-j.is) at) in
    let here = steps-is c.args.plan.now c.steps.result.now c.args.k c.mark-mark.result.varied c.loop-j.j
    c.index-passed-j.result c.steps.ensures.steps c.requires.fields count c.loop-j-test.true c.index-passed-j.is in
    let stays = step-stays c.args.order c.args.plan.now c.args.body.now c.loop-j.ends c.loop-j.j c.in-Ok.walked.at
    c.index-passed-j.result c.steps.ensures.layout.sound st
    (omega (arith, mark_of-varied c.args.plan.now k, n.before)) in
    record {
      walked = IsWalked-more c.args.order c.args.plan.now c.args.body.now c.loop-j.j k n.field c.loop-j.ends
          c.in-Ok.walked.at c.in-Ok.walked.zero_texts n.is n.passes (mark_of-varied c.args.plan.now k ∙ n.before) room
          c.in-Ok.ensures.told.1 c.in-Ok.ensures.told.0;
      at = end_of-set c.loop-j.ends c.loop-j.j c.in-Ok.walked.at room;
      counted = λ i last.
          let this : c.loop-j.j ≡ i = omega (arith, last) in
          c.in-Ok.ensures.counted
          ∙ stays
          ∙ ap (λ (s : Step). counted_by c.args.order c.args.body.now
          (set c.loop-j.ends c.loop-j.j c.in-Ok.walked.at) s.counters)
          (here ∙ ap (λ i. get_or (steps_of c.args.plan.now) i no_step) this);
    }

pub pass-requires-clause-at : goal.pass-requires-clause-at
pass-requires-clause-at c =
    let at = steps-at c.args.plan.now c.steps.result.now c.args.k c.mark-mark.result.varied c.loop-j.j
    c.index-passed-j.result c.steps.ensures.steps c.requires.fields
    (ap (λ (m : Mark). m.varied) c.mark-mark.ensures.mark) c.loop-j-test.true in
    let n = (subst (IsStepAt c.args.plan.now c.loop-j.j) (sym c.index-passed-j.is) at).numbered in
    let same = mark_of-varied c.args.plan.now c.index-passed-j.result.field ∙ n.before in
    c.loop-j.invariant.at ∙ ap (end_of c.loop-j.ends) (sym same)

pub pass-requires-clause-repeats : goal.pass-requires-clause-repeats
pass-requires-clause-repeats c = λ again.
    let count = ap (λ (m : Mark). m.varied) c.mark-mark.ensures.mark in
    step-repeats c.args.order c.args.body.now c.loop-j.ends (steps_of c.args.plan.now) c.repeats-repeats.result.now
    c.loop-j.j c.loop-j.counted c.index-passed-j.result c.repeats-repeats.ensures
    (omega (
      arith,
      ap length c.steps.ensures.steps,
      length-take c.mark-mark.result.varied c.steps.result.now,
      c.loop-j-test.true,
    )) again
    (steps-is c.args.plan.now c.steps.result.now c.args.k c.mark-mark.result.varied c.loop-j.j c.index-passed-j.result
    c.steps.ensures.steps c.requires.fields count c.loop-j-test.true c.index-passed-j.is) c.loop-j.invariant.counted

pub cut_fault-requires-clause-walked : goal.cut_fault-requires-clause-walked
cut_fault-requires-clause-walked c =
    let count = ap (λ (m : Mark). m.varied) c.mark-mark.ensures.mark in
    let whole = steps-before c.args.plan.now c.steps.result.now c.args.k c.mark-mark.result.varied
    c.steps.ensures.steps c.requires.fields count in
    let all : c.loop-j.j ≡ (mark_of c.args.plan.now c.args.k).varied =
    omega (arith, whole, count, c.loop-j.auto.j-end, c.loop-j-test.false) in
    (c.args.order, c.loop-j.zero_texts, rw all at c.loop-j.invariant.walked)

pub cut_fault-requires-clause-after : goal.cut_fault-requires-clause-after
cut_fault-requires-clause-after c =
    let count = ap (λ (m : Mark). m.varied) c.mark-mark.ensures.mark in
    let whole = steps-before c.args.plan.now c.steps.result.now c.args.k c.mark-mark.result.varied
    c.steps.ensures.steps c.requires.fields count in
    let all : c.loop-j.j ≡ (mark_of c.args.plan.now c.args.k).varied =
    omega (arith, whole, count, c.loop-j.auto.j-end, c.loop-j-test.false) in
    let end = c.loop-j.invariant.at ∙ ap (end_of c.loop-j.ends) all in
    let skip = ap (λ (m : Mark). m.skip) c.mark-mark.ensures.mark in
    omega (arith, end, skip, c.if-end-body.true)

pub returns-then-end-body : goal.returns-then-end-body
returns-then-end-body c =
    let count = ap (λ (m : Mark). m.varied) c.mark-mark.ensures.mark in
    let whole = steps-before c.args.plan.now c.steps.result.now c.args.k c.mark-mark.result.varied
    c.steps.ensures.steps c.requires.fields count in
    let all : c.loop-j.j ≡ (mark_of c.args.plan.now c.args.k).varied =
    omega (arith, whole, count, c.loop-j.auto.j-end, c.loop-j-test.false) in
    c.cut_fault.ensures c.args.order c.loop-j.zero_texts (rw all at c.loop-j.invariant.walked)

pub returns : goal.returns
returns c =
    let count = ap (λ (m : Mark). m.varied) c.mark-mark.ensures.mark in
    let whole = steps-before c.args.plan.now c.steps.result.now c.args.k c.mark-mark.result.varied
    c.steps.ensures.steps c.requires.fields count in
    let all : c.loop-j.j ≡ (mark_of c.args.plan.now c.args.k).varied =
    omega (arith, whole, count, c.loop-j.auto.j-end, c.loop-j-test.false) in
    let end = c.loop-j.invariant.at ∙ ap (end_of c.loop-j.ends) all in
    let skip = ap (λ (m : Mark). m.skip) c.mark-mark.ensures.mark in
    IsWalked-here c.args.order c.args.plan.now c.args.body.now c.args.k c.loop-j.ends
    (c.loop-j.at + c.mark-mark.result.skip) c.loop-j.zero_texts (rw all at c.loop-j.invariant.walked) c.requires.fields
    (omega (arith, end, skip)) c.if-end-body.false
