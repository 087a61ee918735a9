use Rattle.std.proofs.Common.{refl, arith}
use Rattle.layout_plan.proofs.ReachLemmas.{IsWalked-back}
use Rattle.layout_plan.proofs.walking.cut_field.Goals as goal

pub loop-i-init : goal.loop-i-init
loop-i-init c =
    let back = IsWalked-back c.requires.walked.0 c.args.plan.now c.args.body.now c.args.k c.args.k c.args.ends.now
    c.requires.walked.1 c.requires.walked.2 refl c.requires.after in
    record { below = omega (arith, back.some); same = back.same; cut = back.cut }

pub loop-i-preserved : goal.loop-i-preserved
loop-i-preserved c =
    let after = rw (c.place.ensures, c.mark.ensures.mark) at c.loop-i-test.true in
    let back = IsWalked-back c.requires.walked.0 c.args.plan.now c.args.body.now c.loop-i.i c.args.k c.args.ends.now
    c.requires.walked.1 c.requires.walked.2 c.loop-i.invariant.same after in
    record { below = omega (arith, c.loop-i.invariant.below); same = back.same; cut = back.cut }
