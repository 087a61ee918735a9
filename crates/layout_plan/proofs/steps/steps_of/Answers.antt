use Rattle.std.proofs.Common.{◌≡◌, true, false, is_some, length, refl, sym, ap, ◌∙◌}
use Rattle.layout_plan.specs.Marks.{fixed_width, is_varied}
use Rattle.std.proofs.lemmas.Option.{slice_get_read}
use Rattle.layout_plan.proofs.StepLemmas.{AreStepsSoFar-more}
use Rattle.layout_plan.proofs.steps.steps_of.Goals as goal

pub loop-i-preserved : goal.loop-i-preserved
loop-i-preserved c =
    let f = c.index-fields-i.result in
    let here = slice_get_read c.args.fields.now (length c.args.fields.now) c.loop-i.i f refl c.loop-i-test.true
    c.index-fields-i.is in
    let fixed : is_some (fixed_width f.form f.counts) ≡ false =
    sym (c.is_some.ensures ∙ ap is_some c.fixed_width.ensures) ∙ c.if-is_some.false in
    let varied : is_varied f ≡ true = rw fixed in
    rw c.in_ok-push.ensures.ok
    (AreStepsSoFar-more c.args.fields.now c.loop-i.i c.loop-i.steps f c.in_ok-step.step c.loop-i.invariant
    c.loop-i-test.true c.index-fields-i.is varied (c.in_ok-step.ensures f here))
