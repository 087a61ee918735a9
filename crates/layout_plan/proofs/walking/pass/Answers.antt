use Rattle.std.proofs.Common.{ℕ, List, ◌∙◌, ◌+◌, ◌-◌, length, take, drop, ap, sym, subst, Err, arith}
use Rattle.std.proofs.lemmas.Option.{slice_get_within}
use Rattle.layout_plan.specs.declared.steps.Step.{Step}
use Rattle.layout_plan.specs.Reading.{field_in}
use Rattle.layout_plan.specs.Spelled.{Tells}
use Rattle.layout_plan.specs.Walking.{AreNumbers}
use Rattle.layout_plan.proofs.PassLemmas.{step-start}
use Rattle.layout_plan.proofs.ReachLemmas.{IsReached-spelled, IsReached-unspelled}
use Rattle.layout_plan.proofs.StepLemmas.{step-there, step-amount}
use Rattle.layout_plan.proofs.walking.pass.Goals as goal

pub returns-then-start-body-clause-told : goal.returns-then-start-body-clause-told
returns-then-start-body-clause-told c =
    c.cut_fault.ensures c.args.order c.args.before.zero_texts c.requires.walked

pub spelled_at-spelled-requires-clause-there : goal.spelled_at-spelled-requires-clause-there
spelled_at-spelled-requires-clause-there c =
    let st = c.requires.step in
    let k = c.args.step.now.field in
    let at = c.args.before.at + c.args.step.now.mark.skip in
    let start = step-start c.args.order c.args.plan.now c.args.body.now c.args.ends.now c.args.step.now
    c.args.before.at c.args.before.zero_texts st c.requires.walked c.requires.at c.if-start-body.false in
    step-there c.args.order c.args.plan.now c.args.body.now k st.field c.args.ends.now c.args.step.now st.made st.is
    c.requires.layout.sound (slice_get_within c.args.plan.now k st.field st.is) start.1

pub overflow_add-result : goal.overflow_add-result
overflow_add-result c =
    let st = c.requires.step in
    let k = c.args.step.now.field in
    let at = c.args.before.at + c.args.step.now.mark.skip in
    let start = step-start c.args.order c.args.plan.now c.args.body.now c.args.ends.now c.args.step.now
    c.args.before.at c.args.before.zero_texts st c.requires.walked c.requires.at c.if-start-body.false in
    let amount = step-amount c.args.order c.args.plan.now c.args.body.now k st.field c.args.ends.now c.args.step.now
    st.made st.is c.requires.layout.sound (slice_get_within c.args.plan.now k st.field st.is) start.1 in
    let told = λ (numbers : List ℕ) (are : AreNumbers c.args.order c.args.plan.now c.args.body.now k numbers).
    c.spelled_at-spelled.ensures.spelled st.field numbers st.varied (ap (λ (s : Step). s.items) st.made)
    (amount numbers are) in
    let rest = take (length c.args.body.now - at) (drop at c.args.body.now) in
    let next = IsReached-spelled c.args.order c.args.plan.now c.args.body.now k at c.args.before.zero_texts st.field
    c.in-Ok.spelled start.0 st.is
    (λ numbers are. subst (Tells (field_in c.args.order numbers st.field.form st.field.counts rest) st.field.form rest)
    c.in-Ok.is (told numbers are)) in
    omega (arith, next.within, next.few_texts)

pub overflow_add-result-in-Ok : goal.overflow_add-result-in-Ok
overflow_add-result-in-Ok c =
    let st = c.requires.step in
    let k = c.args.step.now.field in
    let at = c.args.before.at + c.args.step.now.mark.skip in
    let start = step-start c.args.order c.args.plan.now c.args.body.now c.args.ends.now c.args.step.now
    c.args.before.at c.args.before.zero_texts st c.requires.walked c.requires.at c.if-start-body.false in
    let amount = step-amount c.args.order c.args.plan.now c.args.body.now k st.field c.args.ends.now c.args.step.now
    st.made st.is c.requires.layout.sound (slice_get_within c.args.plan.now k st.field st.is) start.1 in
    let told = λ (numbers : List ℕ) (are : AreNumbers c.args.order c.args.plan.now c.args.body.now k numbers).
    c.spelled_at-spelled.ensures.spelled st.field numbers st.varied (ap (λ (s : Step). s.items) st.made)
    (amount numbers are) in
    let rest = take (length c.args.body.now - at) (drop at c.args.body.now) in
    let next = IsReached-spelled c.args.order c.args.plan.now c.args.body.now k at c.args.before.zero_texts st.field
    c.in-Ok.spelled start.0 st.is
    (λ numbers are. subst (Tells (field_in c.args.order numbers st.field.form st.field.counts rest) st.field.form rest)
    c.in-Ok.is (told numbers are)) in
    omega (arith, next.within, next.few_texts)

pub fault-requires : goal.fault-requires
fault-requires c =
    omega (
      arith,
      c.requires.layout.short,
      slice_get_within c.args.plan.now c.args.step.now.field c.requires.step.field c.requires.step.is,
    )

pub returns-in-Ok-clause-told : goal.returns-in-Ok-clause-told
returns-in-Ok-clause-told c =
    let st = c.requires.step in
    let k = c.args.step.now.field in
    let at = c.args.before.at + c.args.step.now.mark.skip in
    let start = step-start c.args.order c.args.plan.now c.args.body.now c.args.ends.now c.args.step.now
    c.args.before.at c.args.before.zero_texts st c.requires.walked c.requires.at c.if-start-body.false in
    let amount = step-amount c.args.order c.args.plan.now c.args.body.now k st.field c.args.ends.now c.args.step.now
    st.made st.is c.requires.layout.sound (slice_get_within c.args.plan.now k st.field st.is) start.1 in
    let told = λ (numbers : List ℕ) (are : AreNumbers c.args.order c.args.plan.now c.args.body.now k numbers).
    c.spelled_at-spelled.ensures.spelled st.field numbers st.varied (ap (λ (s : Step). s.items) st.made)
    (amount numbers are) in
    let rest = take (length c.args.body.now - at) (drop at c.args.body.now) in
    let next = IsReached-spelled c.args.order c.args.plan.now c.args.body.now k at c.args.before.zero_texts st.field
    c.in-Ok.spelled start.0 st.is
    (λ numbers are. subst (Tells (field_in c.args.order numbers st.field.form st.field.counts rest) st.field.form rest)
    c.in-Ok.is (told numbers are)) in
    (next, start.1)

pub returns-in-Err-clause-told : goal.returns-in-Err-clause-told
returns-in-Err-clause-told c =
    let st = c.requires.step in
    let k = c.args.step.now.field in
    let at = c.args.before.at + c.args.step.now.mark.skip in
    let start = step-start c.args.order c.args.plan.now c.args.body.now c.args.ends.now c.args.step.now
    c.args.before.at c.args.before.zero_texts st c.requires.walked c.requires.at c.if-start-body.false in
    let amount = step-amount c.args.order c.args.plan.now c.args.body.now k st.field c.args.ends.now c.args.step.now
    st.made st.is c.requires.layout.sound (slice_get_within c.args.plan.now k st.field st.is) start.1 in
    let told = λ (numbers : List ℕ) (are : AreNumbers c.args.order c.args.plan.now c.args.body.now k numbers).
    c.spelled_at-spelled.ensures.spelled st.field numbers st.varied (ap (λ (s : Step). s.items) st.made)
    (amount numbers are) in
    let rest = take (length c.args.body.now - at) (drop at c.args.body.now) in
    IsReached-unspelled c.args.order c.args.plan.now c.args.body.now k at c.args.before.zero_texts st.field
    c.in-Err.reason start.0 st.is
    (λ numbers are. subst (Tells (field_in c.args.order numbers st.field.form st.field.counts rest) st.field.form rest)
    c.in-Err.is (told numbers are))
    ∙ ap Err (sym c.fault.ensures)
