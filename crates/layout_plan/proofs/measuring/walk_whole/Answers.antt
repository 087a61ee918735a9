use Rattle.std.proofs.Common.{ℕ, length, sym, ap, ◌∙◌, Err, subst}
use Rattle.layout_plan.specs.declared.faults.BodyReason.TheVariants.{BodyLong}
use Rattle.layout_plan.specs.declared.faults.BodyFault.{BodyFault}
use Rattle.layout_plan.specs.Walking.{IsReached}
use Rattle.layout_plan.proofs.WalkLemmas.{IsReached-long, fields_in-fault}
use Rattle.layout_plan.proofs.measuring.walk_whole.Goals as goal

pub returns-in-Err-clause-told : goal.returns-in-Err-clause-told
returns-in-Err-clause-told c =
    fields_in-fault c.args.order c.args.plan.now c.args.body.now c.in-Err.fault c.in-Err.ensures

pub returns-then-rest-ne-TAIL_SIZE-clause-told : goal.returns-then-rest-ne-TAIL_SIZE-clause-told
returns-then-rest-ne-TAIL_SIZE-clause-told c =
    let count = ap length c.fields-count.ensures.fields in
    let reached = subst (λ k. IsReached c.args.order c.args.plan.now c.args.body.now k c.in-Ok.walked.at
    c.in-Ok.walked.zero_texts) count c.in-Ok.ensures.0 in
    IsReached-long c.args.order c.args.plan.now c.args.body.now c.in-Ok.walked.at c.in-Ok.walked.zero_texts reached
    c.if-rest-ne0.true c.if-rest-ne-TAIL_SIZE.true
    ∙ ap (λ n. Err (long n)) (sym count)
    ∙ ap Err (sym c.fault.ensures)
  where
    long : ℕ → BodyFault
    long n = record { field = n; reason = BodyLong }
