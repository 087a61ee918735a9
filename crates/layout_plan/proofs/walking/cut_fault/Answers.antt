use Rattle.std.proofs.Common.{ap, sym, ◌∙◌, Err, arith}
use Rattle.layout_plan.proofs.ReachLemmas.{IsWalked-cut}
use Rattle.layout_plan.proofs.walking.cut_fault.Goals as goal

pub fault-requires : goal.fault-requires
fault-requires c = omega (arith, c.requires.layout.short, c.requires.field, c.cut_field.ensures.before)

pub returns : goal.returns
returns c = λ order zero_texts walked.
    IsWalked-cut order c.args.plan.now c.args.body.now c.cut_field.result c.args.k c.args.ends.now zero_texts walked
    c.requires.field c.cut_field.ensures.before c.cut_field.ensures.same c.cut_field.ensures.begins
    c.cut_field.ensures.cut
    ∙ ap Err (sym c.fault.ensures)
