use Rattle.std.proofs.Common.{refl, rules}
use Rattle.record_values.specs.Spelling.{IsNumber}
use Rattle.layout_plan.proofs.AppendLemmas.{Appends-refused}
use Rattle.record_writer.proofs.Appending.{items_none, items_more, items_all}
use Rattle.record_writer.proofs.spelling.push_numbers.Goals as goal

pub loop-number-init : goal.loop-number-init
loop-number-init c = items_none (IsNumber c.args.order c.args.width) c.args.numbers.now c.args.into.now.items

pub returns-in_err-push_number : goal.returns-in_err-push_number
returns-in_err-push_number c =
    Appends-refused _ _ _ _ _ _ _ c.from_residual.ensures.0 c.loop-number.invariant c.push_number.ensures

pub loop-number-preserved : goal.loop-number-preserved
loop-number-preserved c =
    items_more (IsNumber c.args.order c.args.width) c.args.numbers.now c.loop-number.number-index 0 _ _ _ _
    (search rules) refl c.loop-number.invariant c.in_ok-push_number.ensures

pub returns : goal.returns
returns c = items_all (IsNumber c.args.order c.args.width) c.args.numbers.now c.loop-number.number-index _ _
    (search rules) c.loop-number.invariant
