use Rattle.std.proofs.Common.{rules}
use Rattle.record_values.specs.Spelling.{IsClosedText}
use Rattle.layout_plan.proofs.AppendLemmas.{Appends-refused}
use Rattle.record_writer.proofs.Appending.{items_none, items_more, items_all}
use Rattle.record_writer.proofs.spelling.push_texts.Goals as goal

pub loop-text-init : goal.loop-text-init
loop-text-init c = items_none (IsClosedText c.args.order) c.args.texts.now c.args.into.now.items

pub returns-in_err-push_text : goal.returns-in_err-push_text
returns-in_err-push_text c =
    Appends-refused _ _ _ _ _ _ _ c.from_residual.ensures.0 c.loop-text.invariant c.push_text.ensures

pub loop-text-preserved : goal.loop-text-preserved
loop-text-preserved c =
    items_more (IsClosedText c.args.order) c.args.texts.now c.loop-text.text-index c.text-item.result c.text-item.result
    _ _ _ (search rules) c.text-item.is c.loop-text.invariant c.in_ok-push_text.ensures

pub returns : goal.returns
returns c = items_all (IsClosedText c.args.order) c.args.texts.now c.loop-text.text-index _ _ (search rules)
    c.loop-text.invariant
