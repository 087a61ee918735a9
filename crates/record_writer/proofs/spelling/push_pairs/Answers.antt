use Rattle.std.proofs.Common.{refl, rules}
use Rattle.record_values.specs.Spelling.{IsPair}
use Rattle.layout_plan.proofs.AppendLemmas.{Appends-refused}
use Rattle.record_writer.proofs.Appending.{items_none, items_more, items_all}
use Rattle.record_writer.proofs.spelling.push_pairs.Goals as goal

pub loop-pair-init : goal.loop-pair-init
loop-pair-init c = items_none (IsPair c.args.order c.args.width) c.args.pairs.now c.args.into.now.items

pub returns-in_err-push_pair : goal.returns-in_err-push_pair
returns-in_err-push_pair c =
    Appends-refused _ _ _ _ _ _ _ c.from_residual.ensures.0 c.loop-pair.invariant c.push_pair.ensures

pub loop-pair-preserved : goal.loop-pair-preserved
loop-pair-preserved c =
    items_more (IsPair c.args.order c.args.width) c.args.pairs.now c.loop-pair.pair-index (0, 0) _ _ _ _ (search rules)
    refl c.loop-pair.invariant c.in_ok-push_pair.ensures

pub returns : goal.returns
returns c = items_all (IsPair c.args.order c.args.width) c.args.pairs.now c.loop-pair.pair-index _ _ (search rules)
    c.loop-pair.invariant
