use Rattle.std.proofs.Common.{arith, ap, length, ◌∙◌}
use Rattle.std.proofs.lemmas.List.{length-append}
use Rattle.layout_plan.proofs.LinkLemmas.{listed-links}
use Rattle.layout_plan.proofs.tests.rewriting.rewritten.Goals as goal

pub rewrite-requires-clause-links : goal.rewrite-requires-clause-links
rewrite-requires-clause-links c =
    let part = c.in_ok-push_links.ensures.ok in
    let whole = ap length part.whole ∙ length-append c.new-own.result.items part.items in
    listed-links c.args.order _ c.args.body.now part.items (length c.args.links.now) part.related
    (omega (arith, whole, ap length c.new-own.ensures.items, c.len.ensures, c.if-len-links.false))
