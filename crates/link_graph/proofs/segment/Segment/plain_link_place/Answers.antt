use Rattle.std.proofs.Common.{◌≡◌, ℕ, Some, subst, sym, ap, ◌∙◌}
use Rattle.std.specs.Option.{option_copied}
use Rattle.scalar_types.specs.declared.Order.{Order}
use Rattle.layout_plan.specs.Links.{IsReplaceable}
use Rattle.layout_plan.specs.Plans.{plan_of}
use Rattle.layout_plan.specs.Unlinked.{IsLinkNumber}
use Rattle.link_graph.proofs.Overwriting.{plain-place}
use Rattle.link_graph.proofs.segment.Segment.plain_link_place.Goals as goal

pub returns-clause-place : goal.returns-clause-place
returns-clause-place c =
    let s = c.args.self.now in
    let body = c.body.result.now in
    let fields = c.in-Some.plan.now in
    let plan : plan_of c.args.plans.now c.node.result.now.class ≡ Some fields = sym c.plan.ensures
    ∙ ap option_copied c.in-Some.is in
    plain-place c.args.plans.now s.order s.nodes c.args.node c.args.field c.plain_link_start.result c.node.result.now
    body fields c.node.ensures c.body.ensures.body plan c.plain_link_start.ensures.within
    (subst (λ (order : Order). (k : ℕ) → IsLinkNumber order fields body c.args.field k →
    IsReplaceable order fields body k c.plain_link_start.result) c.order.ensures c.plain_link_start.ensures.replaced)
