use Rattle.std.proofs.Common.{subst}
use Rattle.std.specs.Prelude.{slice_get}
use Rattle.scalar_types.specs.declared.Order.{Order}
use Rattle.record_values.specs.Spelling.{IsLink}
use Rattle.link_graph.proofs.Overwriting.{link-fits, link-written}
use Rattle.link_graph.proofs.segment.Segment.set_link.Goals as goal

pub write_body-requires-clause-within : goal.write_body-requires-clause-within
write_body-requires-clause-within c =
    link-fits c.args.plans.now c.args.self.now.order c.args.k c.link_place-at.result c.link_bytes.result
    (slice_get c.args.self.now.nodes c.args.node) c.link_place-at.ensures c.link_bytes.ensures.six

pub returns : goal.returns
returns c =
    link-written c.args.plans.now c.args.node c.args.k c.link_place-at.result c.args.to c.link_bytes.result
    c.args.self.now c.write_body.new.self c.write_body.ensures c.link_place-at.ensures
    (subst (λ (order : Order). IsLink order c.args.to c.link_bytes.result) c.order.ensures c.link_bytes.ensures.spelled)
    c.link_bytes.ensures.six
