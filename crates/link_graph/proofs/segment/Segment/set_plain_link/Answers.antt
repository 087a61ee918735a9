use Rattle.std.proofs.Common.{subst}
use Rattle.scalar_types.specs.declared.Order.{Order}
use Rattle.record_values.specs.Spelling.{IsLink}
use Rattle.link_graph.proofs.Overwriting.{link-written}
use Rattle.link_graph.proofs.segment.Segment.set_plain_link.Goals as goal

pub returns : goal.returns
returns c = λ k number.
    link-written c.args.plans.now c.args.node k c.plain_link_place-at.result c.args.to c.link_bytes.result
    c.args.self.now c.write_body.new.self c.write_body.ensures (c.plain_link_place-at.ensures.place k number)
    (subst (λ (order : Order). IsLink order c.args.to c.link_bytes.result) c.order.ensures c.link_bytes.ensures.spelled)
    c.link_bytes.ensures.six
