use Rattle.std.proofs.Common.{map, sym, ap, ◌∙◌}
use Rattle.std.specs.Prelude.{slice_get}
use Rattle.layout_plan.proofs.AppendLemmas.{Appends-as}
use Rattle.link_graph.specs.Graph.{link_in, links_by}
use Rattle.link_graph.proofs.Found.{ok-map}
use Rattle.canonical_writer.specs.NewLinks.{link_of, link_to}
use Rattle.canonical_writer.proofs.BodyLinks.{new-many}
use Rattle.canonical_writer.proofs.Structures.{record-found}
use Rattle.canonical_writer.proofs.records.LinkRoom.push_record.Goals as goal

pub push_structure-requires-clause-links : goal.push_structure-requires-clause-links
push_structure-requires-clause-links c =
    new-many c.order.result c.order-2.result c.args.plan.now c.body-body.result.now c.read_links.new.self.read.items
    c.as_slice.result.now (link_to c.args.segment.now.nodes c.args.links.now) c.put_links.new.into.items
    (c.order-2.ensures ∙ sym c.order.ensures) c.as_slice.ensures.value c.in_ok-put_links.ensures
    c.in_ok-read_links.ensures.many

pub returns : goal.returns
returns c =
    let nodes = c.args.segment.now.nodes in
    let links = link_to nodes c.args.links.now in
    let are = c.in_ok-put_links.ensures
    ∙ ap (λ read. map links (map link_in read)) c.as_slice.ensures.value
    ∙ ap (map links) (c.in_ok-read_links.ensures.links
    ∙ ap (λ order. links_by order c.args.plan.now c.body-body.result.now) (c.order.ensures ∙ sym c.order-2.ensures)) in
    Appends-as _ _ _ _ c.push_structure.ensures
    (λ bytes told. ok-map c.push_structure.result
    (λ record_of. record-found (slice_get nodes c.args.node) c.node.result.now c.args.segment.now.order c.order-2.result
    c.args.plan.now links (link_of c.args.links.now c.args.node).instance c.link_of-instance.result.instance
    c.body-body.result.now bytes c.node.ensures c.body-body.ensures.body c.order-2.ensures
    (ap (λ link. link.instance) c.link_of-instance.ensures) (record_of links are)) told)
