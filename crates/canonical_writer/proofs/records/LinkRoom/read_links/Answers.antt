-- A plan's layout makes the links of a body the only ones.
use Rattle.link_graph.proofs.Found.{ok-map}
use Rattle.link_graph.proofs.FirstLoose.{put-links}
use Rattle.canonical_writer.proofs.BodyLinks.{are-many}
use Rattle.canonical_writer.proofs.records.LinkRoom.read_links.Goals as goal

pub returns-clause-links : goal.returns-clause-links
returns-clause-links c =
    ok-map c.push_links.result
    (λ put. put-links c.args.order c.args.plan.now c.args.body.now c.clear.new.self.items
    c.push_links.new.into.items c.clear.ensures.items put c.fields-fields.ensures.layout.sound c.requires)
    c.push_links.ensures.ok

pub returns-clause-many : goal.returns-clause-many
returns-clause-many c =
    ok-map c.push_links.result
    (λ put. are-many c.args.order c.args.plan.now c.args.body.now c.clear.new.self.items
    c.push_links.new.into.items c.clear.ensures.items put)
    c.push_links.ensures.ok
