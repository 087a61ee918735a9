-- The links are cleared, and then one is set.
use Rattle.link_graph.proofs.KeptLinks.{mid-plain, link-kept}
use Rattle.link_graph.proofs.segment.Segment.keep_link.Goals as goal

pub set_plain_link-requires-clause-link : goal.set_plain_link-requires-clause-link
set_plain_link-requires-clause-link c =
    mid-plain c.args.plans.now c.args.node c.args.self.now c.clear_links.new.self c.in_ok-clear_links.ensures.ok
    c.args.field c.requires.link

pub returns-clause-ok : goal.returns-clause-ok
returns-clause-ok c =
    link-kept c.args.plans.now c.args.node c.args.self.now c.clear_links.new.self c.in_ok-clear_links.ensures.ok
    c.args.field c.args.to c.set_plain_link.new.self c.set_plain_link.ensures
