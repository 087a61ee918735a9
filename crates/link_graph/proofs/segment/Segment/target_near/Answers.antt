use Rattle.std.proofs.Common.{ap}
use Rattle.link_graph.specs.Collected.{Collected}
use Rattle.link_graph.proofs.Found.{target-name}
use Rattle.link_graph.proofs.segment.Segment.target_near.Goals as goal

pub returns : goal.returns
returns c =
    let s = c.self.inside in
    target-name s.region s.records c.args.self.now.nodes c.args.to c.number.result
    (ap (λ (s : Collected). s.nodes) c.self.view_is) c.if-to-eq0.false c.number.ensures
