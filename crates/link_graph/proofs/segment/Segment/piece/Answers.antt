use Rattle.link_graph.proofs.Bodies.{piece-put}
use Rattle.link_graph.proofs.segment.Segment.piece.Goals as goal

pub returns : goal.returns
returns c =
    let s = c.self.inside in
    piece-put s.order s.region c.extend-self-inside.new.self s.records s.end s.pending
    c.extend-self-inside.result c.args.piece.now c.args.self.now c.self.invariant
    c.extend-self-inside.ensures.keeps c.extend-self-inside.ensures.gives c.extend-self-inside.ensures.after
    c.self.view_is
