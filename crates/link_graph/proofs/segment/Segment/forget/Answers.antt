use Rattle.std.proofs.Common.{arith}
use Rattle.link_graph.proofs.Bodies.{nothing-put, kept-grown}
use Rattle.link_graph.proofs.segment.Segment.forget.Goals as goal

pub invariant_of-self : goal.invariant_of-self
invariant_of-self c =
    let s = c.self.inside in
    let put = nothing-put s.region c.put-self-inside.new.self c.put-self-inside.result
    c.put-self-inside.ensures.after c.put-self-inside.ensures.span in
    kept-grown s.region c.put-self-inside.new.self s.records s.end s.pending c.put-self-inside.result
    c.put-self-inside.ensures.keeps c.self.invariant
    (omega (arith, put.0, c.self.invariant.last)) c.put-self-inside.ensures.gives.live put.1
