-- The span of the record is written, and the others are apart from it.
use Rattle.std.proofs.Common.{◌+◌, ◌≤◌, length, IfSome, ap, subst, arith}
use Rattle.link_graph.specs.Collected.{Bodied, Collected}
use Rattle.link_graph.proofs.Bodies.{live-at, node-at, few-bytes}
use Rattle.link_graph.proofs.Writing.{writes-from}
use Rattle.link_graph.proofs.Overwriting.{body-written}
use Rattle.link_graph.proofs.segment.Segment.write_body.Goals as goal

pub returns : goal.returns
returns c =
    let s = c.self.inside in
    let kept = c.record.result.now in
    let here = node-at s.region s.records c.args.self.now.nodes c.args.node kept
    (ap (λ (s : Collected). s.nodes) c.self.view_is) c.record.ensures in
    let within = subst (λ o. IfSome o (λ (r : Bodied). c.args.at + length c.args.piece.now ≤ length r.body)) here
    c.requires.within in
    let fits : c.args.at + length c.args.piece.now ≤ kept.span.length =
    omega (arith, within, few-bytes s.region kept.span) in
    body-written s.order c.args.node s.region c.write.new.self s.records s.end s.pending kept c.args.at
    c.args.piece.now c.args.self.now c.self.invariant c.self.view_is c.record.ensures
    (writes-from s.region c.write.new.self kept.span c.args.at c.args.piece.now
    (live-at s.region s.records c.args.node kept c.self.invariant.live c.record.ensures) fits c.write.ensures.after
    c.write.ensures.gives c.write.ensures.live c.write.ensures.others)
