use Rattle.std.proofs.Common.{◌<◌, length, arith}
use Rattle.link_graph.proofs.Reading.{links-more}
use Rattle.link_graph.proofs.segment.Segment.read_links.Goals as goal

pub loop-k-preserved : goal.loop-k-preserved
loop-k-preserved c =
    let s = c.args.self.now in
    let within : c.loop-k.k < length s.nodes = omega (arith, c.loop-k-test.true, c.len-k-end.ensures) in
    links-more c.args.plans.now s.order s.nodes c.loop-k.k c.loop-k.links c.add_links.new.links within
    c.loop-k.invariant c.in_ok-add_links.ensures
