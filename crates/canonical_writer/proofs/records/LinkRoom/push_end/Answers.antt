use Rattle.std.proofs.Common.{◌≡◌, length, arith}
use Rattle.layout_plan.proofs.AppendLemmas.{Appends-as}
use Rattle.link_graph.specs.Graph.{links_by}
use Rattle.link_graph.proofs.Found.{ok-map}
use Rattle.frame_content.specs.Labels.{null_link, nullified}
use Rattle.canonical_writer.proofs.BodyLinks.{resized, null-many, null-are}
use Rattle.canonical_writer.proofs.records.LinkRoom.push_end.Goals as goal

pub push_structure-requires-clause-links : goal.push_structure-requires-clause-links
push_structure-requires-clause-links c =
    let read = c.read_links.new.self.read in
    let count : c.len.result ≡ length read.items = omega (arith, c.len.ensures, read.ok.0) in
    null-many c.args.order c.args.plan.now c.args.body.now read.items c.len.result c.resize.new.self.items count
    (resized c.len.result _ null_link _ c.resize.new.self.items c.clear.ensures.items c.clear.ensures.len
    c.in_ok-resize.ensures.items) c.in_ok-read_links.ensures.many

pub returns : goal.returns
returns c =
    let read = c.read_links.new.self.read in
    let count : c.len.result ≡ length read.items = omega (arith, c.len.ensures, read.ok.0) in
    let are = null-are read.items (links_by c.args.order c.args.plan.now c.args.body.now) c.len.result
    c.resize.new.self.items count (resized c.len.result _ null_link _ c.resize.new.self.items c.clear.ensures.items
    c.clear.ensures.len c.in_ok-resize.ensures.items) c.in_ok-read_links.ensures.links in
    Appends-as _ _ _ _ c.push_structure.ensures
    (λ bytes told. ok-map c.push_structure.result (λ record_of. record_of nullified are) told)
