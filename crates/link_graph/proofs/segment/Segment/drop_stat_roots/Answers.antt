use Rattle.std.proofs.Common.{◌≡◌, List, map, ap, sym, subst, ◌∙◌}
use Rattle.link_graph.specs.declared.nodes.Kept.{Kept}
use Rattle.link_graph.specs.Collected.{Collected, Bodied, without_stat}
use Rattle.link_graph.specs.Kept.{bodied, segment_view, AreKept}
use Rattle.link_graph.proofs.Bodies.{kept-stat, bodied-stat}
use Rattle.link_graph.proofs.segment.Segment.drop_stat_roots.Goals as goal

pub invariant_of-self : goal.invariant_of-self
invariant_of-self c =
    let s = c.self.inside in
    subst (λ (records : List Kept). AreKept s.region records s.end s.pending)
    (sym c.drop_stat_roots.ensures) (kept-stat s.region s.records s.end s.pending c.self.invariant)

pub returns : goal.returns
returns c =
    let s = c.self.inside in
    let nodes : map (bodied s.region) c.drop_stat_roots.new.self ≡ map without_stat
    (map (bodied s.region) s.records) = ap (map (bodied s.region)) c.drop_stat_roots.ensures
    ∙ bodied-stat s.region s.records in
    let made : segment_view s.order s.region c.drop_stat_roots.new.self s.end s.pending ≡ record
    (segment_view s.order s.region s.records s.end s.pending) {
      nodes =
          map without_stat (map (bodied s.region) s.records);
    } =
    ap (λ (nodes : List Bodied). record (segment_view s.order s.region s.records s.end s.pending) {
      nodes =
          nodes;
    }) nodes in
    made ∙ ap (λ (s : Collected). record s { nodes = map without_stat s.nodes }) c.self.view_is
