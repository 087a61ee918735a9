-- The index does not tell roots from others.
use Rattle.std.proofs.Common.{◌≡◌, List, ◌++◌, length, take, drop, map, sym, ap, ◌∙◌, subst, arith}
use Rattle.std.proofs.lemmas.List.{take-append-le, take_all, length-map}
use Rattle.link_graph.specs.declared.nodes.Kept.{Kept}
use Rattle.link_graph.specs.Kept.{AreNumbered, without_stat_kept}
use Rattle.link_graph.proofs.Found.{numbered-stat}
use Rattle.link_graph.proofs.records.Records.drop_stat_roots.Goals as goal

pub invariant_of-self : goal.invariant_of-self
invariant_of-self c =
    let items : List Kept = c.self.inside.kept.items in
    let new : List Kept = c.drop_stat_roots.new.kept in
    let marked : new ≡ map without_stat_kept items = c.drop_stat_roots.ensures
    ∙ ap (map without_stat_kept) c.as_mut_slice.ensures.value in
    let size : length new ≡ c.self.inside.kept.len =
    ap length marked ∙ length-map items without_stat_kept ∙ sym (ap length c.as_mut_slice.ensures.value)
    ∙ c.as_mut_slice.ensures.len in
    let same : take c.self.inside.kept.len (new ++ drop (length new) items) ≡ map without_stat_kept items =
    take-append-le c.self.inside.kept.len new (drop (length new) items) (omega (arith, size))
    ∙ take_all c.self.inside.kept.len new (omega (arith, size)) ∙ marked in
    subst (λ (records : List Kept). AreNumbered records c.self.inside.index) (sym same)
    (numbered-stat items c.self.inside.index c.self.invariant)
