-- Records marked as no roots, one after another.
use Rattle.std.proofs.Common.{◌≡◌, ℕ, zero, suc, ◌+◌, ◌<◌, List, [], ◌∷◌, ◌++◌, length, take, drop, map}
use Rattle.std.proofs.Common.{get_or, refl, ap, ◌∙◌, arith}
use Rattle.std.specs.Prelude.{slice_set}
use Rattle.link_graph.specs.declared.nodes.Root.{Root}
use Rattle.link_graph.specs.declared.nodes.Kept.{Kept}
use Rattle.link_graph.specs.Collected.{without_stat_root}
use Rattle.link_graph.specs.Kept.{without_stat_kept}

-- the records of which the first k are marked
abbrev marked : ℕ → List Kept → List Kept
marked k old = map without_stat_kept (take k old) ++ drop k old

one-marked : (old : List Kept) (k : ℕ) (d : Kept) → k < length old →
    slice_set (marked k old) k (without_stat_kept (get_or (marked k old) k d)) ≡ marked (suc k) old
one-marked [] k d lt = absurd (omega (arith, lt))
one-marked (kept ∷ rest) zero d lt = refl
one-marked (kept ∷ rest) (suc k) d lt =
    ap (λ more. without_stat_kept kept ∷ more) (one-marked rest k d (omega (arith, lt)))

-- one record more
pub mark-more : (old now : List Kept) (k : ℕ) (d : Kept) (root : Root) → k < length old →
    now ≡ marked k old → root ≡ without_stat_root (get_or now k d).node.root →
    slice_set now k (record {
      node = record (get_or now k d).node { root = root };
      span =
          (get_or now k d).span;
    }) ≡ marked (k + 1) old
mark-more old now k d root lt is root_is =
    let next : suc k ≡ k + 1 = omega arith in
    (λ i. slice_set now k (record {
      node = record (get_or now k d).node { root = root_is i };
      span =
          (get_or now k d).span;
    }))
    ∙ (λ i. slice_set (is i) k (without_stat_kept (get_or (is i) k d)))
    ∙ one-marked old k d lt
    ∙ ap (λ n. marked n old) next
