-- A node that is a root twice, and two roots of its label: alike along every path, and not equal.
use Rattle.std.proofs.Common.{◌≡◌, ℕ, zero, suc, List, [], ◌∷◌, refl, sym, ◌∙◌}
use Rattle.std.specs.Prelude.{fold, slice_get}
use Rattle.rooted_graph.specs.Rooted.{Node, Undefined, end_of_root, follow}
use Rattle.rooted_graph.specs.SameGraph.{AlikeEnds, EqualLabels, EndsAlike, SameGraph}
use Rattle.rooted_graph.specs.GraphLaws.{one_node, two_nodes}

undefined_alike : (steps : List ℕ)
    → AlikeEnds (EqualLabels one_node two_nodes) (fold (follow one_node.graph) Undefined steps)
    (fold (follow two_nodes.graph) Undefined steps)
undefined_alike [] = tt
undefined_alike (k ∷ steps) = undefined_alike steps

-- neither graph has a link
nodes_alike : (n m : ℕ) (steps : List ℕ)
    → AlikeEnds (EqualLabels one_node two_nodes) (fold (follow one_node.graph) (Node n) steps)
    (fold (follow two_nodes.graph) (Node m) steps)
nodes_alike n m [] = refl
nodes_alike n m (k ∷ steps) = undefined_alike steps

roots_alike : (root : ℕ) (steps : List ℕ)
    → AlikeEnds (EqualLabels one_node two_nodes)
    (fold (follow one_node.graph) (end_of_root (slice_get one_node.graph.roots root)) steps)
    (fold (follow two_nodes.graph) (end_of_root (slice_get two_nodes.graph.roots root)) steps)
roots_alike zero steps = nodes_alike 0 0 steps
roots_alike (suc zero) steps = nodes_alike 0 1 steps
roots_alike (suc (suc k)) steps = undefined_alike steps

pub alike_along_paths : EndsAlike one_node two_nodes
alike_along_paths p = roots_alike p.root p.steps

-- the two roots meet in the first graph alone
pub not_equal : ¬ (SameGraph one_node two_nodes)
not_equal same =
    let met = (same.meet (record { root = 0; steps = [] }) (record { root = 1; steps = [] })).0 (0, refl, refl) in
    let clash : Node 0 ≡ Node 1 = met.1 ∙ sym met.2 in
    cc
