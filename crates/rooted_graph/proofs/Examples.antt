-- The definitions on a small graph, in which two nodes lead to node 3.
use Rattle.std.proofs.Common.{◌≡◌, Some, None, List, [], ◌∷◌, ℕ, refl}
use Rattle.rooted_graph.specs.Rooted.{Rooted, Node, Null, Undefined, end_of}
use Rattle.rooted_graph.specs.BreadthOrder.{first_occurrences, roots_and_targets, number_of}
use Rattle.rooted_graph.specs.InOrder.{graph_in_order}

abbrev shared : Rooted
shared = record {
  links =
      (Some 2 ∷ None ∷ Some 1 ∷ []) ∷ (Some 3 ∷ []) ∷ (Some 4 ∷ Some 3 ∷ []) ∷ [] ∷ [] ∷ (Some 5 ∷ []) ∷ [];
  roots = 0 ∷ [];
}

abbrev order : List ℕ
order = 0 ∷ 2 ∷ 1 ∷ 4 ∷ 3 ∷ []

-- where paths end
over_node_2 : end_of shared (record { root = 0; steps = 0 ∷ 1 ∷ [] }) ≡ Node 3
over_node_2 = refl

over_node_1 : end_of shared (record { root = 0; steps = 2 ∷ 0 ∷ [] }) ≡ Node 3
over_node_1 = refl

at_null : end_of shared (record { root = 0; steps = 1 ∷ [] }) ≡ Null
at_null = refl

on_from_null : end_of shared (record { root = 0; steps = 1 ∷ 0 ∷ [] }) ≡ Undefined
on_from_null = refl

no_such_link : end_of shared (record { root = 0; steps = 3 ∷ [] }) ≡ Undefined
no_such_link = refl

no_such_root : end_of shared (record { root = 1; steps = [] }) ≡ Undefined
no_such_root = refl

-- the order, and numbers in it
is_order : first_occurrences (roots_and_targets shared order) ≡ order
is_order = refl

number_of_shared : number_of order 3 ≡ Some 4
number_of_shared = refl

number_of_unreached : number_of order 5 ≡ None
number_of_unreached = refl

-- the graph in its order
in_its_order : graph_in_order shared order
    ≡ record {
      links = (Some 1 ∷ None ∷ Some 2 ∷ []) ∷ (Some 3 ∷ Some 4 ∷ []) ∷ (Some 4 ∷ []) ∷ [] ∷ [] ∷ [];
      roots = 0 ∷ [];
    }
in_its_order = refl
