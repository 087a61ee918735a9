-- The laws of rooted graphs, each carried by a function of `laws`.
use Rattle.std.specs.Prelude.{◌≡◌, ℕ, List, [], ◌∷◌, ◌↔◌, Contains}
use Rattle.rooted_graph.specs.Rooted.{Rooted, IsReached}
use Rattle.rooted_graph.specs.SameGraph.{Labelled, EndsAlike, SameGraph}
use Rattle.rooted_graph.specs.BreadthOrder.{IsBreadthOrder}
use Rattle.rooted_graph.specs.Looks.{LooksSame}
use Rattle.rooted_graph.specs.InOrder.{graph_in_order, in_order, counting_up}

-- every graph has a breadth-first order
abbrev pub EachGraphHasAnOrder : Type 0
EachGraphHasAnOrder = (g : Rooted) → (s : List ℕ) × IsBreadthOrder g s

-- it has only one
abbrev pub OrdersAreUnique : Type 0
OrdersAreUnique = (g : Rooted) (s t : List ℕ) → IsBreadthOrder g s → IsBreadthOrder g t → s ≡ t

-- a node stands in the order exactly where some path ends in it
abbrev pub OrdersHoldTheReached : Type 0
OrdersHoldTheReached = (g : Rooted) (s : List ℕ) → IsBreadthOrder g s → (n : ℕ) → Contains s n ↔ IsReached g n

-- two graphs are equal exactly where their orders look the same
abbrev pub EqualWhereOrdersLookTheSame : Type 0 → Type 0
EqualWhereOrdersLookTheSame L = (f g : Labelled L) (s t : List ℕ) → IsBreadthOrder f.graph s → IsBreadthOrder g.graph t
    → SameGraph f g ↔ LooksSame f g s t

-- each graph is equal to itself
abbrev pub EqualityIsReflexive : Type 0 → Type 0
EqualityIsReflexive L = (f : Labelled L) → SameGraph f f

-- equality goes both ways
abbrev pub EqualityIsSymmetric : Type 0 → Type 0
EqualityIsSymmetric L = (f g : Labelled L) → SameGraph f g → SameGraph g f

-- graphs that are equal to one graph are equal
abbrev pub EqualityIsTransitive : Type 0 → Type 0
EqualityIsTransitive L = (f g h : Labelled L) → SameGraph f g → SameGraph g h → SameGraph f h

-- a graph put into its breadth-first order is equal to it
abbrev pub OrderedGraphsAreEqual : Type 0 → Type 0
OrderedGraphsAreEqual L = (f : Labelled L) (s : List ℕ) → IsBreadthOrder f.graph s → SameGraph f (in_order f s)

-- and its own order is 0, 1, 2 and so on
abbrev pub OrderedGraphsCountUp : Type 0
OrderedGraphsCountUp = (g : Rooted) (s : List ℕ) → IsBreadthOrder g s
    → IsBreadthOrder (graph_in_order g s) (counting_up s)

-- a node that is a root twice
abbrev pub one_node : Labelled ℕ
one_node = record { graph = record { links = []; roots = 0 ∷ 0 ∷ [] }; label = λ _. 7; end_label = 7 }

-- two nodes of one label that are the roots
abbrev pub two_nodes : Labelled ℕ
two_nodes = record { graph = record { links = []; roots = 0 ∷ 1 ∷ [] }; label = λ _. 7; end_label = 7 }

-- labels along paths do not tell these apart, and yet they are not equal
abbrev pub PathsAloneDoNotTell : Type 0
PathsAloneDoNotTell = EndsAlike one_node two_nodes × ¬ (SameGraph one_node two_nodes)
