-- When two labelled graphs are equal.
use Rattle.std.specs.Prelude.{◌≡◌, ℕ, ◌↔◌, ⊤}
use Rattle.rooted_graph.specs.Rooted.{Rooted, Path, End, Node, Null, Undefined, end_of, Meet}

-- A graph with a label at each node, and one label more that belongs to no node.
pub record Labelled (L : Type 0) : Type 0 where
  pub graph : Rooted
  pub label : ℕ → L
  pub end_label : L

-- both ends are nodes of which R holds, or both are null, or both are undefined
abbrev pub AlikeEnds : (ℕ → ℕ → Type 0) → End → End → Type 0
AlikeEnds R (Node n) (Node m) = R n m
AlikeEnds R Null Null = ⊤
AlikeEnds R Undefined Undefined = ⊤
AlikeEnds R (Node _) Null = ⊥
AlikeEnds R (Node _) Undefined = ⊥
AlikeEnds R Null (Node _) = ⊥
AlikeEnds R Null Undefined = ⊥
AlikeEnds R Undefined (Node _) = ⊥
AlikeEnds R Undefined Null = ⊥

-- the two nodes have equal labels
abbrev pub EqualLabels : {L : Type 0} → Labelled L → Labelled L → ℕ → ℕ → Type 0
EqualLabels f g n m = f.label n ≡ g.label m

-- every path ends alike in both graphs: at nodes with equal labels, or at no node
abbrev pub EndsAlike : {L : Type 0} → Labelled L → Labelled L → Type 0
EndsAlike f g = (p : Path) → AlikeEnds (EqualLabels f g) (end_of f.graph p) (end_of g.graph p)

-- Two graphs are equal: every path ends alike in both, at nodes with equal labels or at no node; two paths meet in one
-- graph exactly where they meet in the other; and the end labels are equal.
pub record SameGraph {L : Type 0} (f g : Labelled L) : Type 0 where
  pub ends : EndsAlike f g
  pub meet : (p q : Path) → Meet f.graph p q ↔ Meet g.graph p q
  pub end_labels : f.end_label ≡ g.end_label
