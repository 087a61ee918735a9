-- Rooted graphs, their paths, and where a path ends.
use Rattle.std.specs.Prelude.{◌≡◌, ℕ, List, [], Option, Some, None, fold, slice_get, slice_index_or}

-- A node is a number. Each of its links is null or leads to a node; a number past the list is a node without links.
pub record Rooted : Type 0 where
  pub links : List (List (Option ℕ))
  pub roots : List ℕ

-- the links of a node, in their order
abbrev pub links_of : Rooted → ℕ → List (Option ℕ)
links_of g n = slice_index_or g.links n []

-- A path names a root by its place among the roots, and then a link at each node by its place among the node's links.
pub record Path : Type 0 where
  pub root : ℕ
  pub steps : List ℕ

-- where a path ends: at a node, at null, or nowhere, since it names a root or a link that is not there
pub data End : Type 0 where
  Node : ℕ → End
  Null : End
  Undefined : End

-- where a root leads, if it is there
abbrev pub end_of_root : Option ℕ → End
end_of_root None = Undefined
end_of_root (Some n) = Node n

-- where a link leads, if it is there
abbrev pub end_of_link : Option (Option ℕ) → End
end_of_link None = Undefined
end_of_link (Some None) = Null
end_of_link (Some (Some n)) = Node n

-- one step on: no path goes on from null
abbrev pub follow : Rooted → End → ℕ → End
follow g (Node n) k = end_of_link (slice_get (links_of g n) k)
follow g Null k = Undefined
follow g Undefined k = Undefined

-- the end of a path
abbrev pub end_of : Rooted → Path → End
end_of g p = fold (follow g) (end_of_root (slice_get g.roots p.root)) p.steps

-- the path ends in the node
abbrev pub EndsIn : Rooted → Path → ℕ → Type 0
EndsIn g p n = end_of g p ≡ Node n

-- some path ends in the node
abbrev pub IsReached : Rooted → ℕ → Type 0
IsReached g n = (p : Path) × EndsIn g p n

-- the two paths end in one node
abbrev pub Meet : Rooted → Path → Path → Type 0
Meet g p q = (n : ℕ) × EndsIn g p n × EndsIn g q n
