-- When the orders of two graphs look the same.
use Rattle.std.specs.Prelude.{◌≡◌, ℕ, List, Option, length, map}
use Rattle.std.specs.Option.{option_map}
use Rattle.rooted_graph.specs.Rooted.{Rooted, links_of}
use Rattle.rooted_graph.specs.SameGraph.{Labelled}
use Rattle.rooted_graph.specs.BreadthOrder.{number_of}

-- the links of a node, each null or with the number of its target
abbrev pub numbered_links : Rooted → List ℕ → ℕ → List (Option (Option ℕ))
numbered_links g s n = map (option_map (number_of s)) (links_of g n)

-- Two graphs look the same by the orders s and t: the orders are equally long; the roots have equal numbers; member by
-- member the labels are equal, and the links are both null or lead to equal numbers; and the end labels are equal.
pub record LooksSame {L : Type 0} (f g : Labelled L) (s t : List ℕ) : Type 0 where
  pub as_long : length s ≡ length t
  pub roots : map (number_of s) f.graph.roots ≡ map (number_of t) g.graph.roots
  pub labels : map f.label s ≡ map g.label t
  pub links : map (numbered_links f.graph s) s ≡ map (numbered_links g.graph t) t
  pub end_labels : f.end_label ≡ g.end_label
