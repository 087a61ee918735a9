-- A graph put into an order of its nodes.
use Rattle.std.specs.Prelude.{ℕ, List, Option, map, length, slice_index}
use Rattle.std.specs.List.{filter_map, range_with_len}
use Rattle.std.specs.Option.{option_and_then}
use Rattle.rooted_graph.specs.Rooted.{Rooted, links_of}
use Rattle.rooted_graph.specs.SameGraph.{Labelled}
use Rattle.rooted_graph.specs.BreadthOrder.{number_of}

-- a link that leads to the number of its target in place of the target
abbrev pub renumbered : List ℕ → Option ℕ → Option ℕ
renumbered s link = option_and_then (number_of s) link

-- the graph whose node k is the k-th node of s
abbrev pub graph_in_order : Rooted → List ℕ → Rooted
graph_in_order g s = record {
  links = map (λ n. map (renumbered s) (links_of g n)) s;
  roots = filter_map (number_of s) g.roots;
}

-- the same with the labels
abbrev pub in_order : {L : Type 0} → Labelled L → List ℕ → Labelled L
in_order f s = record {
  graph = graph_in_order f.graph s;
  label = λ k. f.label (slice_index s k);
  end_label = f.end_label;
}

-- 0, 1, 2 and so on, as many as s has
abbrev pub counting_up : List ℕ → List ℕ
counting_up s = range_with_len 0 (length s)
