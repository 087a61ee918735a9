-- The breadth-first order of a graph, and the number of a node in it.
use Rattle.std.specs.Prelude.{◌≡◌, ℕ, ◌<◌, Bool, List, [], ◌∷◌, ◌++◌, Option, Some, None, suc, nat_eq, if◌then◌else◌}
use Rattle.std.specs.Prelude.{fold, length, take, Contains, slice_index}
use Rattle.std.specs.List.{list_any, filter_map, flat_map}
use Rattle.std.specs.Option.{option_map}
use Rattle.rooted_graph.specs.Rooted.{Rooted, links_of}

-- whether n stands in the list
abbrev pub has : List ℕ → ℕ → Bool
has xs n = list_any (nat_eq n) xs

-- the list with n at its end, or as it is where n stands in it
abbrev pub added : List ℕ → ℕ → List ℕ
added xs n = if has xs n then xs else xs ++ n ∷ []

-- each number of the list once, where it comes first
abbrev pub first_occurrences : List ℕ → List ℕ
first_occurrences xs = fold added [] xs

-- the nodes to which the links of a node lead, in the order of the links
abbrev pub targets : Rooted → ℕ → List ℕ
targets g n = filter_map (λ link. link) (links_of g n)

-- the roots, and then the targets of each node of the list
abbrev pub roots_and_targets : Rooted → List ℕ → List ℕ
roots_and_targets g s = g.roots ++ flat_map (targets g) s

-- The list s is the breadth-first order of a graph: it has the roots and then the targets of its own members, each
-- once, where it comes first; and each member that is no root is the target of an earlier member.
pub record IsBreadthOrder (g : Rooted) (s : List ℕ) : Type 0 where
  pub first : s ≡ first_occurrences (roots_and_targets g s)
  pub earlier : (k : ℕ) → k < length s → Contains (roots_and_targets g (take k s)) (slice_index s k)

-- the number of a node in an order: its place, from 0
abbrev pub number_of : List ℕ → ℕ → Option ℕ
number_of [] n = None
number_of (x ∷ xs) n = if nat_eq n x then Some 0 else option_map (λ k. suc k) (number_of xs n)
