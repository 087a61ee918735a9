-- The graphs of frames, row by row.
use Rattle.std.proofs.Common.{◌≡◌, ℕ, zero, suc, List, [], ◌∷◌, map, filter_map, get_or, refl}
use Rattle.rooted_graph.specs.Rooted.{links_of}
use Rattle.rooted_graph.specs.BreadthOrder.{number_of}
use Rattle.rooted_graph.specs.InOrder.{renumbered, graph_in_order}
use Rattle.frame_content.specs.Frames.{Frame, no_row, row_at}
use Rattle.canonical_file.specs.Ordered.{row_links, frame_graph, row_in, ordered}

-- an element of a mapped list, past its end too
pub get_or-map_any : {A B : Type 0} (f : A → B) (xs : List A) (n : ℕ) (d : A)
    → get_or (map f xs) n (f d) ≡ f (get_or xs n d)
get_or-map_any f [] n d = refl
get_or-map_any f (x ∷ xs) zero d = refl
get_or-map_any f (x ∷ xs) (suc n) d = get_or-map_any f xs n d

-- the links of a node are those of its row
pub links_of-row : (f : Frame) (n : ℕ) → links_of (frame_graph f).graph n ≡ (row_at f n).links
links_of-row f n = get_or-map_any row_links f.rows n no_row

-- the graph of a frame in an order is the graph in that order
links-ordered : (f : Frame) (s ns : List ℕ)
    → map (λ n. map (renumbered s) (links_of (frame_graph f).graph n)) ns ≡ map row_links (map (row_in f s) ns)
links-ordered f s [] = refl
links-ordered f s (n ∷ ns) = λ i. map (renumbered s) (links_of-row f n i) ∷ links-ordered f s ns i

pub graph-ordered : (f : Frame) (s : List ℕ)
    → graph_in_order (frame_graph f).graph s ≡ (frame_graph (ordered f s)).graph
graph-ordered f s = λ i. record { links = links-ordered f s s i; roots = filter_map (number_of s) f.roots }
