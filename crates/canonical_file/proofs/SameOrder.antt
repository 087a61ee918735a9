-- A frame in its breadth-first order is equal to the frame.
use Rattle.std.proofs.Common.{◌≡◌, ℕ, zero, suc, ◌+◌, ◌<◌, ◌≤◌, List, ◌∷◌, length, map, refl, sym, ap, subst, arith}
use Rattle.std.specs.List.{range_with_len}
use Rattle.std.proofs.lemmas.List.{get_or-map}
use Rattle.rooted_graph.specs.Rooted.{Rooted}
use Rattle.rooted_graph.specs.SameGraph.{Labelled, SameGraph}
use Rattle.rooted_graph.specs.BreadthOrder.{IsBreadthOrder}
use Rattle.rooted_graph.specs.InOrder.{in_order, counting_up}
use Rattle.rooted_graph.specs.Looks.{numbered_links}
use Rattle.rooted_graph.proofs.Equality.{same_where_looks_same}
use Rattle.rooted_graph.proofs.Ordered.{counts_up, same_in_order}
use Rattle.rooted_graph.proofs.Ends.{same_trans}
use Rattle.frame_content.specs.Labels.{Label}
use Rattle.frame_content.specs.Frames.{Row, Frame, no_row}
use Rattle.canonical_file.specs.Ordered.{frame_graph, SameFrame, row_in, ordered, IsInOrder}
use Rattle.canonical_file.proofs.Graphs.{graph-ordered}

-- two functions that agree from a number on have equal lists
map-range : {X : Type 0} (f g : ℕ → X) (a n : ℕ) → ((k : ℕ) → a ≤ k → k < a + n → f k ≡ g k)
    → map f (range_with_len a n) ≡ map g (range_with_len a n)
map-range f g a zero same = refl
map-range f g a (suc n) same =
    λ i. same a (omega arith) (omega arith) i
    ∷ map-range f g (a + 1) n (λ k low high. same k (omega arith) (omega arith)) i

-- the labels of the rows in an order
label-ordered : (f : Frame) (s : List ℕ) (k : ℕ) → k < length s
    → (in_order (frame_graph f) s).label k ≡ (frame_graph (ordered f s)).label k
label-ordered f s k within = sym (ap (λ (r : Row). r.label) (get_or-map (row_in f s) s k 0 no_row within))

pub same_frame_ordered : (f : Frame) (s : List ℕ) → IsBreadthOrder (frame_graph f).graph s → SameFrame f (ordered f s)
same_frame_ordered f s o =
    let one : Labelled Label = in_order (frame_graph f) s in
    let two : Labelled Label = frame_graph (ordered f s) in
    let t : List ℕ = counting_up s in
    let graphs = graph-ordered f s in
    let first : IsBreadthOrder one.graph t = counts_up (frame_graph f).graph s o in
    let second : IsBreadthOrder two.graph t = subst (λ g. IsBreadthOrder g t) graphs first in
    let same : SameGraph one two = (same_where_looks_same one two t t first second).1 (record {
      as_long = refl;
      roots = refl;
      labels = map-range one.label two.label 0 (length s) (λ k low high. label-ordered f s k (omega arith));
      links = ap (λ (g : Rooted). map (numbered_links g t) t) graphs;
      end_labels = refl;
    }) in
    same_trans (frame_graph f) one two (same_in_order (frame_graph f) s o) same

pub same_in_its_order : (f o : Frame) → IsInOrder f o → SameFrame f o
same_in_its_order f o order = subst (SameFrame f) (sym order.is) (same_frame_ordered f order.order order.breadth)
