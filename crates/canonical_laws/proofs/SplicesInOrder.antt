-- A frame in its order is in its order under the entries that are used, too: so the frames of a splice are.
use Rattle.std.proofs.Common.{◌≡◌, ℕ, zero, suc, ◌+◌, ◌≤◌, List, [], ◌∷◌, ◌++◌, map, filter_map, length}
use Rattle.std.proofs.Common.{refl, sym, ap, ◌∙◌, subst, arith}
use Rattle.std.specs.List.{AllByRecursion, AllZip, range_with_len}
use Rattle.std.proofs.lemmas.List.{length-map}
use Rattle.rooted_graph.specs.BreadthOrder.{number_of, IsBreadthOrder}
use Rattle.rooted_graph.specs.InOrder.{renumbered, counting_up}
use Rattle.rooted_graph.proofs.Ordered.{counts_up}
use Rattle.dictionary.specs.declared.entries.Entry.{Entry}
use Rattle.frame_content.specs.Frames.{Row, Frame, row_at}
use Rattle.canonical_file.specs.Ordered.{row_links, frame_graph, row_in, ordered, IsInOrder}
use Rattle.canonical_file.specs.Written.{header_alone, after_frames}
use Rattle.canonical_file.specs.Contents.{Content}
use Rattle.canonical_file.specs.Splices.{row_under, frame_under, as_used, frames_in}
use Rattle.canonical_file.proofs.Graphs.{graph-ordered}
use Rattle.canonical_file.proofs.OneOrder.{same_in_orders}
use Rattle.canonical_file.proofs.SameOrder.{same_in_its_order}
use Rattle.canonical_laws.specs.Spliced.{SplicesAreCanonical}
use Rattle.canonical_laws.proofs.UsedTogether.{all-append}
use Rattle.canonical_laws.proofs.FramesUnder.{row-is}

links-under : (used : List Entry) (rows : List Row) → map row_links (map (row_under used) rows) ≡ map row_links rows
links-under used [] = refl
links-under used (r ∷ rows) = ap (λ links. r.links ∷ links) (links-under used rows)

graph-under : (used : List Entry) (f : Frame) → (frame_graph (frame_under used f)).graph ≡ (frame_graph f).graph
graph-under used f = λ i. record { links = links-under used f.rows i; roots = f.roots }

-- the rows from one on, in an order that names rows of the frame alone
rows-in : (used : List Entry) (f : Frame) (s : List ℕ) (a n : ℕ) → a + n ≤ length f.rows
    → map (row_in (frame_under used f) s) (range_with_len a n)
    ≡ map (row_under used) (map (row_in f s) (range_with_len a n))
rows-in used f s a zero within = refl
rows-in used f s a (suc n) within =
    let row : row_at (frame_under used f) a ≡ row_under used (row_at f a) = row-is used f a (omega arith) in
    let later = rows-in used f s (a + 1) n (omega arith) in
    λ i. record { label = (row i).label; links = map (renumbered s) (row i).links } ∷ later i

-- the frame in the order in which its rows stand
counted-under : (used : List Entry) (f : Frame) (s : List ℕ) → length s ≤ length f.rows
    → ordered (frame_under used f) (counting_up s) ≡ frame_under used (ordered f (counting_up s))
counted-under used f s within =
    let rows = rows-in used f (counting_up s) 0 (length s) (omega arith) in
    λ i. record {
      rows = rows i;
      roots = filter_map (number_of (counting_up s)) f.roots;
      end = (frame_under used f).end;
    }

ordered-again : (used : List Entry) (f : Frame) (s : List ℕ) → IsBreadthOrder (frame_graph f).graph s
    → IsInOrder (frame_under used (ordered f s)) (frame_under used (ordered f s))
ordered-again used f s breadth =
    let o : Frame = ordered f s in
    let t : List ℕ = counting_up s in
    let own : IsBreadthOrder (frame_graph o).graph t =
    subst (λ g. IsBreadthOrder g t) (graph-ordered f s) (counts_up (frame_graph f).graph s breadth) in
    let first : IsInOrder f o = record { order = s; breadth = breadth; is = refl } in
    let second : IsInOrder o (ordered o t) = record { order = t; breadth = own; is = refl } in
    let again : o ≡ ordered o t = same_in_orders f o o (ordered o t) (same_in_its_order f o first) first second in
    let many : length o.rows ≡ length s = length-map s (row_in f s) in
    record {
      order = t;
      breadth = subst (λ g. IsBreadthOrder g t) (sym (graph-under used o)) own;
      is = ap (frame_under used) again ∙ sym (counted-under used o s (omega (arith, many)));
    }

abbrev IsInItsOrder : Frame → Type 0
IsInItsOrder o = IsInOrder o o

orders-again : (used : List Entry) (fs os : List Frame) → AllZip IsInOrder fs os
    → AllByRecursion (λ (o : Frame). IsInItsOrder (frame_under used o)) os
orders-again used [] [] orders = tt
orders-again used [] (o ∷ os) orders = absurd orders
orders-again used (f ∷ fs) [] orders = absurd orders
orders-again used (f ∷ fs) (o ∷ os) orders = (
  subst (λ (o : Frame). IsInItsOrder (frame_under used o)) (sym orders.0.is)
      (ordered-again used f orders.0.order orders.0.breadth),
  orders-again used fs os orders.1,
)

side-by-side : (used : List Entry) (os : List Frame)
    → AllByRecursion (λ (o : Frame). IsInItsOrder (frame_under used o)) os
    → AllZip IsInOrder (map (frame_under used) os) (map (frame_under used) os)
side-by-side used [] all = tt
side-by-side used (o ∷ os) all = (all.0, side-by-side used os all.1)

-- what is written of the frames of a splice is its canonical file
pub splices_canonical : SplicesAreCanonical
splices_canonical first others c s =
    let fs : List Frame = s.front ++ s.back in
    let used : List Entry = (after_frames header_alone fs).entries in
    let orders : AllZip IsInOrder (as_used fs) (as_used fs) =
    side-by-side used fs (all-append (λ (o : Frame). IsInItsOrder (frame_under used o)) s.front s.back
    (orders-again used first.frames s.front s.front_in_order)
    (orders-again used (frames_in others) s.back s.back_in_order)) in
    record {
      ordered = c.frames;
      in_order = subst (λ (c : Content). AllZip IsInOrder c.frames c.frames) (sym s.is) orders;
      is = refl;
    }
