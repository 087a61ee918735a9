-- Equal frames are one frame in their breadth-first orders.
use Rattle.std.proofs.Common.{◌≡◌, ℕ, Option, Some, None, List, [], ◌∷◌, map, filter_map, refl, sym, ap, ◌∙◌}
use Rattle.std.specs.List.{AllZip, cons_option}
use Rattle.std.specs.Option.{option_map}
use Rattle.rooted_graph.specs.BreadthOrder.{number_of, IsBreadthOrder}
use Rattle.rooted_graph.specs.InOrder.{renumbered}
use Rattle.rooted_graph.specs.Looks.{numbered_links}
use Rattle.rooted_graph.proofs.Equality.{same_where_looks_same}
use Rattle.frame_content.specs.Labels.{Label}
use Rattle.frame_content.specs.Frames.{Row, Frame, row_at, label_at}
use Rattle.canonical_file.specs.Ordered.{frame_graph, SameFrame, row_in, ordered, IsInOrder}
use Rattle.canonical_file.proofs.Graphs.{links_of-row}

-- a link by the numbers that an order shows
abbrev joined : Option (Option ℕ) → Option ℕ
joined None = None
joined (Some o) = o

renumbered-joined : (s : List ℕ) (ls : List (Option ℕ))
    → map (renumbered s) ls ≡ map joined (map (option_map (number_of s)) ls)
renumbered-joined s [] = refl
renumbered-joined s (None ∷ ls) = ap (λ (xs : List (Option ℕ)). None ∷ xs) (renumbered-joined s ls)
renumbered-joined s (Some n ∷ ls) = ap (λ (xs : List (Option ℕ)). number_of s n ∷ xs) (renumbered-joined s ls)

roots-joined : (s ns : List ℕ) → filter_map (number_of s) ns ≡ filter_map (λ o. o) (map (number_of s) ns)
roots-joined s [] = refl
roots-joined s (n ∷ ns) = ap (cons_option (number_of s n)) (roots-joined s ns)

-- two lists side by side
abbrev zip_by : {A B C : Type 0} → (A → B → C) → List A → List B → List C
zip_by f [] ys = []
zip_by f (x ∷ xs) [] = []
zip_by f (x ∷ xs) (y ∷ ys) = f x y ∷ zip_by f xs ys

map-zip_by : {X A B C : Type 0} (f : A → B → C) (a : X → A) (b : X → B) (c : X → C)
    → ((x : X) → c x ≡ f (a x) (b x)) → (xs : List X) → map c xs ≡ zip_by f (map a xs) (map b xs)
map-zip_by f a b c is [] = refl
map-zip_by f a b c is (x ∷ xs) = λ i. is x i ∷ map-zip_by f a b c is xs i

-- the row that an order shows
abbrev shown : Label → List (Option (Option ℕ)) → Row
shown label links = record { label = label; links = map joined links }

row-shown : (f : Frame) (s : List ℕ) (n : ℕ)
    → row_in f s n ≡ shown (label_at f n) (numbered_links (frame_graph f).graph s n)
row-shown f s n =
    ap (λ (ls : List (Option ℕ)). record { label = label_at f n; links = ls })
    (renumbered-joined s (row_at f n).links
    ∙ ap (λ ls. map joined (map (option_map (number_of s)) ls)) (sym (links_of-row f n)))

rows-shown : (f : Frame) (s : List ℕ)
    → (ordered f s).rows ≡ zip_by shown (map (label_at f) s) (map (numbered_links (frame_graph f).graph s) s)
rows-shown f s =
    map-zip_by shown (label_at f) (numbered_links (frame_graph f).graph s) (row_in f s) (row-shown f s) s

-- equal frames in their orders are one frame
pub same_ordered : (f g : Frame) (s t : List ℕ) → IsBreadthOrder (frame_graph f).graph s
    → IsBreadthOrder (frame_graph g).graph t → SameFrame f g → ordered f s ≡ ordered g t
same_ordered f g s t o p same =
    let looks = (same_where_looks_same (frame_graph f) (frame_graph g) s t o p).0 same in
    let rows : (ordered f s).rows ≡ (ordered g t).rows =
    rows-shown f s ∙ (λ i. zip_by shown (looks.labels i) (looks.links i)) ∙ sym (rows-shown g t) in
    let roots : (ordered f s).roots ≡ (ordered g t).roots =
    roots-joined s f.roots ∙ ap (filter_map (λ o. o)) looks.roots ∙ sym (roots-joined t g.roots) in
    λ i. record { rows = rows i; roots = roots i; end = looks.end_labels i }

pub same_in_orders : (f g o p : Frame) → SameFrame f g → IsInOrder f o → IsInOrder g p → o ≡ p
same_in_orders f g o p same left right =
    left.is ∙ same_ordered f g left.order right.order left.breadth right.breadth same ∙ sym right.is

-- the same of lists of frames
pub same_lists : (fs gs os ps : List Frame) → AllZip SameFrame fs gs → AllZip IsInOrder fs os → AllZip IsInOrder gs ps
    → os ≡ ps
same_lists [] [] [] [] same left right = refl
same_lists [] [] [] (p ∷ ps) same left right = absurd right
same_lists [] [] (o ∷ os) ps same left right = absurd left
same_lists [] (g ∷ gs) os ps same left right = absurd same
same_lists (f ∷ fs) [] os ps same left right = absurd same
same_lists (f ∷ fs) (g ∷ gs) [] ps same left right = absurd left
same_lists (f ∷ fs) (g ∷ gs) (o ∷ os) [] same left right = absurd right
same_lists (f ∷ fs) (g ∷ gs) (o ∷ os) (p ∷ ps) same left right =
    λ i. same_in_orders f g o p same.0 left.0 right.0 i ∷ same_lists fs gs os ps same.1 left.1 right.1 i
