-- The table of targets: its rows, and what it holds.
use Rattle.std.proofs.Common.{◌≡◌, ℕ, zero, suc, ◌+◌, ◌-◌, ◌<◌, ◌≤◌, List, [], ◌∷◌, ◌++◌, length, take}
use Rattle.std.proofs.Common.{drop, map, get_or, cond, Bool, true, false, Option, Some, None, IfSome, refl}
use Rattle.std.proofs.Common.{sym, ap, ◌∙◌, subst, arith, length-append, length-drop, position}
use Rattle.std.specs.Prelude.{All, slice_range, slice_get, nat_lt, ◌==◌}
use Rattle.std.specs.Option.{option_map, option_map_or}
use Rattle.std.specs.List.{position_or_len}
use Rattle.std.proofs.lemmas.Bool.{ltb-true}
use Rattle.std.proofs.lemmas.List.{take-append-le, drop-append-le, take_all, drop_at, append_assoc}
use Rattle.std.proofs.lemmas.List.{drop_more, get_or-drop, length-map, take-map, drop-map}
use Rattle.std.proofs.lemmas.List.Elements.{All-append, All-take}
use Rattle.std.proofs.lemmas.Option.{slice_get-get_or}
use Rattle.scalar_types.specs.declared.Order.{Order}
use Rattle.type_text.specs.declared.types.Link.{Link}
use Rattle.link_graph.specs.declared.nodes.Node.{Node}
use Rattle.link_graph.specs.declared.nodes.Root.TheVariants.{Head, Stat}
use Rattle.link_graph.specs.declared.nodes.Root.{Root}
use Rattle.link_graph.specs.Collected.{Bodied, Collected, is_named, same_root, place_of, target_of}
use Rattle.link_graph.specs.Graph.{Layouts, roots_from, links_of, targets_of, all_links, is_loose}
use Rattle.link_graph.specs.Graph.{loose_from, first_loose, graph_of}
use Rattle.link_graph.specs.Table.{rows_from, start_of, AreEnds, IsWithin, IsTable, loose_row, graph_by}
use Rattle.link_graph.proofs.Found.{Some-same}

pub length-rows : {X : Type 0} (start : ℕ) (ends : List ℕ) (targets : List X) →
    length (rows_from start ends targets) ≡ length ends
length-rows start [] targets = refl
length-rows start (end ∷ ends) targets = ap suc (length-rows end ends targets)

ends-last : (start : ℕ) (ends : List ℕ) (last : ℕ) → AreEnds start ends last → start ≤ last
ends-last start [] last p = omega arith
ends-last start (end ∷ ends) last p = let rest = ends-last end ends last p.1 in omega (arith, p.0)

-- a row begins before it ends, and ends within the targets
pub row-within : (start : ℕ) (ends : List ℕ) (last n d : ℕ) → AreEnds start ends last → n < length ends →
    (start_of start ends n ≤ get_or ends n d) × (get_or ends n d ≤ last)
row-within start [] last n d p lt = absurd (omega arith)
row-within start (end ∷ ends) last zero d p lt = (p.0, ends-last end ends last p.1)
row-within start (end ∷ ends) last (suc n) d p lt = row-within end ends last n d p.1 (omega arith)

-- the row of a number
pub row-at : {X : Type 0} (start : ℕ) (ends : List ℕ) (targets : List X) (n d : ℕ) → n < length ends →
    get_or (rows_from start ends targets) n [] ≡ slice_range targets (start_of start ends n)
    (get_or ends n d)
row-at start [] targets n d lt = absurd (omega arith)
row-at start (end ∷ ends) targets zero d lt = refl
row-at start (end ∷ ends) targets (suc n) d lt = row-at end ends targets n d (omega arith)

start-first : (start : ℕ) (ends : List ℕ) → start_of start ends 0 ≡ start
start-first start [] = refl
start-first start (end ∷ ends) = refl

-- a row begins where the one before it ends
pub start-after : (start : ℕ) (ends : List ℕ) (n d : ℕ) → n < length ends →
    start_of start ends (suc n) ≡ get_or ends n d
start-after start [] n d lt = absurd (omega arith)
start-after start (end ∷ ends) zero d lt = start-first end ends
start-after start (end ∷ ends) (suc n) d lt = start-after end ends n d (omega arith)

pub start-none : (ends : List ℕ) → 0 ≡ start_of 0 ends 0
start-none ends = sym (start-first 0 ends)

front-kept : {X : Type 0} (targets row : List X) (start end : ℕ) → start ≤ end → end ≤ length targets →
    slice_range (targets ++ row) start end ≡ slice_range targets start end
front-kept targets row start end forward within =
    ap (take (end - start)) (drop-append-le start targets row (omega arith))
    ∙ take-append-le (end - start) (drop start targets) row (omega (arith, length-drop start targets))

last-row : {X : Type 0} (targets row : List X) (start : ℕ) → start ≡ length targets →
    slice_range (targets ++ row) start (length (targets ++ row)) ≡ row
last-row targets row start is =
    ap (take (length (targets ++ row) - start)) (drop_at targets row start (sym is))
    ∙ take_all (length (targets ++ row) - start) row (omega (arith, length-append targets row))

-- one more row
pub rows-push : {X : Type 0} (start : ℕ) (ends : List ℕ) (targets row : List X) →
    AreEnds start ends (length targets) →
    rows_from start (ends ++ length (targets ++ row) ∷ []) (targets ++ row) ≡ rows_from start ends targets
    ++ row ∷ []
rows-push start [] targets row p = ap (λ r. r ∷ []) (last-row targets row start p)
rows-push start (end ∷ ends) targets row p =
    λ i. front-kept targets row start end p.0 (ends-last end ends (length targets) p.1) i ∷ rows-push end
    ends targets row p.1 i

ends-push : (start : ℕ) (ends : List ℕ) (last next : ℕ) → AreEnds start ends last → last ≤ next →
    AreEnds start (ends ++ next ∷ []) next
ends-push start [] last next p more = (omega arith, refl)
ends-push start (end ∷ ends) last next p more = (p.0, ends-push end ends last next p.1 more)

pub ends-grown : {X : Type 0} (ends : List ℕ) (targets row : List X) → AreEnds 0 ends (length targets) →
    AreEnds 0 (ends ++ length (targets ++ row) ∷ []) (length (targets ++ row))
ends-grown ends targets row p =
    ends-push 0 ends (length targets) (length (targets ++ row)) p (omega (arith, length-append targets row))

pub all-range : {X : Type 0} (P : X → Type 0) (xs : List X) (from to : ℕ) → All P xs →
    All P (slice_range xs from to)
all-range P xs from to all =
    All-take P (to - from) (drop from xs)
    (λ k d h. subst P (sym (get_or-drop from xs k d))
    (all (from + k) d (omega (arith, h, length-drop from xs))))

some-within : (b : Bool) (n count : ℕ) → (b ≡ true → n < count) →
    IfSome (cond b (Some n) None) (λ i. i < count)
some-within true n count h = h refl
some-within false n count h = tt

unless-within : (b : Bool) (count : ℕ) (target : Option ℕ) → IsWithin count target →
    IsWithin count (cond b None target)
unless-within true count target h = tt
unless-within false count target h = h

-- a target is a record
target-within : (nodes : List Bodied) (link : Link) → IsWithin (length nodes) (target_of nodes link)
target-within nodes link =
    let at : ℕ = position_or_len (λ (r : Bodied). is_named link r.node) nodes in
    unless-within (link.class == 0) (length nodes) (place_of nodes link)
    (some-within (nat_lt at (length nodes)) at (length nodes) (ltb-true at (length nodes)))

all-targets : (nodes : List Bodied) (links : List Link) (k : ℕ) (d : Option ℕ) →
    k < length (map (target_of nodes) links) →
    IsWithin (length nodes) (get_or (map (target_of nodes) links) k d)
all-targets nodes [] k d h = absurd (omega arith)
all-targets nodes (l ∷ ls) zero d h = target-within nodes l
all-targets nodes (l ∷ ls) (suc k) d h = all-targets nodes ls k d (omega arith)

-- the roots from a record on
pub roots-step : (root : Root) (nodes : List Bodied) (k : ℕ) (node : Node) (such : Bool)
    (roots next whole : List ℕ) → k < length nodes →
    option_map (λ (r : Bodied). r.node) (slice_get nodes k) ≡ Some node →
    such ≡ same_root node.root root → next ≡ roots ++ cond such (k ∷ []) [] →
    roots ++ roots_from root k (drop k nodes) ≡ whole →
    next ++ roots_from root (k + 1) (drop (k + 1) nodes) ≡ whole
roots-step root nodes k node such roots next whole within is_node is_such pushed so =
    let none : Bodied = record { node = node; body = [] } in
    let r : Bodied = get_or nodes k none in
    let named : r.node ≡ node =
    Some-same r.node node
    (ap (option_map (λ (r : Bodied). r.node)) (sym (slice_get-get_or nodes k none within)) ∙ is_node) in
    let rest : List ℕ = roots_from root (k + 1) (drop (k + 1) nodes) in
    ap (λ (xs : List ℕ). xs ++ rest) pushed
    ∙ append_assoc roots (cond such (k ∷ []) []) rest
    ∙ ap (λ (b : Bool). roots ++ (cond b (k ∷ []) [] ++ rest)) (is_such
    ∙ ap (λ (n : Node). same_root n.root root) (sym named))
    ∙ ap (λ (rs : List Bodied). roots ++ roots_from root k rs) (sym (drop_more nodes k none within))
    ∙ so

roots-below : (root : Root) (n : ℕ) (rs : List Bodied) → All (λ m. m < n + length rs) (roots_from root n rs)
roots-below root n [] = λ k d h. absurd (omega (arith, h))
roots-below root n (r ∷ rs) =
    All-append (λ m. m < n + length (r ∷ rs)) (cond (same_root r.node.root root) (n ∷ []) [])
    (roots_from root (n + 1) rs)
    (here (same_root r.node.root root))
    (λ k d h. let below = roots-below root (n + 1) rs k d h in omega (arith, below))
  where
    here : (b : Bool) → All (λ m. m < n + length (r ∷ rs)) (cond b (n ∷ []) [])
    here true zero d h = omega arith
    here true (suc k) d h = absurd (omega (arith, h))
    here false k d h = absurd (omega (arith, h))

pub roots-within : (root : Root) (nodes : List Bodied) (count : ℕ) → count ≡ length nodes →
    All (λ m. m < count) (roots_from root 0 nodes)
roots-within root nodes count is = λ k d h. let below = roots-below root 0 nodes k d h in
    omega (arith, below, is)

-- where the last row ends
pub start-last : (start : ℕ) (ends : List ℕ) (last k : ℕ) → AreEnds start ends last → length ends ≤ k →
    start_of start ends k ≡ last
start-last start [] last k p le = p
start-last start (end ∷ ends) last zero p le = absurd (omega (arith, le))
start-last start (end ∷ ends) last (suc k) p le = start-last end ends last k p.1 (omega (arith, le))

-- rows of what is made of each item
pub rows-map : {X Y : Type 0} (f : X → Y) (start : ℕ) (ends : List ℕ) (items : List X) →
    rows_from start ends (map f items) ≡ map (map f) (rows_from start ends items)
rows-map f start [] items = refl
rows-map f start (end ∷ ends) items =
    let row : slice_range (map f items) start end ≡ map f (slice_range items start end) =
    ap (take (end - start)) (drop-map f start items) ∙ take-map f (end - start) (drop start items) in
    λ i. row i ∷ rows-map f end ends items i

take-none : {X : Type 0} (n : ℕ) → take {A = X} n [] ≡ []
take-none zero = refl
take-none (suc n) = refl

drop-none : {X : Type 0} (n : ℕ) → drop {A = X} n [] ≡ []
drop-none zero = refl
drop-none (suc n) = refl

-- the items up to the end of a row
pub take-row : {X : Type 0} (items : List X) (from to : ℕ) → from ≤ to →
    take from items ++ slice_range items from to ≡ take to items
take-row {X} [] from to le =
    (λ i. take-none {X = X} from i ++ take (to - from) (drop-none {X = X} from i))
    ∙ take-none (to - from) ∙ sym (take-none to)
take-row (x ∷ xs) zero to le =
    let same : to - 0 ≡ to = omega arith in
    ap (λ n. take n (x ∷ xs)) same
take-row (x ∷ xs) (suc from) zero le = absurd (omega (arith, le))
take-row (x ∷ xs) (suc from) (suc to) le =
    let same : suc to - suc from ≡ to - from = omega arith in
    ap (λ n. x ∷ (take from xs ++ take n (drop from xs))) same
    ∙ ap (λ more. x ∷ more) (take-row xs from to (omega (arith, le)))

-- the table of all records, whose links are these
pub table-all : (nodes : List Bodied) (links : List Link) (targets : List (Option ℕ))
    (ends first roots : List ℕ) → targets ≡ map (target_of nodes) links → AreEnds 0 ends (length links) →
    length ends ≡ length nodes → length nodes ≤ 4294967295 → first ≡ [] ++ roots_from Head 0 nodes →
    roots ≡ first ++ roots_from Stat 0 nodes → IsTable targets ends roots
table-all nodes links targets ends first roots put placed count few heads all =
    let made : roots ≡ roots_from Head 0 nodes ++ roots_from Stat 0 nodes = all
    ∙ ap (λ (xs : List ℕ). xs ++ roots_from Stat 0 nodes) heads in
    let size : length links ≡ length targets = sym (length-map links (target_of nodes))
    ∙ sym (ap length put) in
    record {
      placed = subst (AreEnds 0 ends) size placed;
      few = omega (arith, count, few);
      whole = subst (λ (n : ℕ). All (IsWithin n) targets) (sym count)
          (subst (All (IsWithin (length nodes))) (sym put) (all-targets nodes links));
      rooted = subst (All (λ n. n < length ends)) (sym made)
          (All-append (λ n. n < length ends) (roots_from Head 0 nodes) (roots_from Stat 0 nodes)
          (roots-within Head nodes (length ends) count)
          (roots-within Stat nodes (length ends) count));
    }

-- the graph that it is
pub graph-all : (nodes : List Bodied) (links : List Link) (targets : List (Option ℕ))
    (ends first roots : List ℕ) → targets ≡ map (target_of nodes) links →
    first ≡ [] ++ roots_from Head 0 nodes → roots ≡ first ++ roots_from Stat 0 nodes →
    record { links = rows_from 0 ends targets; roots = roots } ≡ graph_by nodes (rows_from 0 ends links)
graph-all nodes links targets ends first roots put heads all =
    let made : roots ≡ roots_from Head 0 nodes ++ roots_from Stat 0 nodes = all
    ∙ ap (λ (xs : List ℕ). xs ++ roots_from Stat 0 nodes) heads in
    let rows : rows_from 0 ends targets ≡ map (map (target_of nodes)) (rows_from 0 ends links) =
    ap (rows_from 0 ends) put ∙ rows-map (target_of nodes) 0 ends links in
    λ i. record { links = rows i; roots = made i }

-- ---- the rows of a frame's records

pub loose-rows : (plans : Layouts) (order : Order) (nodes : List Bodied) (n : ℕ) (rs : List Bodied) →
    loose_from plans order nodes n rs ≡ loose_row nodes n (map (links_of plans order) rs)
loose-rows plans order nodes n [] = refl
loose-rows plans order nodes n (r ∷ rs) =
    ap (option_map_or (λ k. Some (n, k)) (position (is_loose nodes) (links_of plans order r)))
    (loose-rows plans order nodes (n + 1) rs)

pub target-rows : (plans : Layouts) (order : Order) (nodes rs : List Bodied) →
    map (targets_of plans order nodes) rs ≡ map (map (target_of nodes)) (map (links_of plans order) rs)
target-rows plans order nodes [] = refl
target-rows plans order nodes (r ∷ rs) =
    ap (λ rows. targets_of plans order nodes r ∷ rows) (target-rows plans order nodes rs)

pub loose-by : (plans : Layouts) (s : Collected) (rows : List (List Link)) → rows ≡ all_links plans s →
    loose_row s.nodes 0 rows ≡ first_loose plans s
loose-by plans s rows are =
    ap (loose_row s.nodes 0) are ∙ sym (loose-rows plans s.order s.nodes 0 s.nodes)

pub graph-by : (plans : Layouts) (s : Collected) (rows : List (List Link)) → rows ≡ all_links plans s →
    graph_by s.nodes rows ≡ graph_of plans s
graph-by plans s rows are =
    ap (graph_by s.nodes) are
    ∙ sym (λ i. record {
      links = target-rows plans s.order s.nodes s.nodes i;
      roots = roots_from Head 0 s.nodes ++ roots_from Stat 0 s.nodes;
    })

-- one row further
pub loose-step : (nodes : List Bodied) (links : List Link) (ends : List ℕ) (k d : ℕ) → k < length ends →
    loose_row nodes k (drop k (rows_from 0 ends links)) ≡ option_map_or (λ j. Some (k, j))
    (position (is_loose nodes) (slice_range links (start_of 0 ends k) (get_or ends k d)))
    (loose_row nodes (k + 1) (drop (k + 1) (rows_from 0 ends links)))
loose-step nodes links ends k d lt =
    let rows : List (List Link) = rows_from 0 ends links in
    ap (loose_row nodes k) (drop_more rows k [] (omega (arith, length-rows 0 ends links, lt)))
    ∙ ap (λ (row : List Link). option_map_or (λ j. Some (k, j)) (position (is_loose nodes) row)
    (loose_row nodes (k + 1) (drop (k + 1) rows))) (row-at 0 ends links k d lt)
