-- The graph of a segment is that of its frame, and a breadth-first order of it has records alone, each once.
use Rattle.std.proofs.Common.{◌≡◌, ℕ, ◌<◌, ◌≤◌, ◌⊎◌, inl, inr, Bool, true, false, cond, Option, Some, None, List, []}
use Rattle.std.proofs.Common.{◌∷◌, ◌++◌, length, get_or, map, Result, Ok, Err, refl, sym, ap, ◌∙◌, subst}
use Rattle.std.specs.Prelude.{◌==◌, All, nat_eq, option_and_then}
use Rattle.std.specs.List.{flat_map, filter_map, IsDistinct}
use Rattle.std.specs.Option.{option_map, option_map_or}
use Rattle.std.specs.Result.{result_ok}
use Rattle.std.proofs.lemmas.Bool.{cases_lt}
use Rattle.std.proofs.lemmas.Bool.Decides.{Decides-eqb}
use Rattle.std.proofs.lemmas.List.{get_or_past, length-map}
use Rattle.std.proofs.lemmas.List.Elements.{All-nil, All-cons, All-head, All-tail, All-append, All-map, All-get_or}
use Rattle.std.proofs.lemmas.List.Elements.{All-contains}
use Rattle.std.proofs.lemmas.List.Quantifiers.{position-Some}
use Rattle.std.proofs.lemmas.Map.Made.{AllPairs-from_IsDistinct}
use Rattle.std.proofs.lemmas.Option.{none-some}
use Rattle.scalar_types.specs.declared.Order.{Order}
use Rattle.type_text.specs.declared.types.Link.{Link}
use Rattle.record_values.specs.declared.values.Value.{Value}
use Rattle.record_values.specs.Links.{links_in}
use Rattle.dictionary.specs.declared.entries.Entry.{Entry}
use Rattle.layout_plan.specs.declared.fields.Field.{Field}
use Rattle.layout_plan.specs.declared.faults.BodyFault.{BodyFault}
use Rattle.layout_plan.specs.Reading.{body_in}
use Rattle.layout_plan.specs.Plans.{plan_of}
use Rattle.file_grammar.specs.Record.{Reading, layout_in, reading_by}
use Rattle.rooted_graph.specs.Rooted.{Rooted, links_of as links_at}
use Rattle.rooted_graph.specs.BreadthOrder.{first_occurrences, targets, roots_and_targets, IsBreadthOrder}
use Rattle.rooted_graph.proofs.Firsts.{has_at, has-first_occurrences, first_occurrences_distinct}
use Rattle.rooted_graph.proofs.Places.{Contains_from_has}
use Rattle.link_graph.specs.declared.nodes.Root.TheVariants.{No, Head, Stat}
use Rattle.link_graph.specs.Collected.{Bodied, Collected, is_named, place_of, target_of}
use Rattle.link_graph.specs.Graph.{Layouts, links_of, targets_of, roots_from, graph_of}
use Rattle.link_graph.specs.Table.{IsWithin}
use Rattle.link_graph.proofs.Tables.{roots-within}
use Rattle.frame_content.specs.Frames.{Row, values_in, row_of, frame_of}
use Rattle.canonical_file.specs.Ordered.{row_links, frame_graph}
use Rattle.canonical_file.specs.Renumbered.{IsLinked}
use Rattle.canonical_writer.specs.NewLinks.{classes_of, IsOrder}

-- what stands for a record past the last one
abbrev pub no_record : Bodied
no_record = record { node = record { at = 0; class = 0; instance = 0; root = No }; body = [] }

-- ---- all targets are records

target-below : (nodes : List Bodied) (link : Link) (n : ℕ) → target_of nodes link ≡ Some n → n < length nodes
target-below nodes link n is =
    (position-Some (λ (r : Bodied). is_named link r.node) nodes n no_record (found (link.class == 0) is)).0
  where
    found : (b : Bool) → cond b None (place_of nodes link) ≡ Some n → place_of nodes link ≡ Some n
    found true e = absurd (none-some n e)
    found false e = e

pub target-within : (nodes : List Bodied) (link : Link) → IsWithin (length nodes) (target_of nodes link)
target-within nodes link = by (target_of nodes link) refl
  where
    by : (o : Option ℕ) → target_of nodes link ≡ o → IsWithin (length nodes) o
    by None is = tt
    by (Some n) is = target-below nodes link n is

-- the targets of links
all-within : (nodes : List Bodied) (links : List Link) → All (IsWithin (length nodes)) (map (target_of nodes) links)
all-within nodes links =
    All-map (IsWithin (length nodes)) (target_of nodes) links (λ k d within. target-within nodes (get_or links k d))

roots-below : (nodes : List Bodied) → All (λ n. n < length nodes) (roots_from Head 0 nodes ++ roots_from Stat 0 nodes)
roots-below nodes =
    All-append (λ n. n < length nodes) (roots_from Head 0 nodes) (roots_from Stat 0 nodes)
    (roots-within Head nodes (length nodes) refl) (roots-within Stat nodes (length nodes) refl)

-- The roots and the links of a segment's frame lead to its records.
pub frame-linked : (held : List Entry) (s : Collected) → IsLinked (frame_of held s)
frame-linked held s =
    let count : length (map (row_of s.order held s.nodes) s.nodes) ≡ length s.nodes =
    length-map s.nodes (row_of s.order held s.nodes) in
    record {
      roots = subst (λ n. All (λ m. m < n) (frame_of held s).roots) (sym count) (roots-below s.nodes);
      links = subst (λ n. All (λ (r : Row). All (IsWithin n) r.links) (frame_of held s).rows) (sym count)
          (All-map (λ (r : Row). All (IsWithin (length s.nodes)) r.links) (row_of s.order held s.nodes) s.nodes
          (λ k d within. all-within s.nodes (links_in (values_in s.order held (get_or s.nodes k d)))));
    }

-- ---- the graph of the frame

links-same : (held : List Entry) (plans : Layouts) (order : Order) (r : Bodied)
    → ((class : ℕ) → plan_of plans class ≡ layout_in held class)
    → links_in (values_in order held r) ≡ links_of plans order r
links-same held plans order r plans_are =
    by (layout_in held r.node.class)
    ∙ ap (λ o. option_map_or (read r.body) o []) (sym (plans_are r.node.class))
  where
    read : List ℕ → List Field → List Link
    read body fields =
        option_map_or (λ (found : List Value × List ℕ). links_in found.0) (result_ok (body_in order fields body)) []

    one : (fields : List Field) (found : Result (List Value × List ℕ) BodyFault)
        → links_in (option_map_or (λ (reading : Reading). reading.values)
        (option_map (λ (found : List Value × List ℕ). record {
          fields = fields;
          values = found.0;
          tail = found.1;
        }) (result_ok found)) [])
        ≡ option_map_or (λ (found : List Value × List ℕ). links_in found.0) (result_ok found) []
    one fields (Ok found) = refl
    one fields (Err fault) = refl

    by : (o : Option (List Field))
        → links_in (option_map_or (λ (reading : Reading). reading.values)
        (option_and_then (reading_by order r.body) o) []) ≡ option_map_or (read r.body) o []
    by None = refl
    by (Some fields) = one fields (body_in order fields r.body)

rows-same : (held : List Entry) (plans : Layouts) (s : Collected) (rs : List Bodied)
    → ((class : ℕ) → plan_of plans class ≡ layout_in held class)
    → map row_links (map (row_of s.order held s.nodes) rs) ≡ map (targets_of plans s.order s.nodes) rs
rows-same held plans s [] plans_are = refl
rows-same held plans s (r ∷ rs) plans_are =
    λ i. map (target_of s.nodes) (links-same held plans s.order r plans_are i) ∷ rows-same held plans s rs plans_are i

pub graph-same : (held : List Entry) (plans : Layouts) (s : Collected)
    → ((class : ℕ) → plan_of plans class ≡ layout_in held class)
    → (frame_graph (frame_of held s)).graph ≡ graph_of plans s
graph-same held plans s plans_are = λ i. record {
  links = rows-same held plans s s.nodes plans_are i;
  roots = roots_from Head 0 s.nodes ++ roots_from Stat 0 s.nodes;
}

pub frame-breadth : (held : List Entry) (plans : Layouts) (s : Collected) (numbers : List ℕ)
    → ((class : ℕ) → plan_of plans class ≡ layout_in held class) → IsBreadthOrder (graph_of plans s) numbers
    → IsBreadthOrder (frame_graph (frame_of held s)).graph numbers
frame-breadth held plans s numbers plans_are breadth =
    subst (λ g. IsBreadthOrder g numbers) (sym (graph-same held plans s plans_are)) breadth

-- ---- its order

-- what holds of all numbers holds of the first occurrences
all-first : (P : ℕ → Type 0) (xs : List ℕ) → All P xs → All P (first_occurrences xs)
all-first P xs all = λ k d within.
    let n : ℕ = get_or (first_occurrences xs) k d in
    All-contains P xs n all
    (Contains_from_has xs n (sym (has-first_occurrences xs n) ∙ has_at (first_occurrences xs) k d within))

all-some : (count : ℕ) (links : List (Option ℕ)) → All (IsWithin count) links
    → All (λ n. n < count) (filter_map (λ link. link) links)
all-some count [] all = All-nil (λ n. n < count)
all-some count (None ∷ links) all = all-some count links (All-tail (IsWithin count) None links all)
all-some count (Some n ∷ links) all =
    All-cons (λ n. n < count) n (filter_map (λ link. link) links) (All-head (IsWithin count) (Some n) links all)
    (all-some count links (All-tail (IsWithin count) (Some n) links all))

all-flat : (P : ℕ → Type 0) (f : ℕ → List ℕ) (xs : List ℕ) → ((x : ℕ) → All P (f x)) → All P (flat_map f xs)
all-flat P f [] each = All-nil P
all-flat P f (x ∷ xs) each = All-append P (f x) (flat_map f xs) (each x) (all-flat P f xs each)

targets-below : (plans : Layouts) (s : Collected) (n : ℕ)
    → All (λ m. m < length s.nodes) (targets (graph_of plans s) n)
targets-below plans s n =
    all-some (length s.nodes) (links_at (graph_of plans s) n)
    (by (cases_lt n (length (map (targets_of plans s.order s.nodes) s.nodes))))
  where
    rows : List (List (Option ℕ))
    rows = map (targets_of plans s.order s.nodes) s.nodes

    by : (n < length rows) ⊎ (length rows ≤ n) → All (IsWithin (length s.nodes)) (links_at (graph_of plans s) n)
    by (inl within) =
        All-get_or (All (IsWithin (length s.nodes))) rows n [] within
        (All-map (All (IsWithin (length s.nodes))) (targets_of plans s.order s.nodes) s.nodes
        (λ k d there. all-within s.nodes (links_of plans s.order (get_or s.nodes k d))))
    by (inr past) =
        subst (All (IsWithin (length s.nodes))) (sym (get_or_past rows n [] past)) (All-nil (IsWithin (length s.nodes)))

pub breadth-within : (plans : Layouts) (s : Collected) (numbers : List ℕ) → IsBreadthOrder (graph_of plans s) numbers
    → All (λ n. n < length s.nodes) numbers
breadth-within plans s numbers breadth =
    let g : Rooted = graph_of plans s in
    subst (All (λ n. n < length s.nodes)) (sym breadth.first)
    (all-first (λ n. n < length s.nodes) (roots_and_targets g numbers)
    (All-append (λ n. n < length s.nodes) g.roots (flat_map (targets g) numbers) (roots-below s.nodes)
    (all-flat (λ n. n < length s.nodes) (targets g) numbers (targets-below plans s))))

pub breadth-order : (plans : Layouts) (s : Collected) (numbers : List ℕ) → IsBreadthOrder (graph_of plans s) numbers
    → IsOrder (classes_of s.nodes) numbers
breadth-order plans s numbers breadth = record {
  within = subst (λ count. All (λ n. n < count) numbers) (sym (length-map s.nodes (λ (r : Bodied). r.node.class)))
      (breadth-within plans s numbers breadth);
  distinct = AllPairs-from_IsDistinct Decides-eqb numbers (subst (IsDistinct nat_eq) (sym breadth.first)
      (first_occurrences_distinct (roots_and_targets (graph_of plans s) numbers)));
}
