-- What is known of records that are those of drafts: what they lead to, what they read as, and one more of them.
use Rattle.std.proofs.Common.{◌≡◌, ℕ, ◌+◌, Bool, cond, List, [], ◌∷◌, ◌++◌, map}
use Rattle.std.proofs.Common.{Option, Some, None, All, refl, sym, ap, ◌∙◌, subst, arith}
use Rattle.std.specs.Prelude.{◌==◌, ◌&&◌, not, is_some, is_none, option_and_then}
use Rattle.std.specs.List.{position, AllZip}
use Rattle.std.proofs.lemmas.List.{length-append}
use Rattle.std.specs.Option.{option_map, option_map_or}
use Rattle.std.specs.Result.{result_ok}
use Rattle.std.proofs.lemmas.List.Elements.{All-from_recursion}
use Rattle.std.specs.List.{AllByRecursion}
use Rattle.scalar_types.specs.declared.Order.{Order}
use Rattle.scalar_types.specs.declared.Order.TheVariants.{Little}
use Rattle.type_text.specs.declared.types.Link.{Link}
use Rattle.record_values.specs.declared.values.Value.{Value}
use Rattle.record_values.specs.Links.{links_in}
use Rattle.dictionary.specs.Dictionary.{entry_of}
use Rattle.layout_plan.specs.Plans.{plan_of}
use Rattle.rooted_graph.specs.Rooted.{Rooted}
use Rattle.link_graph.specs.declared.nodes.Node.{Node}
use Rattle.link_graph.specs.declared.nodes.Root.{Root}
use Rattle.link_graph.specs.declared.nodes.Root.TheVariants.{Head, Stat}
use Rattle.link_graph.specs.Collected.{Bodied, Collected, is_named, link_to, place_of, target_of, is_held, same_root}
use Rattle.link_graph.specs.Graph.{Layouts, ReadsBy, links_by, links_of, targets_of, is_loose, loose_from, first_loose}
use Rattle.link_graph.specs.Graph.{roots_from, graph_of}
use Rattle.file_grammar.specs.Record.{Reading, layout_in, reading_by}
use Rattle.frame_content.specs.Labels.{Label, label_by}
use Rattle.frame_content.specs.Frames.{Row, Frame, reading_in, label_of, row_of, frame_by}
use Rattle.contents_table.proofs.Positions.{position-map}
use Rattle.sample_file.specs.Entries.{sample_entries}
use Rattle.sample_file.specs.Drafts.{Draft, IsSound, IsOf, is_taken, Holds, Pends}

-- ---- what the records lead to

abbrev draft_node : Draft → Node
draft_node d = d.node

abbrev record_node : Bodied → Node
record_node r = r.node

nodes-same : (ds : List Draft) (rs : List Bodied) → AllZip IsOf ds rs → map record_node rs ≡ map draft_node ds
nodes-same [] [] all = refl
nodes-same [] (r ∷ rs) all = absurd all
nodes-same (d ∷ ds) [] all = absurd all
nodes-same (d ∷ ds) (r ∷ rs) (one, others) = λ i. one.node i ∷ nodes-same ds rs others i

-- the number of the draft that a link names
abbrev pub draft_at : List Draft → Link → Option ℕ
draft_at ds link = position (λ (d : Draft). is_named link d.node) ds

abbrev pub target_in : List Draft → Link → Option ℕ
target_in ds link = cond (link.class == 0) None (draft_at ds link)

pub place-is : (ds : List Draft) (rs : List Bodied) → AllZip IsOf ds rs → (link : Link)
    → place_of rs link ≡ draft_at ds link
place-is ds rs all link =
    sym (position-map (is_named link) record_node rs)
    ∙ ap (λ ns. position (is_named link) ns) (nodes-same ds rs all)
    ∙ position-map (is_named link) draft_node ds

pub target-is : (ds : List Draft) (rs : List Bodied) → AllZip IsOf ds rs → (link : Link)
    → target_of rs link ≡ target_in ds link
target-is ds rs all link = ap (λ o. cond (link.class == 0) None o) (place-is ds rs all link)

pub held-is : (ds : List Draft) (rs : List Bodied) → AllZip IsOf ds rs → (node : Node)
    → is_held rs node ≡ is_taken node ds
held-is ds rs all node = ap is_some (place-is ds rs all (link_to node))

targets-are : (ds : List Draft) (rs : List Bodied) → AllZip IsOf ds rs → (links : List Link)
    → map (target_of rs) links ≡ map (target_in ds) links
targets-are ds rs all [] = refl
targets-are ds rs all (link ∷ links) = λ i. target-is ds rs all link i ∷ targets-are ds rs all links i

-- ---- what they read as

abbrev pub reading_of : Draft → Reading
reading_of d = record { fields = d.fields; values = d.values; tail = [] }

layout-is : (d : Draft) (r : Bodied) → IsSound d → IsOf d r → layout_in sample_entries r.node.class ≡ Some d.fields
layout-is d r sound is = ap (λ (n : Node). layout_in sample_entries n.class) is.node ∙ sound.layout

pub reading-is : (d : Draft) (r : Bodied) → IsSound d → IsOf d r
    → reading_in Little sample_entries r ≡ Some (reading_of d)
reading-is d r sound is =
    ap (option_and_then (reading_by Little r.body)) (layout-is d r sound is)
    ∙ ap (λ found. option_map (λ (x : List Value × List ℕ). record { fields = d.fields; values = x.0; tail = x.1 })
    (result_ok found)) is.written.again

abbrev pub drafted_label : Draft → Label
drafted_label d = label_by (entry_of sample_entries d.node.class) (Some (reading_of d))

pub label-is : (d : Draft) (r : Bodied) → IsSound d → IsOf d r → label_of Little sample_entries r ≡ drafted_label d
label-is d r sound is =
    λ i. label_by (entry_of sample_entries (is.node i).class) (reading-is d r sound is i)

abbrev pub drafted_row : List Draft → Draft → Row
drafted_row ds d = record { label = drafted_label d; links = map (target_in ds) (links_in d.values) }

row-is : (ds : List Draft) (rs : List Bodied) → AllZip IsOf ds rs → (d : Draft) (r : Bodied) → IsSound d → IsOf d r
    → row_of Little sample_entries rs r ≡ drafted_row ds d
row-is ds rs all d r sound is =
    let values : List Value = d.values in
    let own : map (target_of rs)
    (links_in (option_map_or (λ (x : Reading). x.values) (reading_in Little sample_entries r) []))
    ≡ map (target_of rs) (links_in values) =
    ap (λ o. map (target_of rs) (links_in (option_map_or (λ (x : Reading). x.values) o [])))
    (reading-is d r sound is) in
    λ i. record {
      label = label-is d r sound is i;
      links = (own ∙ targets-are ds rs all (links_in values)) i;
    }

rows-are : (all : List Draft) (nodes : List Bodied) → AllZip IsOf all nodes → (ds : List Draft) (rs : List Bodied)
    → AllByRecursion IsSound ds → AllZip IsOf ds rs
    → map (row_of Little sample_entries nodes) rs ≡ map (drafted_row all) ds
rows-are all nodes whole [] [] sound zip = refl
rows-are all nodes whole [] (r ∷ rs) sound zip = absurd zip
rows-are all nodes whole (d ∷ ds) [] sound zip = absurd zip
rows-are all nodes whole (d ∷ ds) (r ∷ rs) (first, sounds) (one, others) =
    λ i. row-is all nodes whole d r first one i ∷ rows-are all nodes whole ds rs sounds others i

-- ---- roots

abbrev pub drafted_roots : Root → ℕ → List Draft → List ℕ
drafted_roots root n [] = []
drafted_roots root n (d ∷ ds) = cond (same_root d.node.root root) (n ∷ []) [] ++ drafted_roots root (n + 1) ds

roots-are : (root : Root) (n : ℕ) (ds : List Draft) (rs : List Bodied) → AllZip IsOf ds rs
    → roots_from root n rs ≡ drafted_roots root n ds
roots-are root n [] [] all = refl
roots-are root n [] (r ∷ rs) all = absurd all
roots-are root n (d ∷ ds) [] all = absurd all
roots-are root n (d ∷ ds) (r ∷ rs) (one, others) =
    λ i. cond (same_root (one.node i).root root) (n ∷ []) [] ++ roots-are root (n + 1) ds rs others i

-- The frame of such records and such an end.
abbrev pub drafted_frame : List Draft → Draft → Frame
drafted_frame ds end = record {
  rows = map (drafted_row ds) ds;
  roots = drafted_roots Head 0 ds ++ drafted_roots Stat 0 ds;
  end = drafted_label end;
}

pub frame-is : (ds : List Draft) (rs : List Bodied) (end : Draft) (last : Bodied) → AllByRecursion IsSound ds
    → AllZip IsOf ds rs → IsSound end → IsOf end last
    → frame_by Little sample_entries rs (Some last) ≡ drafted_frame ds end
frame-is ds rs end last sounds all sound is = λ i. record {
  rows = rows-are ds rs all ds rs sounds all i;
  roots = roots-are Head 0 ds rs all i ++ roots-are Stat 0 ds rs all i;
  end = label-is end last sound is i;
}

-- ---- the graph

-- the plans of the classes are the layouts of the entries
abbrev pub ArePlans : Layouts → Type 0
ArePlans plans = (class : ℕ) → plan_of plans class ≡ layout_in sample_entries class

plan-is : (plans : Layouts) → ArePlans plans → (d : Draft) (r : Bodied) → IsSound d → IsOf d r
    → plan_of plans r.node.class ≡ Some d.fields
plan-is plans planned d r sound is = planned r.node.class ∙ layout-is d r sound is

links-are : (plans : Layouts) → ArePlans plans → (d : Draft) (r : Bodied) → IsSound d → IsOf d r
    → links_of plans Little r ≡ links_in d.values
links-are plans planned d r sound is =
    ap (λ o. option_map_or (λ fields. links_by Little fields r.body) o []) (plan-is plans planned d r sound is)
    ∙ ap (λ found. option_map_or (λ (x : List Value × List ℕ). links_in x.0) (result_ok found) []) is.written.again

abbrev pub drafted_links : List Draft → Draft → List (Option ℕ)
drafted_links ds d = map (target_in ds) (links_in d.values)

table-is : (plans : Layouts) → ArePlans plans → (all : List Draft) (nodes : List Bodied) → AllZip IsOf all nodes
    → (ds : List Draft) (rs : List Bodied) → AllByRecursion IsSound ds → AllZip IsOf ds rs
    → map (targets_of plans Little nodes) rs ≡ map (drafted_links all) ds
table-is plans planned all nodes whole [] [] sound zip = refl
table-is plans planned all nodes whole [] (r ∷ rs) sound zip = absurd zip
table-is plans planned all nodes whole (d ∷ ds) [] sound zip = absurd zip
table-is plans planned all nodes whole (d ∷ ds) (r ∷ rs) (first, sounds) (one, others) =
    let here : targets_of plans Little nodes r ≡ drafted_links all d =
    ap (map (target_of nodes)) (links-are plans planned d r first one)
    ∙ targets-are all nodes whole (links_in d.values) in
    λ i. here i ∷ table-is plans planned all nodes whole ds rs sounds others i

abbrev pub drafted_graph : List Draft → Rooted
drafted_graph ds =
    record { links = map (drafted_links ds) ds; roots = drafted_roots Head 0 ds ++ drafted_roots Stat 0 ds }

pub graph-is : (plans : Layouts) (s : Collected) (ds : List Draft) → ArePlans plans → s.order ≡ Little
    → AllByRecursion IsSound ds → AllZip IsOf ds s.nodes → graph_of plans s ≡ drafted_graph ds
graph-is plans s ds planned order sounds all =
    let table : map (targets_of plans s.order s.nodes) s.nodes ≡ map (drafted_links ds) ds =
    ap (λ o. map (targets_of plans o s.nodes) s.nodes) order
    ∙ table-is plans planned ds s.nodes all ds s.nodes sounds all in
    λ i. record {
      links = table i;
      roots = roots-are Head 0 ds s.nodes all i ++ roots-are Stat 0 ds s.nodes all i;
    }

-- ---- loose links

abbrev pub is_drafted_loose : List Draft → Link → Bool
is_drafted_loose ds link = not (link.class == 0) && is_none (target_in ds link)

abbrev pub drafted_loose : List Draft → ℕ → List Draft → Option (ℕ × ℕ)
drafted_loose all n [] = None
drafted_loose all n (d ∷ ds) =
    option_map_or (λ k. Some (n, k)) (position (is_drafted_loose all) (links_in d.values))
    (drafted_loose all (n + 1) ds)

loose-are : (all : List Draft) (nodes : List Bodied) → AllZip IsOf all nodes → (links : List Link)
    → position (is_loose nodes) links ≡ position (is_drafted_loose all) links
loose-are all nodes whole links =
    sym (position-map is_marked (is_loose nodes) links)
    ∙ ap (λ bs. position is_marked bs) (marks links)
    ∙ position-map is_marked (is_drafted_loose all) links
  where
    is_marked : Bool → Bool
    is_marked b = b

    marks : (links : List Link) → map (is_loose nodes) links ≡ map (is_drafted_loose all) links
    marks [] = refl
    marks (link ∷ links) =
        λ i. (not (link.class == 0) && is_none (target-is all nodes whole link i)) ∷ marks links i

loose-is : (plans : Layouts) → ArePlans plans → (all : List Draft) (nodes : List Bodied) → AllZip IsOf all nodes
    → (n : ℕ) (ds : List Draft) (rs : List Bodied) → AllByRecursion IsSound ds → AllZip IsOf ds rs
    → loose_from plans Little nodes n rs ≡ drafted_loose all n ds
loose-is plans planned all nodes whole n [] [] sound zip = refl
loose-is plans planned all nodes whole n [] (r ∷ rs) sound zip = absurd zip
loose-is plans planned all nodes whole n (d ∷ ds) [] sound zip = absurd zip
loose-is plans planned all nodes whole n (d ∷ ds) (r ∷ rs) (first, sounds) (one, others) =
    let here : position (is_loose nodes) (links_of plans Little r)
    ≡ position (is_drafted_loose all) (links_in d.values) =
    ap (position (is_loose nodes)) (links-are plans planned d r first one)
    ∙ loose-are all nodes whole (links_in d.values) in
    λ i. option_map_or (λ k. Some (n, k)) (here i)
    (loose-is plans planned all nodes whole (n + 1) ds rs sounds others i)

pub first-loose : (plans : Layouts) (s : Collected) (ds : List Draft) → ArePlans plans → s.order ≡ Little
    → AllByRecursion IsSound ds → AllZip IsOf ds s.nodes → first_loose plans s ≡ drafted_loose ds 0 ds
first-loose plans s ds planned order sounds all =
    ap (λ o. loose_from plans o s.nodes 0 s.nodes) order ∙ loose-is plans planned ds s.nodes all 0 ds s.nodes sounds all

-- ---- bodies

pub reads : (plans : Layouts) → ArePlans plans → (order : Order) → order ≡ Little → (d : Draft) (r : Bodied) → IsSound d
    → IsOf d r → ReadsBy plans order r
reads plans planned order little d r sound is = subst (λ o. ReadsBy plans o r) (sym little) (record {
  fields = d.fields;
  plan = plan-is plans planned d r sound is;
  reads = (d.values, [], is.written.body);
})

pub all-read : (plans : Layouts) → ArePlans plans → (order : Order) → order ≡ Little
    → (ds : List Draft) (rs : List Bodied)
    → AllByRecursion IsSound ds → AllZip IsOf ds rs → All (ReadsBy plans order) rs
all-read plans planned order little ds rs sounds all =
    All-from_recursion (ReadsBy plans order) rs (by ds rs sounds all)
  where
    by : (ds : List Draft) (rs : List Bodied) → AllByRecursion IsSound ds → AllZip IsOf ds rs
        → AllByRecursion (ReadsBy plans order) rs
    by [] [] sound zip = tt
    by [] (r ∷ rs) sound zip = absurd zip
    by (d ∷ ds) [] sound zip = absurd zip
    by (d ∷ ds) (r ∷ rs) (first, sounds) (one, others) =
        (reads plans planned order little d r first one, by ds rs sounds others)

-- ---- one more

zip-push : {A B : Type 0} (R : A → B → Type 0) (xs : List A) (ys : List B) (x : A) (y : B) → AllZip R xs ys → R x y
    → AllZip R (xs ++ x ∷ []) (ys ++ y ∷ [])
zip-push R [] [] x y all one = (one, tt)
zip-push R [] (b ∷ ys) x y all one = absurd all
zip-push R (a ∷ xs) [] x y all one = absurd all
zip-push R (a ∷ xs) (b ∷ ys) x y (first, others) one = (first, zip-push R xs ys x y others one)

-- The records of drafts, and one more of a draft whose body was pending.
pub holds-more : (drafts : List Draft) (d : Draft) (old now new : Collected) → Holds drafts old → IsSound d
    → Pends d.fields d.values old now → new.order ≡ now.order
    → new.nodes ≡ now.nodes ++ record { node = d.node; body = now.pending } ∷ [] → new.end_record ≡ now.end_record
    → new.pending ≡ [] → new.given ≡ now.given → Holds (drafts ++ d ∷ []) new
holds-more drafts d old now new held sound pends order nodes end pending given = record {
  order = order ∙ pends.order ∙ held.order;
  nodes = subst (AllZip IsOf (drafts ++ d ∷ []))
      (sym (nodes ∙ ap (λ rs. rs ++ record { node = d.node; body = now.pending } ∷ []) pends.nodes))
      (zip-push IsOf drafts old.nodes d (record { node = d.node; body = now.pending }) held.nodes
      (record { node = refl; written = pends.written }));
  end_record = end ∙ pends.end_record ∙ held.end_record;
  pending = pending;
  given = let long = length-append drafts (d ∷ []) in omega (arith, long, given, pends.given, held.given);
}
