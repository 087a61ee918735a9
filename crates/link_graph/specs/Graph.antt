-- The links of a frame's records, their targets, and the graph that they make.
use Rattle.std.specs.Prelude.{◌≡◌, ℕ, ◌+◌, ◌==◌, ◌&&◌, not, Bool, if◌then◌else◌, List, [], ◌∷◌, ◌++◌, map}
use Rattle.std.specs.Prelude.{position, is_none, Option, Some, None}
use Rattle.std.specs.Option.{option_map_or}
use Rattle.std.specs.Result.{result_ok}
use Rattle.scalar_types.specs.declared.Order.{Order}
use Rattle.type_text.specs.declared.types.Link.{Link}
use Rattle.record_values.specs.Links.{links_in}
use Rattle.layout_plan.specs.declared.fields.Field.{Field}
use Rattle.layout_plan.specs.Body.{HasBody}
use Rattle.layout_plan.specs.Reading.{body_in}
use Rattle.layout_plan.specs.declared.links.FieldLink.{FieldLink}
use Rattle.layout_plan.specs.Plans.{plan_of}
use Rattle.rooted_graph.specs.Rooted.{Rooted}
use Rattle.link_graph.specs.declared.nodes.Root.{Root}
use Rattle.link_graph.specs.declared.nodes.Root.TheVariants.{Head, Stat}
use Rattle.link_graph.specs.Collected.{Bodied, Collected, target_of, same_root}

-- the layouts of classes
abbrev pub Layouts : Type 0
Layouts = List (ℕ × List Field)

-- the body reads by the layout of its class
pub record ReadsBy (plans : Layouts) (order : Order) (r : Bodied) : Type 0 where
  pub fields : List Field
  pub plan : plan_of plans r.node.class ≡ Some fields
  pub reads : HasBody order fields r.body

-- the link that a field holds
abbrev pub link_in : FieldLink → Link
link_in held = held.link

-- the links of a body by a layout: those of its fields in turn, and within a list those of its items
abbrev pub links_by : Order → List Field → List ℕ → List Link
links_by order fields body =
    option_map_or (λ found. links_in found.0) (result_ok (body_in order fields body)) []

-- the links of a record by the layout of its class
abbrev pub links_of : Layouts → Order → Bodied → List Link
links_of plans order r =
    option_map_or (λ fields. links_by order fields r.body) (plan_of plans r.node.class) []

-- the links of all records, row by row
abbrev pub all_links : Layouts → Collected → List (List Link)
all_links plans s = map (links_of plans s.order) s.nodes

-- where they lead
abbrev pub targets_of : Layouts → Order → List Bodied → Bodied → List (Option ℕ)
targets_of plans order nodes r = map (target_of nodes) (links_of plans order r)

-- the link is not null and has no target
abbrev pub is_loose : List Bodied → Link → Bool
is_loose nodes link = not (link.class == 0) && is_none (target_of nodes link)

-- the first record, and its first link, that is loose; the records are numbered from n
abbrev pub loose_from : Layouts → Order → List Bodied → ℕ → List Bodied → Option (ℕ × ℕ)
loose_from plans order nodes n [] = None
loose_from plans order nodes n (r ∷ rs) =
    option_map_or (λ k. Some (n, k))
    (position (is_loose nodes) (links_of plans order r))
    (loose_from plans order nodes (n + 1) rs)

abbrev pub first_loose : Layouts → Collected → Option (ℕ × ℕ)
first_loose plans s = loose_from plans s.order s.nodes 0 s.nodes

-- the numbers from n of the records that are such roots
abbrev pub roots_from : Root → ℕ → List Bodied → List ℕ
roots_from root n [] = []
roots_from root n (r ∷ rs) = (if same_root r.node.root root then n ∷ [] else []) ++ roots_from root (n + 1) rs

-- The graph of a frame. Its roots are the head, and then the static data in file order.
abbrev pub graph_of : Layouts → Collected → Rooted
graph_of plans s = record {
  links = map (targets_of plans s.order s.nodes) s.nodes;
  roots = roots_from Head 0 s.nodes ++ roots_from Stat 0 s.nodes;
}
