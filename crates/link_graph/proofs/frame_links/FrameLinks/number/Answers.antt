-- The table of the targets is the graph of the records.
use Rattle.std.proofs.Common.{◌≡◌, ℕ, ◌<◌, List, [], ◌++◌, map, length, ap, sym, ◌∙◌, subst}
use Rattle.std.specs.Prelude.{All, Option, IsSome, ◌↔◌}
use Rattle.rooted_graph.specs.BreadthOrder.{IsBreadthOrder, number_of}
use Rattle.rooted_graph.specs.Rooted.{IsReached}
use Rattle.type_text.specs.declared.types.Link.{Link}
use Rattle.link_graph.specs.declared.nodes.Root.TheVariants.{Head, Stat}
use Rattle.link_graph.specs.Collected.{target_of}
use Rattle.link_graph.specs.Graph.{roots_from}
use Rattle.link_graph.specs.Table.{rows_from, AreEnds, graph_by}
use Rattle.link_graph.proofs.Tables.{length-rows, table-all, graph-all}
use Rattle.link_graph.proofs.frame_links.FrameLinks.number.Goals as goal

pub put_targets-requires-clause-count : goal.put_targets-requires-clause-count
put_targets-requires-clause-count c =
    ap length c.as_slice-2.ensures.value
    ∙ sym (length-rows 0 c.self.inside.ends.items c.self.inside.links.items)
    ∙ ap (λ (rows : List (List Link)). length rows) c.self.view_is ∙ c.requires

pub invariant_of-graph : goal.invariant_of-graph
invariant_of-graph c =
    let nodes = c.args.segment.now.nodes in
    let links = c.self.inside.links.items in
    let ends = c.as_slice-4.result.now in
    let targets = c.as_slice-3.result.now in
    let roots = c.as_slice-5.result.now in
    let put : targets ≡ map (target_of nodes) links =
    c.as_slice-3.ensures.value ∙ c.in_ok-put_targets.ensures.put
    ∙ ap (map (target_of nodes)) c.as_slice.ensures.value in
    let heads : c.put_roots.new.roots.items ≡ [] ++ roots_from Head 0 nodes =
    c.in_ok-put_roots.ensures ∙ ap (λ (xs : List ℕ). xs ++ roots_from Head 0 nodes) c.clear.ensures.items in
    let all : roots ≡ c.put_roots.new.roots.items ++ roots_from Stat 0 nodes =
    c.as_slice-5.ensures.value ∙ c.in_ok-put_roots-2.ensures in
    let count : length ends ≡ length nodes =
    ap length c.as_slice-4.ensures.value
    ∙ sym (length-rows 0 c.self.inside.ends.items links)
    ∙ ap (λ (rows : List (List Link)). length rows) c.self.view_is ∙ c.requires in
    table-all nodes links targets ends c.put_roots.new.roots.items roots put
    (subst (λ (es : List ℕ). AreEnds 0 es (length links)) (sym c.as_slice-4.ensures.value) c.self.invariant)
    count c.put_targets.ensures.few heads all

graph-is : (c : goal.In_ok-renew) →
    record {
      links = rows_from 0 c.as_slice-4.result.now c.as_slice-3.result.now;
      roots = c.as_slice-5.result.now;
    } ≡ graph_by c.args.segment.now.nodes c.args.self.now
graph-is c =
    let nodes = c.args.segment.now.nodes in
    let links = c.self.inside.links.items in
    let ends = c.as_slice-4.result.now in
    let targets = c.as_slice-3.result.now in
    let roots = c.as_slice-5.result.now in
    let put : targets ≡ map (target_of nodes) links =
    c.as_slice-3.ensures.value ∙ c.in_ok-put_targets.ensures.put
    ∙ ap (map (target_of nodes)) c.as_slice.ensures.value in
    let heads : c.put_roots.new.roots.items ≡ [] ++ roots_from Head 0 nodes =
    c.in_ok-put_roots.ensures ∙ ap (λ (xs : List ℕ). xs ++ roots_from Head 0 nodes) c.clear.ensures.items in
    let all : roots ≡ c.put_roots.new.roots.items ++ roots_from Stat 0 nodes =
    c.as_slice-5.ensures.value ∙ c.in_ok-put_roots-2.ensures in
    graph-all nodes links targets ends c.put_roots.new.roots.items roots put heads all
    ∙ ap (graph_by nodes) (ap (λ (es : List ℕ). rows_from 0 es links) c.as_slice-4.ensures.value
    ∙ c.self.view_is)

pub returns-clause-order : goal.returns-clause-order
returns-clause-order c =
    subst (λ g. IsBreadthOrder g c.renew.new.self) (graph-is c) c.in_ok-renew.ensures.order

pub returns-clause-in_range : goal.returns-clause-in_range
returns-clause-in_range c =
    let ends = c.as_slice-4.result.now in
    let count : length (rows_from 0 ends c.as_slice-3.result.now) ≡ length c.args.segment.now.nodes =
    length-rows 0 ends c.as_slice-3.result.now ∙ ap length c.as_slice-4.ensures.value
    ∙ sym (length-rows 0 c.self.inside.ends.items c.self.inside.links.items)
    ∙ ap (λ (rows : List (List Link)). length rows) c.self.view_is ∙ c.requires in
    subst (λ (n : ℕ). All (λ node. node < n) c.renew.new.self) count c.in_ok-renew.ensures.in_range

pub returns-clause-reached : goal.returns-clause-reached
returns-clause-reached c =
    subst (λ g. (n : ℕ) → IsSome (number_of c.renew.new.self n) ↔ IsReached g n) (graph-is c)
    c.in_ok-renew.ensures.reached
