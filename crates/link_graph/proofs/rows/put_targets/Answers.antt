-- One row more, or its first loose link.
use Rattle.std.proofs.Common.{◌≡◌, ℕ, suc, ◌+◌, ◌<◌, ◌≤◌, ◌++◌, List, length, take, drop, map, position, Option}
use Rattle.std.proofs.Common.{Some, None, get_or, ap, sym, refl, ◌∙◌, arith}
use Rattle.std.specs.Prelude.{slice_range}
use Rattle.std.specs.Option.{option_map_or}
use Rattle.std.proofs.lemmas.List.{map-append, take_all, drop_all}
use Rattle.type_text.specs.declared.types.Link.{Link}
use Rattle.link_graph.specs.Collected.{Bodied, target_of}
use Rattle.link_graph.specs.Graph.{is_loose}
use Rattle.link_graph.specs.Table.{rows_from, start_of, loose_row}
use Rattle.link_graph.proofs.Tables.{length-rows, row-within, start-none, start-after, start-last, take-row}
use Rattle.link_graph.proofs.Tables.{loose-step}
use Rattle.link_graph.proofs.rows.put_targets.Goals as goal

pub loop-k-init : goal.loop-k-init
loop-k-init c = record { from = start-none c.args.ends.now; put = c.clear.ensures.items; loose = refl }

pub offset_bounds-links-from : goal.offset_bounds-links-from
offset_bounds-links-from c =
    let lt : c.loop-k.k < length c.args.ends.now =
    omega (arith, c.loop-k-test.true, c.len-k-end.ensures, c.requires.count) in
    let within = row-within 0 c.args.ends.now (length c.args.links.now) c.loop-k.k 0 c.requires.placed lt in
    let le : c.loop-k.from ≤ length c.args.links.now =
    omega (arith, within.0, within.1, c.loop-k.invariant.from) in
    search (arith, le)

pub slice_bounds-put_row-count : goal.slice_bounds-put_row-count
slice_bounds-put_row-count c =
    let lt : c.loop-k.k < length c.args.ends.now =
    omega (arith, c.loop-k-test.true, c.len-k-end.ensures, c.requires.count) in
    let within = row-within 0 c.args.ends.now (length c.args.links.now) c.loop-k.k 0 c.requires.placed lt in
    omega (arith, within.0, within.1, c.loop-k.invariant.from)

pub slice_bounds-put_row-start : goal.slice_bounds-put_row-start
slice_bounds-put_row-start c =
    let lt : c.loop-k.k < length c.args.ends.now =
    omega (arith, c.loop-k-test.true, c.len-k-end.ensures, c.requires.count) in
    let within = row-within 0 c.args.ends.now (length c.args.links.now) c.loop-k.k 0 c.requires.placed lt in
    omega (arith, within.0, within.1, c.loop-k.invariant.from)

pub slice_bounds-put_row-end : goal.slice_bounds-put_row-end
slice_bounds-put_row-end c =
    let lt : c.loop-k.k < length c.args.ends.now =
    omega (arith, c.loop-k-test.true, c.len-k-end.ensures, c.requires.count) in
    let within = row-within 0 c.args.ends.now (length c.args.links.now) c.loop-k.k 0 c.requires.placed lt in
    omega (arith, within.0, within.1, c.loop-k.invariant.from)

pub returns-in-Some-clause-loose : goal.returns-in-Some-clause-loose
returns-in-Some-clause-loose c = λ node link same.
    let nodes = c.args.segment.now.nodes in
    let links = c.args.links.now in
    let ends = c.args.ends.now in
    let k : ℕ = c.loop-k.k in
    let lt : k < length ends = omega (arith, c.loop-k-test.true, c.len-k-end.ensures, c.requires.count) in
    let found : position (is_loose nodes) (slice_range links (start_of 0 ends k) (get_or ends k 0))
    ≡ Some c.in-Some.link =
    ap (λ (from : ℕ). position (is_loose nodes) (slice_range links from (get_or ends k 0)))
    (sym c.loop-k.invariant.from)
    ∙ sym c.in_ok-link.ensures.loose ∙ c.in-Some.is in
    let node_is : k ≡ node = cc in
    let link_is : c.in-Some.link ≡ link = cc in
    sym c.loop-k.invariant.loose
    ∙ loose-step nodes links ends k 0 lt
    ∙ ap (λ found. option_map_or (λ j. Some (k, j)) found
    (loose_row nodes (k + 1) (drop (k + 1) (rows_from 0 ends links)))) found
    ∙ (λ i. Some (node_is i, link_is i))

pub loop-k-preserved : goal.loop-k-preserved
loop-k-preserved c =
    let nodes = c.args.segment.now.nodes in
    let links = c.args.links.now in
    let ends = c.args.ends.now in
    let k : ℕ = c.loop-k.k in
    let from : ℕ = c.loop-k.from in
    let to : ℕ = get_or ends k 0 in
    let lt : k < length ends = omega (arith, c.loop-k-test.true, c.len-k-end.ensures, c.requires.count) in
    let within = row-within 0 ends (length links) k 0 c.requires.placed lt in
    let le : from ≤ to = omega (arith, within.0, c.loop-k.invariant.from) in
    let next : suc k ≡ k + 1 = omega arith in
    let found : position (is_loose nodes) (slice_range links (start_of 0 ends k) to) ≡ None =
    ap (λ (from : ℕ). position (is_loose nodes) (slice_range links from to)) (sym c.loop-k.invariant.from)
    ∙ sym c.in_ok-link.ensures.loose ∙ c.in_default.is in
    record {
      from = sym (start-after 0 ends k 0 lt) ∙ ap (start_of 0 ends) next;
      put = c.in_ok-link.ensures.put c.in_default.is
          ∙ ap (λ xs. xs ++ map (target_of nodes) (slice_range links from to)) c.loop-k.invariant.put
          ∙ sym (map-append (target_of nodes) (take from links) (slice_range links from to))
          ∙ ap (map (target_of nodes)) (take-row links from to le);
      loose = ap (λ found. option_map_or (λ j. Some (k, j)) found
          (loose_row nodes (k + 1) (drop (k + 1) (rows_from 0 ends links)))) (sym found)
          ∙ sym (loose-step nodes links ends k 0 lt) ∙ c.loop-k.invariant.loose;
    }

pub returns-clause-linked : goal.returns-clause-linked
returns-clause-linked c =
    let nodes = c.args.segment.now.nodes in
    let rows : List (List Link) = rows_from 0 c.args.ends.now c.args.links.now in
    let all : length rows ≤ c.loop-k.k =
    omega (
      arith,
      length-rows 0 c.args.ends.now c.args.links.now,
      c.loop-k-test.false,
      c.len-k-end.ensures,
      c.requires.count,
    ) in
    sym c.loop-k.invariant.loose ∙ ap (loose_row nodes c.loop-k.k) (drop_all c.loop-k.k rows all)

pub returns-clause-put : goal.returns-clause-put
returns-clause-put c =
    let links = c.args.links.now in
    let ends = c.args.ends.now in
    let all : length ends ≤ c.loop-k.k =
    omega (arith, c.loop-k-test.false, c.len-k-end.ensures, c.requires.count) in
    let last : start_of 0 ends c.loop-k.k ≡ length links =
    start-last 0 ends (length links) c.loop-k.k c.requires.placed all in
    c.loop-k.invariant.put
    ∙ ap (map (target_of c.args.segment.now.nodes))
    (take_all c.loop-k.from links (omega (arith, last, c.loop-k.invariant.from)))
