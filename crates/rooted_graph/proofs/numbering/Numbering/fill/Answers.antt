use Rattle.std.proofs.Common.{◌≡◌, ◌<◌, ◌∙◌, subst, length, get_or, rules}
use Rattle.std.specs.Prelude.{All}
use Rattle.std.proofs.lemmas.List.{get_or_read}
use Rattle.rooted_graph.proofs.Queues.{queue_of_roots, queue_more, queue_end}
use Rattle.rooted_graph.proofs.Reached.{numbered_where_reached}
use Rattle.rooted_graph.proofs.Tables.{member_within, members_within}
use Rattle.rooted_graph.proofs.numbering.Numbering.fill.Goals as goal

pub loop-place-init : goal.loop-place-init
loop-place-init g c =
    record {
      queue = queue_of_roots (g.G.LinkedNodes.graph c.args.graph.now) c.renew.new.self.nodes.items
          c.add_roots.new.self.nodes.items c.renew.ensures.empty c.in_ok-add_roots.ensures.nodes;
      size = c.add_roots.ensures.size ∙ c.in_ok-renew.ensures.size ∙ c.node_count.ensures;
    }

pub add_targets-requires-clause-node : goal.add_targets-requires-clause-node
add_targets-requires-clause-node g c =
    let taken : c.loop-place.place < length c.loop-place.queue.nodes.items = search rules in
    let read : c.index-node.result.now ≡ get_or c.loop-place.queue.nodes.items c.loop-place.place 0 =
    get_or_read c.loop-place.queue.nodes.items c.loop-place.place c.index-node.result.now taken
    c.index-node.ensures 0 in
    let within : get_or c.loop-place.queue.nodes.items c.loop-place.place 0 < length c.loop-place.queue.numbers.items =
    member_within c.loop-place.queue.numbers.items c.loop-place.queue.nodes.items
    (record { numbered = c.loop-place.queue.numbered }) c.loop-place.place taken in
    rw (read, ← c.loop-place.invariant.size) within

pub loop-place-preserved : goal.loop-place-preserved
loop-place-preserved g c =
    let taken : c.loop-place.place < length c.loop-place.queue.nodes.items = search rules in
    let read : c.index-node.result.now ≡ get_or c.loop-place.queue.nodes.items c.loop-place.place 0 =
    get_or_read c.loop-place.queue.nodes.items c.loop-place.place c.index-node.result.now taken
    c.index-node.ensures 0 in
    record {
      queue = queue_more (g.G.LinkedNodes.graph c.args.graph.now) c.loop-place.queue.nodes.items c.loop-place.place
          c.index-node.result.now c.add_targets.new.self.nodes.items c.loop-place.invariant.queue taken read
          c.in_ok-add_targets.ensures.nodes;
      size = c.add_targets.ensures.size ∙ c.loop-place.invariant.size;
    }

pub returns-clause-reached : goal.returns-clause-reached
returns-clause-reached g c =
    numbered_where_reached (g.G.LinkedNodes.graph c.args.graph.now) c.loop-place.queue.nodes.items
    (queue_end (g.G.LinkedNodes.graph c.args.graph.now) c.loop-place.queue.nodes.items c.loop-place.place
    c.loop-place.invariant.queue (search rules))

pub returns-clause-in_range : goal.returns-clause-in_range
returns-clause-in_range g c =
    subst (λ count. All (λ node. node < count) c.loop-place.queue.nodes.items) c.loop-place.invariant.size
    (members_within c.loop-place.queue.numbers.items c.loop-place.queue.nodes.items
    (record { numbered = c.loop-place.queue.numbered }))
