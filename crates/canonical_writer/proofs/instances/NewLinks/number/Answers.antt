use Rattle.std.proofs.Common.{ℕ, ◌<◌, refl, sym, ap, ◌∙◌, arith, length, get_or, vec_len}
use Rattle.std.proofs.lemmas.Bool.{false≢true}
use Rattle.std.proofs.lemmas.List.{length-map, length-set, length-replicate}
use Rattle.link_graph.specs.Collected.{Bodied}
use Rattle.frame_content.specs.Labels.{null_link}
use Rattle.canonical_writer.specs.NewLinks.{classes_of}
use Rattle.canonical_writer.proofs.BodyLinks.{resized}
use Rattle.canonical_writer.proofs.Numbering.{numbered-none, numbered-more, numbered-all, class-found, count-few}
use Rattle.canonical_writer.proofs.instances.NewLinks.number.Goals as goal

pub loop-node-init : goal.loop-node-init
loop-node-init c =
    let nodes = c.args.segment.now.nodes in
    let are = resized c.len.result _ null_link _ c.resize.new.self.items c.clear.ensures.items c.clear.ensures.len
    c.in_ok-resize.ensures.items in (
      ap length are ∙ length-replicate c.len.result null_link ∙ c.len.ensures,
      refl,
      λ is_order. numbered-none (classes_of nodes) c.resize.new.self.items _ c.len.result
          (c.len.ensures ∙ sym (length-map nodes (λ (r : Bodied). r.node.class))) are refl,
    )

pub loop-node-preserved-in_default : goal.loop-node-preserved-in_default
loop-node-preserved-in_default c =
    let nodes = c.args.segment.now.nodes in
    let links = c.loop-node.self-inside.links in
    let i = c.loop-node.node-index in
    let all = length-map nodes (λ (r : Bodied). r.node.class) in (
      c.loop-node.invariant.0,
      c.loop-node.invariant.1,
      λ is_order. let within : get_or c.args.order.now i 0 < length (classes_of nodes) =
          is_order.within i 0 c.loop-node-test.true in
          absurd (false≢true (c.in_default.ensures.variant.1
          (omega (arith, within, all, links.ok.0, c.loop-node.invariant.0)))),
    )

pub node-requires : goal.node-requires
node-requires c =
    let there : get_or c.args.order.now c.loop-node.node-index 0 < vec_len c.loop-node.self-inside.links =
    c.in-Some.ensures.variant.0 refl in
    omega (arith, there, c.loop-node.self-inside.links.ok.0, c.loop-node.invariant.0)

pub loop-node-preserved : goal.loop-node-preserved
loop-node-preserved c =
    let nodes = c.args.segment.now.nodes in
    let links = c.loop-node.self-inside.links in
    let counts = c.loop-node.counts in
    let i = c.loop-node.node-index in
    let n : ℕ = get_or c.args.order.now i 0 in
    let class = c.node.result.now.class in
    let small : class < 256 = omega arith in
    let all = length-map nodes (λ (r : Bodied). r.node.class) in
    let there : n < length nodes =
    let inside : n < vec_len links = c.in-Some.ensures.variant.0 refl in
    omega (arith, inside, links.ok.0, c.loop-node.invariant.0) in (
      length-set links.items n (record { class = c.from.result; instance = get_or counts class 0 })
          ∙ c.loop-node.invariant.0,
      length-set counts class c.saturating_add.result ∙ c.loop-node.invariant.1,
      λ is_order. let before = c.loop-node.invariant.2 is_order in
          let few = count-few (classes_of nodes) c.args.order.now links.items counts i class is_order
          c.loop-node-test.true small before in
          numbered-more (classes_of nodes) c.args.order.now links.items counts i n c.from.result class
          (get_or counts class 0) c.saturating_add.result (record {
            is_order = is_order;
            within = c.loop-node-test.true;
            node_is = refl;
            wide_is = c.from.ensures;
            class_is = class-found nodes n c.node.result.now there c.node.ensures;
            small = small;
            instance_is = refl;
            more_is = omega (arith, c.saturating_add.ensures, few, all, c.len.ensures, c.len.type_inv);
            all = c.loop-node.invariant.0 ∙ sym all;
            table = c.loop-node.invariant.1;
          }) before,
    )

pub returns : goal.returns
returns c =
    let nodes = c.args.segment.now.nodes in
    λ is_order. numbered-all (classes_of nodes) c.args.order.now c.loop-node.self-inside.links.items c.loop-node.counts
    c.loop-node.node-index (omega (arith, c.loop-node-test.false))
    (c.loop-node.invariant.0 ∙ sym (length-map nodes (λ (r : Bodied). r.node.class))) (c.loop-node.invariant.2 is_order)
