use Rattle.std.proofs.Common.{◌≡◌, true, false, sym, ap, ◌∙◌, arith}
use Rattle.std.specs.Prelude.{◌==◌, slice_get}
use Rattle.std.proofs.lemmas.Bool.{eq-eqb, ne_eqb}
use Rattle.link_graph.specs.declared.nodes.Node.{Node}
use Rattle.link_graph.specs.Collected.{Bodied}
use Rattle.contents_table.proofs.Positions.{position-more, position-here, position-none}
use Rattle.contents_table.proofs.SomeValues.{map-some}
use Rattle.contents_table.proofs.channel_lists.header.Goals as goal

pub returns-then-node-class : goal.returns-then-node-class
returns-then-node-class c =
    let r = map-some (λ (r : Bodied). r.node) (slice_get c.args.segment.now.nodes c.loop-node.node)
    c.node.result.now
    c.node.ensures in
    let passes : (r.0.node.class == c.args.class) ≡ true =
    eq-eqb r.0.node.class c.args.class (ap (λ (n : Node). n.class) r.2 ∙ c.if-node-class.true) in
    position-here (λ (r : Bodied). r.node.class == c.args.class) c.args.segment.now.nodes c.loop-node.node r.0
    r.1 passes
    c.loop-node.invariant

pub loop-node-preserved : goal.loop-node-preserved
loop-node-preserved c =
    let r = map-some (λ (r : Bodied). r.node) (slice_get c.args.segment.now.nodes c.loop-node.node)
    c.node.result.now
    c.node.ensures in
    let other : (r.0.node.class == c.args.class) ≡ false =
    ne_eqb r.0.node.class c.args.class (λ e. c.if-node-class.false (ap (λ (n : Node). n.class) (sym r.2) ∙ e)) in
    sym (position-more (λ (r : Bodied). r.node.class == c.args.class) c.args.segment.now.nodes c.loop-node.node
    r.0 r.1
    other) ∙ c.loop-node.invariant

pub returns : goal.returns
returns c =
    position-none (λ (r : Bodied). r.node.class == c.args.class) c.args.segment.now.nodes c.loop-node.node
    (omega arith) c.loop-node.invariant
