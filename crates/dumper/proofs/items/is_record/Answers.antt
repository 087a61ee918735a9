-- The node is of this class, so its body reads.
use Rattle.std.proofs.Common.{◌≡◌, List, ℕ, sym, subst}
use Rattle.std.specs.Prelude.{IfSome, slice_get}
use Rattle.std.proofs.lemmas.Bool.{eqb-true}
use Rattle.scalar_types.specs.declared.Order.{Order}
use Rattle.layout_plan.specs.Body.{HasBody}
use Rattle.link_graph.specs.Collected.{Bodied, Collected}
use Rattle.file_grammar.specs.Record.{layout_in}
use Rattle.dumper.proofs.LentBodies.{lent-reads}
use Rattle.dumper.proofs.items.is_record.Goals as goal

pub returns-then-node-len : goal.returns-then-node-len
returns-then-node-len c = λ same.
    let r = c.args.reader.now in
    let s = c.segment-segment.result.now in
    let held = r.before.dictionary in
    let last = c.requires.last in
    let lent : IfSome (slice_get s.nodes c.args.node) (λ (b : Bodied). b.body ≡ c.body-body.result.now) =
    subst (λ (segment : Collected). IfSome (slice_get segment.nodes c.args.node) (λ (b : Bodied). b.body ≡ c.body-body.result.now))
    (sym c.segment-segment.ensures.segment)
    (c.body-body.ensures.node last.0 c.args.class last.1 c.args.node last.2) in
    subst (λ (body : List ℕ). IfSome (layout_in held c.args.class) (λ fields. HasBody r.order fields body))
    c.body-body.ensures.body
    (subst (λ (order : Order). IfSome (layout_in held c.args.class) (λ fields. HasBody order fields c.body-body.result.now))
    c.segment-segment.ensures.order
    (lent-reads c.plans-plans.result.now s.order held s.nodes c.args.node c.args.class c.node.result.now
    c.body-body.result.now (c.plans-plans.ensures c.requires.error)
    (c.segment-segment.ensures.bodies c.requires.error c.plans-plans.result.now (c.plans-plans.ensures c.requires.error))
    c.node.ensures (eqb-true c.node.result.now.class c.args.class same) lent))
