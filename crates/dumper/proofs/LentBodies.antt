-- The body of a record that is lent reads by the layout of its class.
use Rattle.std.proofs.Common.{◌≡◌, ℕ, List, Option, Some, None, refl, sym, ap, ◌∙◌, subst}
use Rattle.std.specs.Prelude.{All, IfSome, option_map, slice_get}
use Rattle.std.proofs.lemmas.List.Elements.{All-get_or}
use Rattle.std.proofs.lemmas.Option.{slice_get_within, get_or_from_slice_get}
use Rattle.scalar_types.specs.declared.Order.{Order}
use Rattle.dictionary.specs.declared.entries.Entry.{Entry}
use Rattle.layout_plan.specs.declared.fields.Field.{Field}
use Rattle.layout_plan.specs.Body.{HasBody}
use Rattle.layout_plan.specs.Plans.{plan_of}
use Rattle.link_graph.specs.declared.nodes.Node.{Node}
use Rattle.link_graph.specs.Collected.{Bodied}
use Rattle.link_graph.specs.Graph.{Layouts, ReadsBy}
use Rattle.file_grammar.specs.Record.{layout_in}

-- record n is of this class, and the body is its
pub lent-reads : (plans : Layouts) (order : Order) (held : List Entry) (nodes : List Bodied) (n class : ℕ)
    (node : Node) (body : List ℕ) → ((class : ℕ) → plan_of plans class ≡ layout_in held class)
    → All (ReadsBy plans order) nodes → option_map (λ (r : Bodied). r.node) (slice_get nodes n) ≡ Some node
    → node.class ≡ class → IfSome (slice_get nodes n) (λ (r : Bodied). r.body ≡ body)
    → IfSome (layout_in held class) (λ fields. HasBody order fields body)
lent-reads plans order held nodes n class node body layouts all is same lent = by (slice_get nodes n) refl is lent
  where
    by : (found : Option Bodied) → slice_get nodes n ≡ found → option_map (λ (r : Bodied). r.node) found ≡ Some node
        → IfSome found (λ (r : Bodied). r.body ≡ body) → IfSome (layout_in held class) (λ fields. HasBody order fields body)
    by None here is lent = absurd cc
    by (Some r) here is lent =
        let reads : ReadsBy plans order r =
        subst (ReadsBy plans order) (get_or_from_slice_get nodes n r r here)
        (All-get_or (ReadsBy plans order) nodes n r (slice_get_within nodes n r here) all) in
        let own : r.node ≡ node = cc in
        let class_is : r.node.class ≡ class = ap (λ (x : Node). x.class) own ∙ same in
        let layout : layout_in held class ≡ Some reads.fields =
        sym (layouts class) ∙ ap (plan_of plans) (sym class_is) ∙ reads.plan in
        let P : Option (List Field) → Type 0 = λ found. IfSome found (λ fields. HasBody order fields body) in
        subst P (sym layout) (subst (λ bytes. HasBody order reads.fields bytes) lent reads.reads)
