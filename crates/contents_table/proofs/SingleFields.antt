-- Fields without dimension.
use Rattle.std.proofs.Common.{◌≡◌, ℕ, ◌<◌, List, length, Some, IfSome, sym, ap, ◌∙◌, subst}
use Rattle.std.specs.Prelude.{slice_get}
use Rattle.std.specs.Option.{option_map}
use Rattle.std.proofs.lemmas.Option.{slice_get_within}
use Rattle.layout_plan.specs.declared.fields.Field.{Field}
use Rattle.layout_plan.specs.declared.fields.Form.{Form}
use Rattle.layout_plan.specs.Lent.{IsSingleField, IsLinkField}
use Rattle.layout_plan.specs.Plans.{plan_of}
use Rattle.link_graph.specs.declared.nodes.Node.{Node}
use Rattle.link_graph.specs.Collected.{Bodied, Collected}
use Rattle.link_graph.specs.Graph.{Layouts}
use Rattle.contents_table.specs.Layouts.{HasPlainLink}
use Rattle.contents_table.proofs.SomeValues.{map-some}

-- it is one of the fields
pub single-within : (fields : List Field) (k : ℕ) (form : Form) → IsSingleField fields k form → k < length fields
single-within fields k form single = slice_get_within fields k single.field single.is

-- the plain link of a record is one by the plan of its class
pub plain-link-field : (plans : Layouts) (s : Collected) (n k : ℕ) (fields : List Field) (node : Node)
    → HasPlainLink plans s n k → option_map (λ (r : Bodied). r.node) (slice_get s.nodes n) ≡ Some node
    → Some fields ≡ plan_of plans node.class → IsLinkField fields k
plain-link-field plans s n k fields node has is_node plan =
    let r = map-some (λ (r : Bodied). r.node) (slice_get s.nodes n) node is_node in
    subst (λ o. IfSome o (λ fields. IsLinkField fields k))
    (ap (λ (n : Node). plan_of plans n.class) r.2 ∙ sym plan)
    (subst (λ o. IfSome o (λ (r : Bodied). IfSome (plan_of plans r.node.class) (λ fields. IsLinkField fields k)))
    r.1 has)
