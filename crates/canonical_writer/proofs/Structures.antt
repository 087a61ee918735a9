-- Structures put at the end: room for the first 14 bytes, a body, and then the 14 bytes in their room.
use Rattle.std.proofs.Common.{◌≡◌, ℕ, ◌+◌, List, ◌++◌, length, take, drop, map, Option, Some, None, IfSome, refl, sym}
use Rattle.std.proofs.Common.{ap, ◌∙◌, subst, arith, append_assoc}
use Rattle.std.specs.Option.{option_map}
use Rattle.std.proofs.lemmas.List.{take_at, drop_at, length-append}
use Rattle.scalar_types.specs.declared.Order.{Order}
use Rattle.type_text.specs.declared.types.Link.{Link}
use Rattle.layout_plan.specs.declared.fields.Field.{Field}
use Rattle.layout_plan.specs.Appends.{Appends}
use Rattle.layout_plan.specs.Written.{IsRewritten}
use Rattle.link_graph.specs.declared.nodes.Node.{Node}
use Rattle.link_graph.specs.Collected.{Bodied}
use Rattle.link_graph.specs.Graph.{links_by}
use Rattle.link_graph.proofs.Found.{Some-same}
use Rattle.canonical_file.specs.Bytes.{structure_bytes}
use Rattle.canonical_writer.specs.Parts.{IsRecordOf}

-- the structure stands behind the old bytes
pub structure-placed : (class instance start : ℕ) (old head body mid whole new : List ℕ) → start ≡ length old
    → length head ≡ 14 → mid ≡ old ++ head → whole ≡ mid ++ body
    → new ≡ take start whole ++ structure_bytes class instance (drop (start + 14) whole)
    → new ≡ old ++ structure_bytes class instance body
structure-placed class instance start old head body mid whole new begins room first second is =
    let parts : whole ≡ old ++ (head ++ body) =
    second ∙ ap (λ front. front ++ body) first ∙ append_assoc old head body in
    let front : take start whole ≡ old =
    ap (take start) parts ∙ take_at old (head ++ body) start (sym begins) in
    let size : length mid ≡ start + 14 = omega (arith, ap length first ∙ length-append old head) in
    let back : drop (start + 14) whole ≡ body =
    ap (drop (start + 14)) second ∙ drop_at mid body (start + 14) size in
    is ∙ (λ i. front i ++ structure_bytes class instance (back i))

-- a record, where its body is written again with the links that are given
pub record-placed : (order : Order) (fields : List Field) (held given : List Link) (class instance start : ℕ)
    (body old mid whole new : List ℕ) → given ≡ held → start ≡ length old
    → Appends (λ head. length head ≡ 14) old mid → Appends (IsRewritten order fields body given) mid whole
    → new ≡ take start whole ++ structure_bytes class instance (drop (start + 14) whole)
    → Appends (λ bytes. (links : Link → Link) → held ≡ map links (links_by order fields body)
    → IsRecordOf order fields links class instance body bytes) old new
record-placed order fields held given class instance start body old mid whole new same begins first second is =
    record {
      items = structure_bytes class instance second.items;
      whole = structure-placed class instance start old first.items second.items mid whole new begins first.related
          first.whole second.whole is;
      related = λ links are. record {
        again = second.items;
        is = refl;
        rewritten = subst (λ ls. IsRewritten order fields body ls second.items) (same ∙ are) second.related;
      };
    }

-- the record of a number, by its class and its body
pub record-found : (o : Option Bodied) (node : Node) (order other : Order) (fields : List Field) (links : Link → Link)
    (instance number : ℕ) (body bytes : List ℕ) → option_map (λ (r : Bodied). r.node) o ≡ Some node
    → option_map (λ (r : Bodied). r.body) o ≡ Some body → other ≡ order → number ≡ instance
    → IsRecordOf other fields links node.class number body bytes
    → IfSome o (λ r. IsRecordOf order fields links r.node.class instance r.body bytes)
record-found None node order other fields links instance number body bytes named held same numbered is = tt
record-found (Some r) node order other fields links instance number body bytes named held same numbered is =
    let nodes = Some-same r.node node named in
    let bodies = Some-same r.body body held in
    subst (λ (n : Node). IsRecordOf order fields links n.class instance r.body bytes) (sym nodes)
    (subst (λ b. IsRecordOf order fields links node.class instance b bytes) (sym bodies)
    (subst (λ order. IsRecordOf order fields links node.class instance body bytes) same
    (subst (λ n. IsRecordOf other fields links node.class n body bytes) numbered is)))
