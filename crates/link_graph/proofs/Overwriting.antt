-- Bytes written over others in the body of one record, and its links after that.
use Rattle.std.proofs.Common.{◌≡◌, ℕ, ◌+◌, ◌<◌, ◌≤◌, inl, List, ◌++◌, length, map, take, drop, get_or, Option, Some}
use Rattle.std.proofs.Common.{None, IfSome}
use Rattle.std.proofs.Common.{refl, sym, ap, subst, ◌∙◌, arith}
use Rattle.std.specs.Prelude.{slice_get, slice_set}
use Rattle.std.specs.Option.{option_map}
use Rattle.std.proofs.lemmas.Option.{get_or_from_slice_get, slice_get_within, same_Some}
use Rattle.std.proofs.lemmas.List.{append_assoc}
use Rattle.scalar_types.specs.declared.Order.{Order}
use Rattle.type_text.specs.declared.types.Link.{Link}
use Rattle.record_values.specs.Spelling.{IsLink}
use Rattle.layout_plan.specs.declared.fields.Field.{Field}
use Rattle.layout_plan.specs.Body.{IsBody}
use Rattle.layout_plan.specs.Links.{IsReplaceable}
use Rattle.layout_plan.specs.Plans.{plan_of}
use Rattle.layout_plan.specs.Unlinked.{IsLinkNumber}
use Rattle.frame_region.specs.declared.span.Span.{Span}
use Rattle.frame_region.specs.Region.{Held, bytes_of, overwrite_at}
use Rattle.link_graph.specs.declared.nodes.Kept.{Kept}
use Rattle.link_graph.specs.declared.nodes.Node.{Node}
use Rattle.link_graph.specs.Collected.{Bodied, Collected}
use Rattle.link_graph.specs.Graph.{Layouts}
use Rattle.link_graph.specs.Kept.{bodied, AreKept, segment_view}
use Rattle.link_graph.specs.Relinked.{IsLinkOf, SetsLink}
use Rattle.link_graph.specs.Unlinked.{Overwrites, IsNumberOf}
use Rattle.link_graph.proofs.Bodies.{follow-before, node-at}
use Rattle.link_graph.proofs.Writing.{Writes, after-part, written-bodied, written-end}

-- the whole of what is written
pub body-written : (order : Order) (n : ℕ) (old new : Held) (records : List Kept) (end_kept : Option Kept)
    (pending : Span) (kept : Kept) (at : ℕ) (piece : List ℕ) (s : Collected) →
    AreKept old records end_kept pending → segment_view order old records end_kept pending ≡ s →
    slice_get records n ≡ Some kept → Writes old new kept.span at piece →
    Overwrites n at piece s (segment_view order new records end_kept pending)
body-written order n old new records end_kept pending kept at piece s are is found writes =
    let within : n < length records = slice_get_within records n kept found in
    let named : get_or records n kept ≡ kept = get_or_from_slice_get records n kept kept found in
    let there : Writes old new (get_or records n kept).span at piece =
    subst (λ (kept : Kept). Writes old new kept.span at piece) (sym named) writes in
    let ended : option_map (bodied new) end_kept ≡ option_map (bodied old) end_kept =
    written-end old new at piece pending.at records n kept end_kept within there are.end_beside in
    let left : bytes_of new pending ≡ bytes_of old pending =
    after-part old new kept.span at piece pending writes are.pending_live
    (inl (subst (λ (kept : Kept). kept.span.at + kept.span.length ≤ pending.at) named
    (follow-before 0 records pending.at are.apart n kept within))) in
    let body : bodied new kept ≡ record (bodied old kept) { body = overwrite_at at piece (bytes_of old kept.span) } =
    λ i. record { node = kept.node; body = writes.gives.bytes_are i } in
    let nodes : map (bodied new) records
    ≡ slice_set (map (bodied old) records) n
    (record (bodied old kept) { body = overwrite_at at piece (bytes_of old kept.span) }) =
    written-bodied old new at piece 0 pending.at records n kept within there are.apart are.live
    ∙ ap (λ (kept : Kept). slice_set (map (bodied old) records) n (bodied new kept)) named
    ∙ ap (slice_set (map (bodied old) records) n) body in
    let size_is : length new.bytes ≡ length old.bytes = writes.size in
    let spare_is : new.spare ≡ old.spare = writes.spare in
    let made : segment_view order new records end_kept pending ≡ record
    (segment_view order old records end_kept pending) {
      nodes =
          slice_set (map (bodied old) records) n
          (record (bodied old kept) { body = overwrite_at at piece (bytes_of old kept.span) });
    } =
    λ i. record {
      order = order;
      nodes = nodes i;
      end_record = ended i;
      pending = left i;
      given =
          size_is i;
      spare = spare_is i;
    } in
    record {
      before = bodied old kept;
      found = node-at old records s.nodes n kept (ap (λ (s : Collected). s.nodes) is) found;
      whole = made
          ∙ ap (λ (s : Collected). record s {
            nodes = slice_set s.nodes n
                (record (bodied old kept) { body = overwrite_at at piece (bytes_of old kept.span) });
          }) is;
    }

-- the six bytes of a link lie in the body
pub link-fits : (plans : Layouts) (order : Order) (k at : ℕ) (six : List ℕ) (o : Option Bodied) →
    IfSome o (IsLinkOf plans order k at) → length six ≡ 6 →
    IfSome o (λ (r : Bodied). at + length six ≤ length r.body)
link-fits plans order k at six None place size = tt
link-fits plans order k at six (Some r) place size = omega (arith, place.within, size)

-- six bytes of a link written where its link stands
pub link-written : (plans : Layouts) (n k at : ℕ) (to : Link) (six : List ℕ) (old new : Collected) →
    Overwrites n at six old new → IfSome (slice_get old.nodes n) (IsLinkOf plans old.order k at) →
    IsLink old.order to six → length six ≡ 6 → SetsLink plans n k to old new
link-written plans n k at to six old new writes place spelled size = record {
  before = r;
  after = record r { body = overwrite_at at six r.body };
  found = writes.found;
  relinked = record {
    node = refl;
    at = at;
    six = six;
    spelled = spelled;
    within = here.within;
    body = refl;
    reads = λ fields values tail plan reads. subst (IsBody old.order fields _ tail) (sym same)
        (here.replaced fields plan values tail reads to six spelled);
  };
  whole = writes.whole;
}
  where
    r : Bodied
    r = writes.before

    here : IsLinkOf plans old.order k at r
    here = subst (λ o. IfSome o (IsLinkOf plans old.order k at)) writes.found place

    same : overwrite_at at six r.body ≡ take at r.body ++ six ++ drop (at + 6) r.body
    same = ap (λ n. take at r.body ++ (six ++ drop (at + n) r.body)) size
        ∙ sym (append_assoc (take at r.body) six (drop (at + 6) r.body))

-- ---- the place of a plain link

pub plain-place : (plans : Layouts) (order : Order) (nodes : List Bodied) (n field at : ℕ) (node : Node)
    (body : List ℕ) (fields : List Field) → option_map (λ (r : Bodied). r.node) (slice_get nodes n) ≡ Some node →
    option_map (λ (r : Bodied). r.body) (slice_get nodes n) ≡ Some body → plan_of plans node.class ≡ Some fields →
    at + 6 ≤ length body → ((k : ℕ) → IsLinkNumber order fields body field k →
    IsReplaceable order fields body k at) → (k : ℕ) →
    IfSome (slice_get nodes n) (IsNumberOf plans order field k) → IfSome (slice_get nodes n) (IsLinkOf plans order k at)
plain-place plans order nodes n field at node body fields is_node is_body plan within replaced k =
    by (slice_get nodes n) is_node is_body
  where
    by : (o : Option Bodied) → option_map (λ (r : Bodied). r.node) o ≡ Some node →
        option_map (λ (r : Bodied). r.body) o ≡ Some body → IfSome o (IsNumberOf plans order field k) →
        IfSome o (IsLinkOf plans order k at)
    by None is_node is_body number = tt
    by (Some r) is_node is_body number =
        let same_node : r.node ≡ node = same_Some r.node node is_node in
        let same : r.body ≡ body = same_Some r.body body is_body in
        let here : plan_of plans r.node.class ≡ Some fields =
        ap (λ (n : Node). plan_of plans n.class) same_node ∙ plan in
        let told : IsLinkNumber order fields r.body field k =
        subst (λ fields. IsLinkNumber order fields r.body field k)
        (same_Some number.fields fields (sym number.plan ∙ here)) number.number in
        let place : IsReplaceable order fields r.body k at =
        subst (λ body. IsReplaceable order fields body k at) (sym same)
        (replaced k (subst (λ body. IsLinkNumber order fields body field k) same told)) in
        record {
          within = omega (arith, within, ap length same);
          replaced = λ others is. subst (λ fields. IsReplaceable order fields r.body k at)
              (same_Some fields others (sym here ∙ is)) place;
        }
