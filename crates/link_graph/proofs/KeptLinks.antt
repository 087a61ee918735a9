-- One link of a record kept: its links cleared, and then that one set.
use Rattle.std.proofs.Common.{◌≡◌, ℕ, zero, suc, ◌<◌, List, [], ◌∷◌, length, Some, IfSome, refl, sym, ap, subst, ◌∙◌}
use Rattle.std.proofs.Common.{arith}
use Rattle.std.specs.Prelude.{slice_get, slice_set}
use Rattle.std.proofs.lemmas.List.{length-map, length-set}
use Rattle.std.proofs.lemmas.Option.{slice_get_within, same_Some}
use Rattle.scalar_types.specs.declared.Order.{Order}
use Rattle.type_text.specs.declared.types.Link.{Link}
use Rattle.record_values.specs.Links.{links_in, with_links}
use Rattle.layout_plan.specs.declared.fields.Field.{Field}
use Rattle.layout_plan.specs.Body.{IsBody, HasBody}
use Rattle.layout_plan.specs.Plans.{plan_of}
use Rattle.layout_plan.specs.Unlinked.{nulls, null_link}
use Rattle.layout_plan.proofs.UnlinkedLemmas.{unlinked-links, unlinked-before, unlinked-again}
use Rattle.link_graph.specs.declared.nodes.Node.{Node}
use Rattle.link_graph.specs.Collected.{Bodied, Collected}
use Rattle.link_graph.specs.Graph.{Layouts}
use Rattle.link_graph.specs.Relinked.{IsRelinked, SetsLink}
use Rattle.link_graph.specs.Unlinked.{IsCleared, ClearsLinks, HasPlainLinkBy, IsNumberOf, IsLeftWith, KeepsLink}

-- the layout of the class of a cleared record
same-plan : (plans : Layouts) (order : Order) (old new : Bodied) (fields : List Field) → IsCleared plans order old new
    → plan_of plans old.node.class ≡ Some fields → plan_of plans new.node.class ≡ Some fields
same-plan plans order old new fields cleared plan =
    ap (λ (n : Node). plan_of plans n.class) cleared.node ∙ plan

cleared-plain : (plans : Layouts) (order : Order) (field : ℕ) (old new : Bodied) → IsCleared plans order old new
    → HasPlainLinkBy plans order field old → HasPlainLinkBy plans order field new
cleared-plain plans order field old new cleared has = record {
  fields = has.fields;
  plan = same-plan plans order old new has.fields cleared has.plan;
  reads = reads has.reads;
  link = has.link;
}
  where
    reads : HasBody order has.fields old.body → HasBody order has.fields new.body
    reads (values, tail, is) =
        (with_links values (nulls (links_in values)), tail, (cleared.body has.fields has.plan).reads values tail is)

cleared-number : (plans : Layouts) (order : Order) (field k : ℕ) (old new : Bodied) → IsCleared plans order old new
    → IsNumberOf plans order field k old → IsNumberOf plans order field k new
cleared-number plans order field k old new cleared has = record {
  fields = has.fields;
  plan = same-plan plans order old new has.fields cleared has.plan;
  number = record {
    values = with_links has.number.values (nulls (links_in has.number.values));
    tail = has.number.tail;
    reads = (cleared.body has.fields has.plan).reads has.number.values has.number.tail has.number.reads;
    count = has.number.count ∙ sym (unlinked-before has.number.values field);
  };
}

left-with : (plans : Layouts) (order : Order) (k : ℕ) (to : Link) (old mid new : Bodied) → IsCleared plans order old mid
    → IsRelinked plans order k to mid new → IsLeftWith plans order k to old new
left-with plans order k to old mid new cleared relinked = record {
  node = relinked.node ∙ cleared.node;
  reads = λ fields values tail plan is.
      let first = (cleared.body fields plan).reads values tail is in
      let second = relinked.reads fields (with_links values (nulls (links_in values))) tail
      (same-plan plans order old mid fields cleared plan) first in
      let links : links_in (with_links values (nulls (links_in values))) ≡ nulls (links_in values) =
      unlinked-links values in
      let size : length (slice_set (nulls (links_in values)) k to) ≡ length (links_in values) =
      length-set (nulls (links_in values)) k to ∙ length-map (links_in values) (λ link. null_link) in
      subst (λ vs. IsBody order fields vs tail new.body)
      (ap (λ ls. with_links (with_links values (nulls (links_in values))) (slice_set ls k to)) links
      ∙ unlinked-again values (slice_set (nulls (links_in values)) k to) size) second;
}

-- ---- in the segment

-- the record put in the place of another
set-there : (nodes : List Bodied) (n : ℕ) (r : Bodied) → n < length nodes → slice_get (slice_set nodes n r) n ≡ Some r
set-there [] n r lt = absurd (omega (arith, lt))
set-there (x ∷ xs) zero r lt = refl
set-there (x ∷ xs) (suc n) r lt = set-there xs n r (omega (arith, lt))

set-again : (nodes : List Bodied) (n : ℕ) (r other : Bodied) →
    slice_set (slice_set nodes n r) n other ≡ slice_set nodes n other
set-again [] n r other = refl
set-again (x ∷ xs) zero r other = refl
set-again (x ∷ xs) (suc n) r other = ap (λ rs. x ∷ rs) (set-again xs n r other)

module _ (plans : Layouts) (n : ℕ) (old mid : Collected) (clears : ClearsLinks plans n old mid) where
  -- where the cleared record stands
  after-there : slice_get mid.nodes n ≡ Some clears.after
  after-there = ap (λ (s : Collected). slice_get s.nodes n) clears.whole
      ∙ set-there old.nodes n clears.after (slice_get_within old.nodes n clears.before clears.found)

  same-order : mid.order ≡ old.order
  same-order = ap (λ (s : Collected). s.order) clears.whole

  pub mid-within : n < length mid.nodes
  mid-within = slice_get_within mid.nodes n clears.after after-there

  pub mid-plain : (field : ℕ) → IfSome (slice_get old.nodes n) (HasPlainLinkBy plans old.order field) →
      IfSome (slice_get mid.nodes n) (HasPlainLinkBy plans mid.order field)
  mid-plain field has =
      let here = subst (λ o. IfSome o (HasPlainLinkBy plans old.order field)) clears.found has in
      subst (λ o. IfSome o (HasPlainLinkBy plans mid.order field)) (sym after-there)
      (subst (λ order. HasPlainLinkBy plans order field clears.after) (sym same-order)
      (cleared-plain plans old.order field clears.before clears.after clears.cleared here))

  mid-number : (field k : ℕ) → IfSome (slice_get old.nodes n) (IsNumberOf plans old.order field k) →
      IfSome (slice_get mid.nodes n) (IsNumberOf plans mid.order field k)
  mid-number field k has =
      let here = subst (λ o. IfSome o (IsNumberOf plans old.order field k)) clears.found has in
      subst (λ o. IfSome o (IsNumberOf plans mid.order field k)) (sym after-there)
      (subst (λ order. IsNumberOf plans order field k clears.after) (sym same-order)
      (cleared-number plans old.order field k clears.before clears.after clears.cleared here))

  -- one link is kept
  pub link-kept : (field : ℕ) (to : Link) (new : Collected) → ((k : ℕ) →
      IfSome (slice_get mid.nodes n) (IsNumberOf plans mid.order field k) → SetsLink plans n k to mid new) → (k : ℕ) →
      IfSome (slice_get old.nodes n) (IsNumberOf plans old.order field k) → KeepsLink plans n k to old new
  link-kept field to new sets k has =
      let set = sets k (mid-number field k has) in
      let same : clears.after ≡ set.before =
      same_Some clears.after set.before (sym after-there ∙ set.found) in
      let relinked : IsRelinked plans old.order k to clears.after set.after =
      subst (λ r. IsRelinked plans old.order k to r set.after) (sym same)
      (subst (λ order. IsRelinked plans order k to set.before set.after) same-order set.relinked) in
      record {
        before = clears.before;
        after = set.after;
        found = clears.found;
        kept = left-with plans old.order k to clears.before clears.after set.after clears.cleared relinked;
        whole = set.whole ∙ ap (λ (s : Collected). record s { nodes = slice_set s.nodes n set.after }) clears.whole
            ∙ ap (λ nodes. record old { nodes = nodes }) (set-again old.nodes n clears.after set.after);
      }
