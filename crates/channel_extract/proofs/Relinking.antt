-- A segment in which the links of one record are changed: its records stay, and links lead where they led.
use Rattle.std.proofs.Common.{◌≡◌, ℕ, zero, suc, ◌+◌, List, [], ◌∷◌, ◌++◌, length, map, take}
use Rattle.std.proofs.Common.{Option, Some, None, IfSome, All, cond, refl, sym, ap, ◌∙◌, subst}
use Rattle.std.specs.Prelude.{slice_set, slice_get, Result, Ok, Err, OnOk}
use Rattle.std.specs.List.{AllByRecursion}
use Rattle.std.proofs.lemmas.List.Elements.{All-from_recursion, recursion_from_All, All-get_or}
use Rattle.std.proofs.lemmas.List.{length-map, length-set}
use Rattle.std.proofs.lemmas.Option.{same_Some, slice_get_within, get_or_from_slice_get}
use Rattle.scalar_types.specs.declared.Order.{Order}
use Rattle.type_text.specs.declared.types.Link.{Link}
use Rattle.record_values.specs.declared.values.Value.{Value}
use Rattle.record_values.specs.Links.{links_in, with_links}
use Rattle.layout_plan.specs.declared.fields.Field.{Field}
use Rattle.layout_plan.specs.Body.{IsBody, HasBody}
use Rattle.layout_plan.specs.Plans.{plan_of}
use Rattle.layout_plan.specs.Unlinked.{nulls, null_link}
use Rattle.link_graph.specs.declared.nodes.Root.{Root}
use Rattle.link_graph.specs.declared.nodes.Node.{Node}
use Rattle.link_graph.specs.Collected.{Bodied, Collected, target_of, same_root, link_to, without_stat}
use Rattle.link_graph.specs.Graph.{Layouts, ReadsBy, roots_from}
use Rattle.link_graph.specs.Relinked.{SetsLink}
use Rattle.link_graph.specs.Unlinked.{HasPlainLinkBy, IsNumberOf, KeepsLink}
use Rattle.channel_extract.proofs.KeptRecords.{without-links, target-kept}
use Rattle.channel_extract.specs.Cutting.{own_link, KeepsRecords, node_of, HaveSameNodes}

-- a record put in the place of one with the same node leaves all nodes as they are
pub nodes-set : (nodes : List Bodied) (n : ℕ) (before after : Bodied) → slice_get nodes n ≡ Some before
    → after.node ≡ before.node → map node_of (slice_set nodes n after) ≡ map node_of nodes
nodes-set [] n before after found same = refl
nodes-set (r ∷ rs) zero before after found same =
    ap (λ node. node ∷ map node_of rs) (same ∙ ap node_of (sym (same_Some r before found)))
nodes-set (r ∷ rs) (suc n) before after found same =
    ap (λ nodes. r.node ∷ nodes) (nodes-set rs n before after found same)

-- where links lead is told by the nodes alone
links-same : (old new : List Bodied) → map node_of new ≡ map node_of old → map own_link new ≡ map own_link old
links-same old new same = sym (of-nodes new) ∙ ap (map link_to) same ∙ of-nodes old
  where
    of-nodes : (nodes : List Bodied) → map link_to (map node_of nodes) ≡ map own_link nodes
    of-nodes [] = refl
    of-nodes (r ∷ rs) = ap (λ links. own_link r ∷ links) (of-nodes rs)

pub targets-same : (old new : List Bodied) (link : Link) → map node_of new ≡ map node_of old
    → target_of new link ≡ target_of old link
targets-same old new link same = target-kept old new link (links-same old new same)

-- and so are the roots
abbrev roots_of : Root → ℕ → List Node → List ℕ
roots_of root n [] = []
roots_of root n (r ∷ rs) = cond (same_root r.root root) (n ∷ []) [] ++ roots_of root (n + 1) rs

roots-nodes : (root : Root) (n : ℕ) (nodes : List Bodied)
    → roots_from root n nodes ≡ roots_of root n (map node_of nodes)
roots-nodes root n [] = refl
roots-nodes root n (r ∷ rs) =
    ap (λ more. cond (same_root r.node.root root) (n ∷ []) [] ++ more) (roots-nodes root (n + 1) rs)

pub roots-same : (root : Root) (n : ℕ) (old new : List Bodied) → map node_of new ≡ map node_of old
    → roots_from root n new ≡ roots_from root n old
roots-same root n old new same =
    roots-nodes root n new ∙ ap (roots_of root n) same ∙ sym (roots-nodes root n old)

-- ---- one record with other links

-- The new record is the old one, but that its links are changed, as many as they are.
pub record IsChanged (plans : Layouts) (order : Order) (change : List Link → List Link) (old new : Bodied) : Type 0
  where
    pub node : new.node ≡ old.node
    pub many : (links : List Link) → length (change links) ≡ length links
    pub reads : (fields : List Field) (values : List Value) (tail : List ℕ) → plan_of plans old.node.class ≡ Some fields
        → IsBody order fields values tail old.body
        → IsBody order fields (with_links values (change (links_in values))) tail new.body

-- So is the record of a number, and all else is as it was.
pub record IsChangedAt (plans : Layouts) (change : List Link → List Link) (n : ℕ) (old new : Collected) : Type 0 where
  pub before : Bodied
  pub after : Bodied
  pub found : slice_get old.nodes n ≡ Some before
  pub changed : IsChanged plans old.order change before after
  pub whole : new ≡ record old { nodes = slice_set old.nodes n after }

-- one link is kept, and all others are null
abbrev pub kept : ℕ → Link → List Link → List Link
kept k to links = slice_set (nulls links) k to

pub kept-at : (plans : Layouts) (n k : ℕ) (to : Link) (old new : Collected) → KeepsLink plans n k to old new
    → IsChangedAt plans (kept k to) n old new
kept-at plans n k to old new keeps = record {
  before = keeps.before;
  after = keeps.after;
  found = keeps.found;
  changed = record {
    node = keeps.kept.node;
    many = λ links. length-set (nulls links) k to ∙ length-map links (λ link. null_link);
    reads = keeps.kept.reads;
  };
  whole = keeps.whole;
}

-- one link is null
abbrev pub ended : ℕ → List Link → List Link
ended k links = slice_set links k null_link

pub ended-at : (plans : Layouts) (n k : ℕ) (old new : Collected) → SetsLink plans n k null_link old new
    → IsChangedAt plans (ended k) n old new
ended-at plans n k old new sets = record {
  before = sets.before;
  after = sets.after;
  found = sets.found;
  changed = record {
    node = sets.relinked.node;
    many = λ links. length-set links k null_link;
    reads = sets.relinked.reads;
  };
  whole = sets.whole;
}

-- ---- the records stay

pub changed-nodes : (plans : Layouts) (change : List Link → List Link) (n : ℕ) (old new : Collected)
    → IsChangedAt plans change n old new → HaveSameNodes old new
changed-nodes plans change n old new at =
    ap (λ (s : Collected). map node_of s.nodes) at.whole
    ∙ nodes-set old.nodes n at.before at.after at.found at.changed.node

pub all-set : {X : Type 0} (P : X → Type 0) (xs : List X) (n : ℕ) (x : X) → AllByRecursion P xs → P x
    → AllByRecursion P (slice_set xs n x)
all-set P [] n x all is = tt
all-set P (y ∷ ys) zero x all is = (is, all.1)
all-set P (y ∷ ys) (suc n) x all is = (all.0, all-set P ys n x all.1 is)

pub reads-at : (plans : Layouts) (s : Collected) (n : ℕ) (r : Bodied) → All (ReadsBy plans s.order) s.nodes
    → slice_get s.nodes n ≡ Some r → ReadsBy plans s.order r
reads-at plans s n r reads at =
    subst (ReadsBy plans s.order) (get_or_from_slice_get s.nodes n r r at)
    (All-get_or (ReadsBy plans s.order) s.nodes n r (slice_get_within s.nodes n r at) reads)

changed-reads : (plans : Layouts) (order : Order) (change : List Link → List Link) (old new : Bodied)
    → IsChanged plans order change old new → ReadsBy plans order old → ReadsBy plans order new
changed-reads plans order change old new changed reads = record {
  fields = reads.fields;
  plan = ap (λ (n : Node). plan_of plans n.class) changed.node ∙ reads.plan;
  reads = body reads.reads;
}
  where
    body : HasBody order reads.fields old.body → HasBody order reads.fields new.body
    body (values, tail, is) =
        (with_links values (change (links_in values)), tail, changed.reads reads.fields values tail reads.plan is)

pub changed-keeps : (plans : Layouts) (change : List Link → List Link) (n : ℕ) (old new : Collected)
    → All (ReadsBy plans old.order) old.nodes → IsChangedAt plans change n old new → KeepsRecords plans old new
changed-keeps plans change n old new reads at = record {
  order = ap (λ (s : Collected). s.order) at.whole;
  records = links-same old.nodes new.nodes (changed-nodes plans change n old new at);
  end = ap (λ (s : Collected). s.end_record) at.whole;
  pending = ap (λ (s : Collected). s.pending) at.whole;
  given = ap (λ (s : Collected). s.given) at.whole;
  spare = ap (λ (s : Collected). s.spare) at.whole;
  reads = subst (λ (s : Collected). All (ReadsBy plans s.order) s.nodes) (sym at.whole)
      (All-from_recursion (ReadsBy plans old.order) (slice_set old.nodes n at.after)
      (all-set (ReadsBy plans old.order) old.nodes n at.after
      (recursion_from_All (ReadsBy plans old.order) old.nodes reads)
      (changed-reads plans old.order change at.before at.after at.changed
      (reads-at plans old n at.before reads at.found))));
}

-- a plain link has a number
pub number-there : (plans : Layouts) (order : Order) (field : ℕ) (r : Bodied) → HasPlainLinkBy plans order field r
    → (k : ℕ) × IsNumberOf plans order field k r
number-there plans order field r has = by has.reads
  where
    by : HasBody order has.fields r.body → (k : ℕ) × IsNumberOf plans order field k r
    by (values, tail, is) = (
      length (links_in (take field values)),
      record {
        fields = has.fields;
        plan = has.plan;
        number = record { values = values; tail = tail; reads = is; count = refl };
      },
    )

pub number-at : (plans : Layouts) (s : Collected) (n field : ℕ)
    → IfSome (slice_get s.nodes n) (HasPlainLinkBy plans s.order field)
    → (k : ℕ) × IfSome (slice_get s.nodes n) (IsNumberOf plans s.order field k)
number-at plans s n field has = by (slice_get s.nodes n) has
  where
    by : (o : Option Bodied) → IfSome o (HasPlainLinkBy plans s.order field)
        → (k : ℕ) × IfSome o (IsNumberOf plans s.order field k)
    by None has = (0, tt)
    by (Some r) has = number-there plans s.order field r has

pub on-ok : {X E P Q : Type 0} (r : Result X E) → (P → Q) → OnOk r P → OnOk r Q
on-ok (Ok x) f on = f on
on-ok (Err e) f on = tt

-- ---- one change after another

pub keeps-on : (plans : Layouts) (old mid new : Collected) → KeepsRecords plans old mid → KeepsRecords plans mid new
    → KeepsRecords plans old new
keeps-on plans old mid new first second = record {
  order = second.order ∙ first.order;
  records = second.records ∙ first.records;
  end = second.end ∙ first.end;
  pending = second.pending ∙ first.pending;
  given = second.given ∙ first.given;
  spare = second.spare ∙ first.spare;
  reads = second.reads;
}

without-reads : (plans : Layouts) (order : Order) (nodes : List Bodied) → AllByRecursion (ReadsBy plans order) nodes
    → AllByRecursion (ReadsBy plans order) (map without_stat nodes)
without-reads plans order [] all = tt
without-reads plans order (r ∷ rs) all =
    (record { fields = all.0.fields; plan = all.0.plan; reads = all.0.reads }, without-reads plans order rs all.1)

-- static data that are no roots any more
pub stat-keeps : (plans : Layouts) (old new : Collected) → All (ReadsBy plans old.order) old.nodes
    → new ≡ record old { nodes = map without_stat old.nodes } → KeepsRecords plans old new
stat-keeps plans old new reads is = subst (KeepsRecords plans old) (sym is) (record {
  order = refl;
  records = without-links old.nodes;
  end = refl;
  pending = refl;
  given = refl;
  spare = refl;
  reads = All-from_recursion (ReadsBy plans old.order) (map without_stat old.nodes)
      (without-reads plans old.order old.nodes (recursion_from_All (ReadsBy plans old.order) old.nodes reads));
})
