-- Records put behind others: what may be put, and what is held then.
use Rattle.std.proofs.Common.{◌≡◌, ℕ, zero, suc, ◌+◌, ◌<◌, ◌≤◌, true, false, List, [], ◌∷◌, ◌++◌, length}
use Rattle.std.proofs.Common.{refl, sym, ap, ◌∙◌, subst, arith, lit≤, add-one, append_assoc}
use Rattle.std.specs.Prelude.{IsSomeAnd}
use Rattle.std.specs.List.{AllZip}
use Rattle.std.proofs.lemmas.Bool.{false≢true}
use Rattle.std.proofs.lemmas.Slice.Zip.{AllZip-long}
use Rattle.scalar_types.specs.declared.Order.TheVariants.{Little}
use Rattle.record_values.specs.declared.values.Value.{Value}
use Rattle.layout_plan.specs.declared.fields.Field.{Field}
use Rattle.layout_plan.specs.Written.{IsWritten}
use Rattle.link_graph.specs.declared.nodes.Node.{Node}
use Rattle.link_graph.specs.declared.nodes.Root.TheVariants.{No}
use Rattle.link_graph.specs.Collected.{Bodied, Collected, is_held, Becomes, with_end, nothing_in}
use Rattle.sample_file.specs.Sample.{end_values}
use Rattle.sample_file.specs.Drafts.{Draft, IsSound, IsOf, is_taken, Holds, Pends, CanPend, CanBePut, Puts, IsWhole}
use Rattle.sample_file.specs.Drafts.{node_of, end_fields, end_draft, channel_draft, vector_draft, drafts_before}
use Rattle.sample_file.proofs.Learnt.{end-layout}
use Rattle.sample_file.proofs.DraftLemmas.{held-is}
use Rattle.sample_file.proofs.SoundDrafts.{end-sound}

-- ---- one record

pub few-nodes : (drafts : List Draft) (old now : Collected) (fields : List Field) (values : List Value)
    → Holds drafts old → length drafts ≤ 100 → Pends fields values old now → length now.nodes < 4294967295
few-nodes drafts old now fields values held few pends =
    let same : length now.nodes ≡ length old.nodes = ap length pends.nodes in
    let long : length old.nodes ≡ length drafts = AllZip-long IsOf drafts old.nodes held.nodes in
    omega (arith, same, long, few)

pub no-twin : (drafts : List Draft) (old now : Collected) (fields : List Field) (values : List Value) (node : Node)
    → Holds drafts old → Pends fields values old now → is_taken node drafts ≡ false → is_held now.nodes node ≡ true
    → ⊥
no-twin drafts old now fields values node held pends fresh twin =
    false≢true (sym fresh ∙ sym (held-is drafts old.nodes held.nodes node)
    ∙ ap (λ (rs : List Bodied). is_held rs node) (sym pends.nodes) ∙ twin)

-- a record of a draft may be put
pub can-be-put : (drafts : List Draft) (d : Draft) (node : Node) (values : List Value) (s : Collected) → node ≡ d.node
    → values ≡ d.values → IsSound d → Holds drafts s → is_taken d.node drafts ≡ false → length drafts ≤ 100
    → CanBePut node values s
can-be-put drafts d node values s same is sound held fresh few =
    subst (λ n. CanBePut n values s) (sym same) (subst (λ vs. CanBePut d.node vs s) (sym is) (record {
      drafts = drafts;
      held = held;
      fields = d.fields;
      sound = sound;
      fresh = fresh;
      few = few;
    }))

-- and is held then
pub was-put : (drafts : List Draft) (d : Draft) (node : Node) (values : List Value) (old new : Collected)
    → node ≡ d.node → values ≡ d.values → IsSound d → Holds drafts old → Puts node values old new
    → Holds (drafts ++ d ∷ []) new
was-put drafts d node values old new same is sound held puts =
    let here : Puts d.node d.values old new =
    subst (λ vs. Puts d.node vs old new) is (subst (λ n. Puts n values old new) same puts) in
    here drafts d.fields held sound

-- ---- channels

pub few-before : (k j : ℕ) → j < 3 → length (drafts_before k j) ≤ 90
few-before k zero below = lit≤ tt
few-before k (suc zero) below = lit≤ tt
few-before k (suc (suc zero)) below = lit≤ tt
few-before k (suc (suc (suc j))) below = absurd (omega arith)

pub channel-new : (k j : ℕ) → j < 3 → is_taken (node_of 5 j No) (drafts_before k j) ≡ false
channel-new k zero below = refl
channel-new k (suc zero) below = refl
channel-new k (suc (suc zero)) below = refl
channel-new k (suc (suc (suc j))) below = absurd (omega arith)

pub vector-new : (k j : ℕ) → j < 3 → is_taken (node_of 7 j No) (drafts_before k j ++ channel_draft j ∷ []) ≡ false
vector-new k zero below = refl
vector-new k (suc zero) below = refl
vector-new k (suc (suc zero)) below = refl
vector-new k (suc (suc (suc j))) below = absurd (omega arith)

-- the drafts with one more channel
pub channel-more : (k j : ℕ) → (drafts_before k j ++ channel_draft j ∷ []) ++ vector_draft k j ∷ []
    ≡ drafts_before k (j + 1)
channel-more k j =
    append_assoc (drafts_before k j) (channel_draft j ∷ []) (vector_draft k j ∷ [])
    ∙ ap (drafts_before k) (sym (add-one j))

-- ---- the beginning and the end

-- nothing is held after all is cleared
pub none-held : (old new : Collected) → old.order ≡ Little → Becomes new (nothing_in old.order) → Holds [] new
none-held old new little cleared = record {
  order = cleared.order ∙ little;
  nodes = subst (λ rs. AllZip IsOf [] rs) (sym cleared.nodes) tt;
  end_record = cleared.end_record;
  pending = cleared.pending;
  given = let none : new.given ≡ 0 = cleared.given in omega arith;
}

-- the body of the end record may be the pending one
pub end-can : (k : ℕ) (values : List Value) (s : Collected) → k ≤ 100000 → values ≡ end_values k
    → Holds (drafts_before k 3) s → CanPend 9 values s
end-can k values s small is held = subst (λ vs. CanPend 9 vs s) (sym is) (record {
  fields = end_fields;
  layout = end-layout;
  fits = (end-sound k small).fits;
  short = (end-sound k small).short;
  pending = held.pending;
  given = let few : s.given ≤ 2400 = held.given in omega arith;
})

-- The frame is whole with its end record.
pub ends-whole : (k : ℕ) (values : List Value) (node : Node) (old now new : Collected) → k ≤ 100000
    → values ≡ end_values k → node ≡ node_of 9 0 No → Holds (drafts_before k 3) old → Pends end_fields values old now
    → Becomes new (with_end node now) → IsWhole k new
ends-whole k values node old now new small is same held pends set = record {
  small = small;
  order = set.order ∙ pends.order ∙ held.order;
  nodes = subst (λ rs. AllZip IsOf (drafts_before k 3) rs) (sym (set.nodes ∙ pends.nodes)) held.nodes;
  end = subst (λ o. IsSomeAnd o (IsOf (end_draft k))) (sym set.end_record)
      (record { node = same; written = subst (λ vs. IsWritten Little end_fields vs now.pending) is pends.written });
}
