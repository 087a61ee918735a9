-- Records that read by their plans, one after another.
use Rattle.std.proofs.Common.{◌≡◌, ℕ, ◌+◌, ◌<◌, ◌≤◌, List, [], ◌∷◌, ◌++◌, length, map, take}
use Rattle.std.proofs.Common.{get_or, Option, ap, ◌∙◌}
use Rattle.std.proofs.Common.{Some, None, IfSome, refl, sym, subst}
use Rattle.std.specs.Prelude.{All, slice_get}
use Rattle.std.specs.Option.{option_map}
use Rattle.std.proofs.lemmas.List.{take_more, take_all, map-append}
use Rattle.std.proofs.lemmas.List.Elements.{All-push}
use Rattle.std.proofs.lemmas.Option.{slice_get-get_or}
use Rattle.scalar_types.specs.declared.Order.{Order}
use Rattle.type_text.specs.declared.types.Link.{Link}
use Rattle.link_graph.specs.declared.nodes.Root.TheVariants.{No}
use Rattle.link_graph.specs.Collected.{Bodied}
use Rattle.link_graph.specs.Graph.{Layouts, ReadsBy, links_of}

-- one record more
pub reads-more : (plans : Layouts) (order : Order) (nodes : List Bodied) (k : ℕ) → k < length nodes →
    All (ReadsBy plans order) (take k nodes) →
    IfSome (slice_get nodes k) (ReadsBy plans order) → All (ReadsBy plans order) (take (k + 1) nodes)
reads-more plans order nodes k within reads here =
    let none : Bodied = record { node = record { at = 0; class = 0; instance = 0; root = No }; body = [] } in
    let r : Bodied = get_or nodes k none in
    let this : ReadsBy plans order r =
    subst (λ o. IfSome o (ReadsBy plans order)) (slice_get-get_or nodes k none within) here in
    subst (All (ReadsBy plans order)) (sym (take_more nodes k none within))
    (All-push (ReadsBy plans order) (take k nodes) r reads this)

-- all of them
pub reads-all : (plans : Layouts) (order : Order) (nodes : List Bodied) (k : ℕ) → length nodes ≤ k →
    All (ReadsBy plans order) (take k nodes) → All (ReadsBy plans order) nodes
reads-all plans order nodes k le reads = subst (All (ReadsBy plans order)) (take_all k nodes le) reads

-- the row of one record more
pub links-more : (plans : Layouts) (order : Order) (nodes : List Bodied) (k : ℕ) (old new : List (List Link)) →
    k < length nodes → old ≡ map (links_of plans order) (take k nodes) →
    IfSome (slice_get nodes k) (λ r. new ≡ old ++ links_of plans order r ∷ []) →
    new ≡ map (links_of plans order) (take (k + 1) nodes)
links-more plans order nodes k old new within are here =
    let none : Bodied = record { node = record { at = 0; class = 0; instance = 0; root = No }; body = [] } in
    let r : Bodied = get_or nodes k none in
    let this : new ≡ old ++ links_of plans order r ∷ [] =
    subst (λ o. IfSome o (λ r. new ≡ old ++ links_of plans order r ∷ []))
    (slice_get-get_or nodes k none within) here in
    this ∙ ap (λ rows. rows ++ links_of plans order r ∷ []) are
    ∙ sym (map-append (links_of plans order) (take k nodes) (r ∷ []))
    ∙ ap (map (links_of plans order)) (sym (take_more nodes k none within))

-- no end record is seen where none is set
pub no-end : (ended : Option Bodied) → None ≡ option_map (λ (r : Bodied). r.node) ended → ended ≡ None
no-end None e = refl
no-end (Some r) e = cc
