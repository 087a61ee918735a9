-- The links of a frame's records, and the first that leads nowhere.
use Rattle.std.proofs.Common.{◌≡◌, ℕ, ◌+◌, ◌<◌, ◌≤◌, List, [], ◌∷◌, ◌++◌, length, take, drop, map}
use Rattle.std.proofs.Common.{get_or, position, Option, Some, None, cond, true, false}
use Rattle.std.proofs.Common.{sym, ap, ◌∙◌, subst, arith, append-nil}
use Rattle.std.specs.Prelude.{All, slice_get}
use Rattle.std.specs.Option.{option_map, option_map_or}
use Rattle.std.specs.Result.{result_ok}
use Rattle.std.specs.List.{position_from}
use Rattle.std.proofs.lemmas.Iterator.Adapters.{position_from-zero}
use Rattle.std.proofs.lemmas.List.{take_more, take_all, drop_more, map-append, append_assoc}
use Rattle.std.proofs.lemmas.List.{drop_all}
use Rattle.std.proofs.lemmas.Option.{slice_get-get_or}
use Rattle.scalar_types.specs.declared.Order.{Order}
use Rattle.type_text.specs.declared.types.Link.{Link}
use Rattle.record_values.specs.declared.values.Value.{Value}
use Rattle.record_values.specs.Links.{links_in}
use Rattle.layout_plan.specs.declared.fields.Field.{Field}
use Rattle.layout_plan.specs.declared.links.FieldLink.{FieldLink}
use Rattle.layout_plan.specs.Appends.{Appends}
use Rattle.layout_plan.specs.Layout.{AreSound}
use Rattle.layout_plan.specs.Body.{IsBody, HasBody}
use Rattle.layout_plan.specs.Links.{AreLinks, AreBodyLinks, field_links}
use Rattle.layout_plan.specs.Plans.{plan_of}
use Rattle.layout_plan.proofs.BodyLemmas.{body_in-again}
use Rattle.layout_plan.proofs.LinkLemmas.{field_links-links}
use Rattle.link_graph.specs.declared.nodes.Node.{Node}
use Rattle.link_graph.specs.Collected.{Bodied, target_of}
use Rattle.link_graph.specs.Graph.{Layouts, ReadsBy, link_in, links_by, links_of, is_loose}
use Rattle.link_graph.proofs.Found.{Some-same}

-- the links of a body are those of its values
links_by-body : (order : Order) (fields : List Field) (values : List Value) (tail bytes : List ℕ) →
    AreSound 0 fields → IsBody order fields values tail bytes →
    links_by order fields bytes ≡ links_in values
links_by-body order fields values tail bytes sound body =
    ap (λ found. option_map_or (λ (x : List Value × List ℕ). links_in x.0) (result_ok found) [])
    (body_in-again order fields sound bytes values tail body)

-- those that were put into an empty list are the body's
pub put-links : (order : Order) (fields : List Field) (body : List ℕ) (old links : List FieldLink) →
    old ≡ [] → Appends (AreLinks order fields body) old links → AreSound 0 fields →
    HasBody order fields body →
    map link_in links ≡ links_by order fields body
put-links order fields body old links empty put sound (values, tail, spelled) =
    ap (map link_in) (put.whole ∙ ap (λ front. front ++ put.items) empty ∙ put.related values tail spelled)
    ∙ field_links-links 0 values ∙ sym (links_by-body order fields values tail body sound spelled)

-- those that were put behind others are the body's
pub put-row : (order : Order) (fields : List Field) (body : List ℕ) (old new : List Link) →
    Appends (AreBodyLinks order fields body) old new → AreSound 0 fields → HasBody order fields body →
    new ≡ old ++ links_by order fields body
put-row order fields body old new put sound (values, tail, spelled) =
    put.whole ∙ ap (λ row. old ++ row)
    (put.related values tail spelled ∙ sym (links_by-body order fields values tail body sound spelled))

found-links : (plans : Layouts) (order : Order) (o : Option Bodied) (node : Node) (body : List ℕ)
    (fields : List Field) (links : List Link) → option_map (λ (r : Bodied). r.node) o ≡ Some node →
    option_map (λ (r : Bodied). r.body) o ≡ Some body → plan_of plans node.class ≡ Some fields →
    links ≡ links_by order fields body → option_map (links_of plans order) o ≡ Some links
found-links plans order None node body fields links is_node is_body plan read = cc
found-links plans order (Some r) node body fields links is_node is_body plan read =
    let named : r.node ≡ node = Some-same r.node node is_node in
    let held : r.body ≡ body = Some-same r.body body is_body in
    ap Some
    (ap (λ (n : Node). option_map_or (λ (fields : List Field). links_by order fields r.body)
    (plan_of plans n.class) []) named
    ∙ ap (λ (found : Option (List Field)). option_map_or
    (λ (fields : List Field). links_by order fields r.body) found []) plan
    ∙ ap (links_by order fields) held
    ∙ sym read)

-- the links of the record of a number
pub links-at : (plans : Layouts) (order : Order) (nodes : List Bodied) (k : ℕ) (node : Node) (body : List ℕ)
    (fields : List Field) (links : List Link) →
    option_map (λ (r : Bodied). r.node) (slice_get nodes k) ≡ Some node →
    option_map (λ (r : Bodied). r.body) (slice_get nodes k) ≡ Some body →
    plan_of plans node.class ≡ Some fields →
    links ≡ links_by order fields body → option_map (links_of plans order) (slice_get nodes k) ≡ Some links
links-at plans order nodes k node body fields links is_node is_body plan read =
    found-links plans order (slice_get nodes k) node body fields links is_node is_body plan read

-- the record of a number reads by its plan
pub record Read (plans : Layouts) (order : Order) (node : Node) (body : List ℕ) : Type 0 where
  pub fields : List Field
  pub plan : plan_of plans node.class ≡ Some fields
  pub reads : HasBody order fields body

found-read : (plans : Layouts) (order : Order) (r : Bodied) (node : Node) (body : List ℕ) →
    ReadsBy plans order r → r.node ≡ node → r.body ≡ body → Read plans order node body
found-read plans order r node body reads named held = record {
  fields = reads.fields;
  plan = ap (λ (n : Node). plan_of plans n.class) (sym named) ∙ reads.plan;
  reads = subst (HasBody order reads.fields) held reads.reads;
}

pub read-at : (plans : Layouts) (order : Order) (nodes : List Bodied) (k : ℕ) (node : Node) (body : List ℕ)
    → All (ReadsBy plans order) nodes → k < length nodes →
    option_map (λ (r : Bodied). r.node) (slice_get nodes k) ≡ Some node →
    option_map (λ (r : Bodied). r.body) (slice_get nodes k) ≡ Some body → Read plans order node body
read-at plans order nodes k node body reads within is_node is_body =
    let r : Bodied = get_or nodes k (record { node = node; body = body }) in
    let at : slice_get nodes k ≡ Some r =
    slice_get-get_or nodes k (record { node = node; body = body }) within in
    found-read plans order r node body (reads k (record { node = node; body = body }) within)
    (Some-same r.node node (ap (option_map (λ (r : Bodied). r.node)) (sym at) ∙ is_node))
    (Some-same r.body body (ap (option_map (λ (r : Bodied). r.body)) (sym at) ∙ is_body))

pub read-by : (plans : Layouts) (order : Order) (node : Node) (body : List ℕ) (fields : List Field) →
    Read plans order node body → plan_of plans node.class ≡ Some fields → HasBody order fields body
read-by plans order node body fields read plan =
    subst (λ (fields : List Field). HasBody order fields body) (Some-same read.fields fields (sym read.plan
    ∙ plan)) read.reads

pub not-unread : (plans : Layouts) (order : Order) (node : Node) (body : List ℕ) →
    Read plans order node body → plan_of plans node.class ≡ None → ⊥
not-unread plans order node body read none = let plan = read.plan in cc

-- ---- the links of one record, one after another

-- The targets of the first k links stand behind the others, and none of them is loose.
pub record ArePut (nodes : List Bodied) (links : List Link) (old new : List (Option ℕ)) (k : ℕ) : Type 0 where
  pub targets : new ≡ old ++ map (target_of nodes) (take k links)
  pub fine : position_from (is_loose nodes) k (drop k links) ≡ position (is_loose nodes) links

pub none-put : (nodes : List Bodied) (links : List Link) (old : List (Option ℕ)) →
    ArePut nodes links old old 0
none-put nodes links old = record {
  targets = sym (append-nil old);
  fine = sym (position_from-zero (is_loose nodes) links);
}

-- what is found from a link on
here : (nodes : List Bodied) (links : List Link) (old new : List (Option ℕ)) (k : ℕ) (d : Link) →
    ArePut nodes links old new k → k < length links →
    cond (is_loose nodes (get_or links k d)) (Some k)
    (position_from (is_loose nodes) (k + 1) (drop (k + 1) links)) ≡ position (is_loose nodes) links
here nodes links old new k d put within =
    ap (position_from (is_loose nodes) k) (sym (drop_more links k d within)) ∙ put.fine

-- one link more that is not loose
pub one-put : (nodes : List Bodied) (links : List Link) (old new more : List (Option ℕ)) (k : ℕ)
    (d : Link) (target : Option ℕ) → ArePut nodes links old new k → k < length links →
    is_loose nodes (get_or links k d) ≡ false → target ≡ target_of nodes (get_or links k d) →
    more ≡ new ++ target ∷ [] → ArePut nodes links old more (k + 1)
one-put nodes links old new more k d target put within fine is pushed =
    let last : Link = get_or links k d in
    let ends : map (target_of nodes) (take k links) ++ target ∷ [] ≡ map (target_of nodes)
    (take k links ++ last ∷ []) =
    ap (λ (t : Option ℕ). map (target_of nodes) (take k links) ++ t ∷ []) is
    ∙ sym (map-append (target_of nodes) (take k links) (last ∷ [])) in
    record {
      targets = pushed ∙ ap (λ xs. xs ++ target ∷ []) put.targets
          ∙ append_assoc old (map (target_of nodes) (take k links)) (target ∷ [])
          ∙ ap (λ xs. old ++ xs) (ends
          ∙ ap (map (target_of nodes)) (sym (take_more links k d within)));
      fine = ap (λ b. cond b (Some k)
          (position_from (is_loose nodes) (k + 1) (drop (k + 1) links))) (sym fine)
          ∙ here nodes links old new k d put within;
    }

-- the first that is loose
pub loose-here : (nodes : List Bodied) (links : List Link) (old new : List (Option ℕ)) (k : ℕ)
    (d : Link) → ArePut nodes links old new k → k < length links →
    is_loose nodes (get_or links k d) ≡ true → Some k ≡ position (is_loose nodes) links
loose-here nodes links old new k d put within loose =
    ap (λ b. cond b (Some k) (position_from (is_loose nodes) (k + 1) (drop (k + 1) links)))
    (sym loose) ∙ here nodes links old new k d put within

-- all of them
pub all-put : (nodes : List Bodied) (links : List Link) (old new : List (Option ℕ)) (k : ℕ) →
    ArePut nodes links old new k → length links ≤ k →
    (None ≡ position (is_loose nodes) links) × (new ≡ old ++ map (target_of nodes) links)
all-put nodes links old new k put le = (
  ap (position_from (is_loose nodes) k) (sym (drop_all k links le)) ∙ put.fine,
  put.targets ∙ ap (λ (ls : List Link). old ++ map (target_of nodes) ls) (take_all k links le),
)
