-- The links of a body as they were read, and those that are to be written in their place.
use Rattle.std.proofs.Common.{◌≡◌, ℕ, ◌-◌, ◌<◌, List, [], ◌++◌, length, take, get_or, map, sym, ap}
use Rattle.std.proofs.Common.{◌∙◌, subst, arith}
use Rattle.std.proofs.Math.ListN.{replicate}
use Rattle.std.proofs.lemmas.List.{take_all, get_or-map, length-map, length-replicate}
use Rattle.std.proofs.lemmas.Simd.{splat_is_map}
use Rattle.scalar_types.specs.declared.Order.{Order}
use Rattle.type_text.specs.declared.types.Link.{Link}
use Rattle.layout_plan.specs.declared.fields.Field.{Field}
use Rattle.layout_plan.specs.declared.links.FieldLink.{FieldLink}
use Rattle.layout_plan.specs.Appends.{Appends}
use Rattle.layout_plan.specs.Links.{AreLinks, HasLinks}
use Rattle.layout_plan.proofs.LinkLemmas.{listed-links}
use Rattle.link_graph.specs.Graph.{link_in}
use Rattle.frame_content.specs.Labels.{null_link, nullified}

-- those that were put into an empty list are as many as the body has
pub are-many : (order : Order) (fields : List Field) (body : List ℕ) (old new : List FieldLink) → old ≡ []
    → Appends (AreLinks order fields body) old new → HasLinks order fields body (length new)
are-many order fields body old new empty put =
    let is : new ≡ put.items = put.whole ∙ ap (λ front. front ++ put.items) empty in
    listed-links order fields body put.items (length new) put.related (sym (ap length is))

-- an empty list is made longer
pub resized : {X : Type 0} (n m : ℕ) (x : X) (old new : List X) → old ≡ [] → m ≡ 0
    → new ≡ take n old ++ replicate (n - m) x → new ≡ replicate n x
resized n m x old new empty none is =
    let front : take n old ≡ [] = ap (take n) empty ∙ take_all n [] (omega arith) in
    let count : n - m ≡ n = omega arith in
    is ∙ (λ i. front i ++ replicate (count i) x)

-- as many null links
pub null-many : (order : Order) (fields : List Field) (body : List ℕ) (read : List FieldLink) (n : ℕ)
    (written : List Link) → n ≡ length read → written ≡ replicate n null_link
    → HasLinks order fields body (length read) → HasLinks order fields body (length written)
null-many order fields body read n written count is many =
    subst (HasLinks order fields body) (sym (ap length is ∙ length-replicate n null_link ∙ count)) many

pub null-are : (read : List FieldLink) (links : List Link) (n : ℕ) (written : List Link) → n ≡ length read
    → written ≡ replicate n null_link → map link_in read ≡ links → written ≡ map nullified links
null-are read links n written count is are =
    is ∙ splat_is_map links n null_link (sym (ap length are) ∙ length-map read link_in ∙ sym count)

-- other links, one for each
pub new-many : (order other : Order) (fields : List Field) (body : List ℕ) (read given : List FieldLink)
    (links : Link → Link) (written : List Link) → other ≡ order → given ≡ read
    → written ≡ map links (map link_in given) → HasLinks order fields body (length read)
    → HasLinks other fields body (length written)
new-many order other fields body read given links written same whole is many =
    let size : length written ≡ length read =
    ap length is ∙ length-map (map link_in given) links ∙ length-map given link_in ∙ ap length whole in
    subst (λ order. HasLinks order fields body (length written)) (sym same)
    (subst (HasLinks order fields body) (sym size) many)

-- ---- links that are written alike in two frames

-- one link, as it is written
one-link : (f : Link → Link) (read : List FieldLink) (k : ℕ) (d : FieldLink) → k < length read
    → get_or (map f (map link_in read)) k (link_in d) ≡ f (link_in (get_or read k d))
one-link f read k d within =
    get_or-map f (map link_in read) k (link_in d) (link_in d) (omega (arith, within, length-map read link_in))
    ∙ ap f (get_or-map link_in read k d (link_in d) within)

-- so each is written alike
pub alike-at : (f g : Link → Link) (read : List FieldLink) (k : ℕ) (d : FieldLink) → k < length read
    → map f (map link_in read) ≡ map g (map link_in read)
    → f (link_in (get_or read k d)) ≡ g (link_in (get_or read k d))
alike-at f g read k d within same =
    sym (one-link f read k d within) ∙ ap (λ links. get_or links k (link_in d)) same ∙ one-link g read k d within
