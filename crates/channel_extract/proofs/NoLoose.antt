-- Where no link of a segment is loose, none is after links of a record become null, or lead to a record that is there.
use Rattle.std.proofs.Common.{◌≡◌, ℕ, zero, suc, ◌+◌, Bool, true, false, cond, List, [], ◌∷◌, map, position}
use Rattle.std.proofs.Common.{Option, Some, None, IfSome, All, refl, sym, ap, ◌∙◌, subst}
use Rattle.std.specs.Prelude.{◌==◌, ◌&&◌, not, is_none, slice_get, slice_set}
use Rattle.std.specs.List.{AllByRecursion, position_from}
use Rattle.std.specs.Option.{option_map, option_map_or}
use Rattle.std.specs.Result.{result_ok}
use Rattle.std.proofs.lemmas.Bool.{eq-eqb, true≢false}
use Rattle.std.proofs.lemmas.Iterator.Adapters.{position_from-zero}
use Rattle.std.proofs.lemmas.List.Elements.{All-from_recursion}
use Rattle.std.proofs.lemmas.Option.{same_Some, none-some}
use Rattle.scalar_types.specs.declared.Order.{Order}
use Rattle.type_text.specs.declared.types.Link.{Link}
use Rattle.record_values.specs.declared.values.Value.{Value}
use Rattle.record_values.specs.Links.{links_in, with_links}
use Rattle.layout_plan.specs.declared.fields.Field.{Field}
use Rattle.layout_plan.specs.Body.{IsBody, HasBody}
use Rattle.layout_plan.specs.Layout.{AreSound}
use Rattle.layout_plan.specs.Plans.{plan_of}
use Rattle.layout_plan.specs.Unlinked.{nulls, null_link}
use Rattle.layout_plan.proofs.BodyLemmas.{body_in-again}
use Rattle.link_graph.specs.declared.nodes.Node.{Node}
use Rattle.link_graph.specs.Collected.{Bodied, Collected, is_named, place_of, target_of, without_stat}
use Rattle.link_graph.specs.Graph.{Layouts, ReadsBy, links_by, links_of, is_loose, loose_from, first_loose}
use Rattle.link_graph.specs.Relinked.{SetsLink}
use Rattle.link_graph.specs.Unlinked.{HasPlainLinkBy, IsNumberOf, KeepsLink}
use Rattle.contents_table.proofs.Positions.{position-never}
use Rattle.canonical_laws.proofs.LinksWithin.{links-linked}
use Rattle.channel_extract.specs.Cutting.{own_link, node_of, IsSoundBy}
use Rattle.channel_extract.proofs.Relinking.{IsChanged, IsChangedAt, kept, kept-at, ended, ended-at}
use Rattle.channel_extract.proofs.Relinking.{nodes-set, number-at, targets-same, all-set, reads-at}
use Rattle.channel_extract.proofs.KeptRecords.{target-kept, without-links}

-- ---- lists

all-at : {X : Type 0} (P : X → Type 0) (xs : List X) (n : ℕ) (x : X) → AllByRecursion P xs → slice_get xs n ≡ Some x
    → P x
all-at P [] n x all at = absurd (none-some x at)
all-at P (y ∷ ys) zero x all at = subst P (same_Some y x at) all.0
all-at P (y ∷ ys) (suc n) x all at = all-at P ys n x all.1 at

-- none passes
from-none : {X : Type 0} (p : X → Bool) (i : ℕ) (xs : List X) → position_from p i xs ≡ None
    → AllByRecursion (λ x. p x ≡ false) xs
from-none p i [] none = tt
from-none {X} p i (x ∷ xs) none = by (p x) refl (from-none p (i + 1) xs) none
  where
    by : (b : Bool) → p x ≡ b → (position_from p (i + 1) xs ≡ None → AllByRecursion (λ x. p x ≡ false) xs)
        → cond b (Some i) (position_from p (i + 1) xs) ≡ None
        → (p x ≡ false) × AllByRecursion (λ x. p x ≡ false) xs
    by true is later none = absurd (none-some i (sym none))
    by false is later none = (is, later none)

none-passes : {X : Type 0} (p : X → Bool) (xs : List X) → position p xs ≡ None → AllByRecursion (λ x. p x ≡ false) xs
none-passes p xs none = from-none p 0 xs (sym (position_from-zero p xs) ∙ none)

-- ---- the links of all records

-- none of the record's links is such
abbrev HasNone : Layouts → Order → (Link → Bool) → Bodied → Type 0
HasNone plans order loose r = position loose (links_of plans order r) ≡ None

each-none : (plans : Layouts) (order : Order) (nodes : List Bodied) (n : ℕ) (rs : List Bodied)
    → loose_from plans order nodes n rs ≡ None → AllByRecursion (HasNone plans order (is_loose nodes)) rs
each-none plans order nodes n [] none = tt
each-none plans order nodes n (r ∷ rs) none =
    by (position (is_loose nodes) (links_of plans order r)) refl (each-none plans order nodes (n + 1) rs) none
  where
    by : (o : Option ℕ) → position (is_loose nodes) (links_of plans order r) ≡ o
        → (loose_from plans order nodes (n + 1) rs ≡ None → AllByRecursion (HasNone plans order (is_loose nodes)) rs)
        → option_map_or (λ k. Some (n, k)) o (loose_from plans order nodes (n + 1) rs) ≡ None
        → HasNone plans order (is_loose nodes) r × AllByRecursion (HasNone plans order (is_loose nodes)) rs
    by None is later none = (is, later none)
    by (Some k) is later none = absurd (none-some (n, k) (sym none))

none-each : (plans : Layouts) (order : Order) (nodes : List Bodied) (n : ℕ) (rs : List Bodied)
    → AllByRecursion (HasNone plans order (is_loose nodes)) rs → loose_from plans order nodes n rs ≡ None
none-each plans order nodes n [] all = refl
none-each plans order nodes n (r ∷ rs) all =
    ap (λ o. option_map_or (λ k. Some (n, k)) o (loose_from plans order nodes (n + 1) rs)) all.0
    ∙ none-each plans order nodes (n + 1) rs all.1

-- what is loose is told by the targets
loose-same : (old new : List Bodied) → ((link : Link) → target_of new link ≡ target_of old link)
    → is_loose old ≡ is_loose new
loose-same old new same = λ i link. not (link.class == 0) && is_none (sym (same link) i)

-- ---- one record

links_by-body : (order : Order) (fields : List Field) (values : List Value) (tail bytes : List ℕ) → AreSound 0 fields
    → IsBody order fields values tail bytes → links_by order fields bytes ≡ links_in values
links_by-body order fields values tail bytes sound body =
    ap (λ found. option_map_or (λ (x : List Value × List ℕ). links_in x.0) (result_ok found) [])
    (body_in-again order fields sound bytes values tail body)

links_of-body : (plans : Layouts) (order : Order) (r : Bodied) (fields : List Field) (values : List Value)
    (tail : List ℕ)
    → AreSound 0 fields → plan_of plans r.node.class ≡ Some fields → IsBody order fields values tail r.body
    → links_of plans order r ≡ links_in values
links_of-body plans order r fields values tail sound plan body =
    ap (λ o. option_map_or (λ fields. links_by order fields r.body) o []) plan
    ∙ links_by-body order fields values tail r.body sound body

-- links none of which is loose
abbrev pub AreTight : List Bodied → List Link → Type 0
AreTight nodes links = AllByRecursion (λ link. is_loose nodes link ≡ false) links

tight-changed : (plans : Layouts) (change : List Link → List Link) (s : Collected) (old new : Bodied)
    → IsChanged plans s.order change old new → IsSoundBy plans old → ReadsBy plans s.order old
    → ((links : List Link) → AreTight s.nodes links → AreTight s.nodes (change links))
    → HasNone plans s.order (is_loose s.nodes) old → HasNone plans s.order (is_loose s.nodes) new
tight-changed plans change s old new changed is_sound reads tight none = by reads.reads
  where
    sound : AreSound 0 reads.fields
    sound = subst (λ o. IfSome o (AreSound 0)) reads.plan is_sound

    by : HasBody s.order reads.fields old.body → HasNone plans s.order (is_loose s.nodes) new
    by (values, tail, body) =
        let before : links_of plans s.order old ≡ links_in values =
        links_of-body plans s.order old reads.fields values tail sound reads.plan body in
        let after : links_of plans s.order new ≡ change (links_in values) =
        links_of-body plans s.order new reads.fields (with_links values (change (links_in values))) tail sound
        (ap (λ (n : Node). plan_of plans n.class) changed.node ∙ reads.plan)
        (changed.reads reads.fields values tail reads.plan body)
        ∙ links-linked values (change (links_in values)) (changed.many (links_in values)) in
        let held = none-passes (is_loose s.nodes) (links_in values)
        (sym (ap (position (is_loose s.nodes)) before) ∙ none) in
        ap (position (is_loose s.nodes)) after
        ∙ position-never (is_loose s.nodes) (change (links_in values))
        (All-from_recursion (λ link. is_loose s.nodes link ≡ false) (change (links_in values))
        (tight (links_in values) held))

-- ---- the segment

-- the links of one record are changed
still-none : (plans : Layouts) (change : List Link → List Link) (s t : Collected) (n : ℕ)
    → IsChangedAt plans change n s t → All (ReadsBy plans s.order) s.nodes
    → IfSome (slice_get s.nodes n) (IsSoundBy plans)
    → ((links : List Link) → AreTight s.nodes links → AreTight s.nodes (change links))
    → first_loose plans s ≡ None → first_loose plans t ≡ None
still-none plans change s t n at reads is_sound tight none =
    let all = each-none plans s.order s.nodes 0 s.nodes none in
    let sound = subst (λ o. IfSome o (IsSoundBy plans)) at.found is_sound in
    let here = tight-changed plans change s at.before at.after at.changed sound
    (reads-at plans s n at.before reads at.found) tight
    (all-at (HasNone plans s.order (is_loose s.nodes)) s.nodes n at.before all at.found) in
    let after = all-set (HasNone plans s.order (is_loose s.nodes)) s.nodes n at.after all here in
    let same = nodes-set s.nodes n at.before at.after at.found at.changed.node in
    let loose = loose-same s.nodes (slice_set s.nodes n at.after)
    (λ link. targets-same s.nodes (slice_set s.nodes n at.after) link same) in
    ap (first_loose plans) at.whole
    ∙ none-each plans s.order (slice_set s.nodes n at.after) 0 (slice_set s.nodes n at.after)
    (subst (λ (loose : Link → Bool). AllByRecursion (HasNone plans s.order loose) (slice_set s.nodes n at.after)) loose
    after)

nulls-tight : (nodes : List Bodied) (links : List Link) → AreTight nodes (nulls links)
nulls-tight nodes [] = tt
nulls-tight nodes (l ∷ ls) = (refl, nulls-tight nodes ls)

pub none-kept : (plans : Layouts) (s t : Collected) (n field : ℕ) (link : Link) → All (ReadsBy plans s.order) s.nodes
    → IfSome (slice_get s.nodes n) (HasPlainLinkBy plans s.order field) → IfSome (slice_get s.nodes n) (IsSoundBy plans)
    → is_loose s.nodes link ≡ false
    → ((k : ℕ) → IfSome (slice_get s.nodes n) (IsNumberOf plans s.order field k) → KeepsLink plans n k link s t)
    → first_loose plans s ≡ None → first_loose plans t ≡ None
none-kept plans s t n field link reads plain sound tight keeps =
    let number = number-at plans s n field plain in
    still-none plans (kept number.0 link) s t n (kept-at plans n number.0 link s t (keeps number.0 number.1)) reads
    sound
    (λ links all. all-set (λ link. is_loose s.nodes link ≡ false) (nulls links) number.0 link
    (nulls-tight s.nodes links) tight)

pub none-set : (plans : Layouts) (s t : Collected) (n field : ℕ) → All (ReadsBy plans s.order) s.nodes
    → IfSome (slice_get s.nodes n) (HasPlainLinkBy plans s.order field) → IfSome (slice_get s.nodes n) (IsSoundBy plans)
    → ((k : ℕ) → IfSome (slice_get s.nodes n) (IsNumberOf plans s.order field k) → SetsLink plans n k null_link s t)
    → first_loose plans s ≡ None → first_loose plans t ≡ None
none-set plans s t n field reads plain sound sets =
    let number = number-at plans s n field plain in
    still-none plans (ended number.0) s t n (ended-at plans n number.0 s t (sets number.0 number.1)) reads sound
    (λ links all. all-set (λ link. is_loose s.nodes link ≡ false) links number.0 null_link all refl)

-- static data that are no roots any more
all-without : (plans : Layouts) (order : Order) (loose : Link → Bool) (rs : List Bodied)
    → AllByRecursion (HasNone plans order loose) rs → AllByRecursion (HasNone plans order loose) (map without_stat rs)
all-without plans order loose [] all = tt
all-without plans order loose (r ∷ rs) all = (all.0, all-without plans order loose rs all.1)

pub none-without : (plans : Layouts) (s t : Collected) → t ≡ record s { nodes = map without_stat s.nodes }
    → first_loose plans s ≡ None → first_loose plans t ≡ None
none-without plans s t whole none =
    let after = all-without plans s.order (is_loose s.nodes) s.nodes (each-none plans s.order s.nodes 0 s.nodes none) in
    let loose = loose-same s.nodes (map without_stat s.nodes)
    (λ link. target-kept s.nodes (map without_stat s.nodes) link (without-links s.nodes)) in
    ap (first_loose plans) whole
    ∙ none-each plans s.order (map without_stat s.nodes) 0 (map without_stat s.nodes)
    (subst (λ (loose : Link → Bool). AllByRecursion (HasNone plans s.order loose) (map without_stat s.nodes)) loose
    after)

-- ---- the pair of a record

own-tight : (nodes : List Bodied) (n : ℕ) (r : Bodied) → slice_get nodes n ≡ Some r
    → is_loose nodes (own_link r) ≡ false
own-tight nodes n r at = by (r.node.class == 0)
  where
    named : is_named (own_link r) r.node ≡ true
    named =
        λ i. eq-eqb r.node.class r.node.class refl i && eq-eqb r.node.instance r.node.instance refl i

    there : (o : Option ℕ) → place_of nodes (own_link r) ≡ o → is_none o ≡ false
    there None none =
        absurd (true≢false (sym named ∙ all-at (λ (r' : Bodied). is_named (own_link r) r'.node ≡ false) nodes n r
        (none-passes (λ (r' : Bodied). is_named (own_link r) r'.node) nodes none) at))
    there (Some m) found = refl

    by : (b : Bool) → (not b && is_none (cond b None (place_of nodes (own_link r)))) ≡ false
    by true = refl
    by false = there (place_of nodes (own_link r)) refl

-- is not loose
pub pair-tight : (s : Collected) (to class : ℕ) (node : Node)
    → option_map node_of (slice_get s.nodes to) ≡ Some node → class ≡ node.class
    → is_loose s.nodes (record { class = class; instance = node.instance }) ≡ false
pair-tight s to class node is same = by (slice_get s.nodes to) refl is
  where
    by : (o : Option Bodied) → slice_get s.nodes to ≡ o → option_map node_of o ≡ Some node
        → is_loose s.nodes (record { class = class; instance = node.instance }) ≡ false
    by None at is = absurd (none-some node is)
    by (Some r) at is =
        let node_is : r.node ≡ node = same_Some r.node node is in
        ap (λ c. is_loose s.nodes (record { class = c; instance = node.instance })) same
        ∙ ap (λ (n : Node). is_loose s.nodes (record { class = n.class; instance = n.instance })) (sym node_is)
        ∙ own-tight s.nodes to r at
