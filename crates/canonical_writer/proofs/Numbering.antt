-- The links of records that are numbered in an order, class by class.
use Rattle.std.proofs.Common.{◌≡◌, ℕ, ◌+◌, ◌<◌, ◌≤◌, ◌⊎◌, inl, inr, Bool, true, false, cond, Option, Some, None, List}
use Rattle.std.proofs.Common.{[], ◌∷◌, ◌++◌, length, get_or, take, set, refl, sym, ap, ◌∙◌, subst, arith}
use Rattle.std.proofs.Math.ListN.{replicate}
use Rattle.std.specs.Prelude.{◌==◌, count_by, slice_get}
use Rattle.std.specs.Option.{option_map, option_map_or}
use Rattle.std.proofs.lemmas.Bool.{cases_eq, eq-eqb, ne_eqb}
use Rattle.std.proofs.lemmas.Bool.Decides.{Decides-eqb}
use Rattle.std.proofs.lemmas.List.{take_at, take-append-le, take_more, take_all, get_or-take, get_or-replicate}
use Rattle.std.proofs.lemmas.List.{get_or-set_same, get_or-set_other, length-take}
use Rattle.std.proofs.lemmas.List.{get_or-map}
use Rattle.std.proofs.lemmas.Option.{slice_get-get_or}
use Rattle.std.proofs.lemmas.List.FromFn.{fill_by_all}
use Rattle.std.proofs.lemmas.List.Sums.{sum_by_push, count_by-le-length}
use Rattle.std.proofs.lemmas.Map.Made.{IsDistinct-from_AllPairs}
use Rattle.std.proofs.lemmas.Map.Steps.{length-le_from_distinct_below}
use Rattle.type_text.specs.declared.types.Link.{Link}
use Rattle.rooted_graph.specs.BreadthOrder.{has, number_of}
use Rattle.rooted_graph.proofs.Places.{number_has, number_at, number_push_same, number_push_other}
use Rattle.link_graph.specs.declared.nodes.Node.{Node}
use Rattle.link_graph.specs.Collected.{Bodied}
use Rattle.link_graph.proofs.Found.{Some-same}
use Rattle.frame_content.specs.Labels.{null_link}
use Rattle.canonical_writer.specs.NewLinks.{classes_of, class_at, link_after, link_in_order, IsOrder}
use Rattle.canonical_writer.specs.NewLinks.{AreNewLinks}

-- ---- an order

-- a record of an order does not stand before itself
new_in : (classes order : List ℕ) (i : ℕ) → IsOrder classes order → i < length order
    → has (take i order) (get_or order i 0) ≡ false
new_in classes order i is within = by (has (take i order) (get_or order i 0)) refl
  where
    apart : (k : ℕ) × (number_of (take i order) (get_or order i 0) ≡ Some k) → ⊥
    apart (k, number) =
        let there = number_at (take i order) (get_or order i 0) k number in
        let before : k < i = omega (arith, there.0, length-take i order) in
        is.distinct k i 0 before within (sym (get_or-take i order k 0 before) ∙ there.1)

    by : (b : Bool) → has (take i order) (get_or order i 0) ≡ b → b ≡ false
    by true there = absurd (apart (number_has (take i order) (get_or order i 0) there))
    by false none = refl

-- the numbers are no more than the records
order-few : (classes order : List ℕ) → IsOrder classes order → length order ≤ length classes
order-few classes order is =
    length-le_from_distinct_below order (length classes) (IsDistinct-from_AllPairs Decides-eqb order is.distinct)
    (λ q there. below q (number_has order q there))
  where
    below : (q : ℕ) → (k : ℕ) × (number_of order q ≡ Some k) → q < length classes
    below q (k, number) =
        let there = number_at order q k number in
        subst (λ n. n < length classes) there.1 (is.within k 0 there.0)

-- ---- one more record

link-same : (classes before : List ℕ) (node : ℕ) → has before node ≡ false
    → link_in_order classes (before ++ node ∷ []) node ≡ link_after classes before node
link-same classes before node new =
    let order : List ℕ = before ++ node ∷ [] in
    ap (λ o. option_map_or (λ k. link_after classes (take k order) node) o null_link)
    (number_push_same before node new)
    ∙ ap (λ ns. link_after classes ns node) (take_at before (node ∷ []) (length before) refl)

link-other : (classes before : List ℕ) (node n : ℕ) → (n ≡ node → ⊥)
    → link_in_order classes (before ++ node ∷ []) n ≡ link_in_order classes before n
link-other classes before node n differ =
    ap (λ o. option_map_or (λ k. link_after classes (take k (before ++ node ∷ [])) n) o null_link)
    (number_push_other before node n differ)
    ∙ by (number_of before n) refl
  where
    by : (o : Option ℕ) → number_of before n ≡ o
        → option_map_or (λ k. link_after classes (take k (before ++ node ∷ [])) n) o null_link
        ≡ option_map_or (λ k. link_after classes (take k before) n) o null_link
    by None is = refl
    by (Some k) is =
        let within = (number_at before n k is).0 in
        ap (λ ns. link_after classes ns n) (take-append-le k before (node ∷ []) (omega arith))

-- ---- the links and the counts so far

-- the links to the records that stand before, and how many of each class do
pub record IsNumbered (classes before : List ℕ) (links : List Link) (counts : List ℕ) : Type 0 where
  pub links_are : (n : ℕ) → n < length classes → get_or links n null_link ≡ link_in_order classes before n
  pub counts_are : (class : ℕ) → class < 256 → get_or counts class 0
      ≡ count_by (λ m. class_at classes m == class) before

pub numbered-none : (classes : List ℕ) (links : List Link) (counts : List ℕ) (n : ℕ) → n ≡ length classes
    → links ≡ replicate n null_link → counts ≡ replicate 256 0 → IsNumbered classes [] links counts
numbered-none classes links counts n count are none = record {
  links_are = λ k within. ap (λ (ls : List Link). get_or ls k null_link) are
      ∙ get_or-replicate n k null_link null_link (omega arith);
  counts_are = λ class below. ap (λ ns. get_or ns class 0) none ∙ get_or-replicate 256 class 0 0 below;
}

-- what stands at a place after one of the records was numbered
pub record IsNext (classes order : List ℕ) (links : List Link) (counts : List ℕ) (i node wide class instance more : ℕ)
    : Type 0 where
  pub is_order : IsOrder classes order
  pub within : i < length order
  pub node_is : node ≡ get_or order i 0
  pub wide_is : wide ≡ class
  pub class_is : class ≡ class_at classes node
  pub small : class < 256
  pub instance_is : instance ≡ get_or counts class 0
  pub more_is : more ≡ instance + 1
  pub all : length links ≡ length classes
  pub table : length counts ≡ 256

pub numbered-more : (classes order : List ℕ) (links : List Link) (counts : List ℕ)
    (i node wide class instance more : ℕ)
    → IsNext classes order links counts i node wide class instance more
    → IsNumbered classes (take i order) links counts
    → IsNumbered classes (take (i + 1) order) (set links node (record { class = wide; instance = instance }))
    (set counts class more)
numbered-more classes order links counts i node wide class instance more next before =
    subst (λ ns. IsNumbered classes ns (set links node link) (set counts class more)) (sym taken) (record {
      links_are = λ n within. links_by n within (cases_eq n node);
      counts_are = λ k below. counts_by k below (cases_eq k class);
    })
  where
    link : Link
    link = record { class = wide; instance = instance }

    taken : take (i + 1) order ≡ take i order ++ node ∷ []
    taken =
        take_more order i 0 next.within ∙ ap (λ n. take i order ++ n ∷ []) (sym next.node_is)

    new : has (take i order) node ≡ false
    new =
        ap (has (take i order)) next.node_is ∙ new_in classes order i next.is_order next.within

    here : node < length classes
    here =
        subst (λ n. n < length classes) (sym next.node_is) (next.is_order.within i 0 next.within)

    count : instance ≡ count_by (λ m. class_at classes m == class) (take i order)
    count = next.instance_is ∙ before.counts_are class next.small

    link_is : link ≡ link_after classes (take i order) node
    link_is = λ j. record {
      class = (next.wide_is ∙ next.class_is) j;
      instance = (count ∙ ap (λ c. count_by (λ m. class_at classes m == c) (take i order)) next.class_is) j;
    }

    links_by : (n : ℕ) → n < length classes → (n ≡ node) ⊎ (n ≡ node → ⊥)
        → get_or (set links node link) n null_link ≡ link_in_order classes (take i order ++ node ∷ []) n
    links_by n within (inl same) =
        subst (λ n. get_or (set links node link) n null_link ≡ link_in_order classes (take i order ++ node ∷ []) n)
        (sym same) (get_or-set_same links node link null_link (omega (arith, next.all, here)) ∙ link_is
        ∙ sym (link-same classes (take i order) node new))
    links_by n within (inr differ) =
        get_or-set_other links node n link null_link differ ∙ before.links_are n within
        ∙ sym (link-other classes (take i order) node n differ)

    counts_by : (k : ℕ) → k < 256 → (k ≡ class) ⊎ (k ≡ class → ⊥)
        → get_or (set counts class more) k 0 ≡ count_by (λ m. class_at classes m == k) (take i order ++ node ∷ [])
    counts_by k below (inl same) =
        let one : ◌≡◌ {A = ℕ} (cond (class_at classes node == class) 1 0) 1 =
        ap (λ b. cond b 1 0) (eq-eqb (class_at classes node) class (sym next.class_is)) in
        let all = sum_by_push (λ m. cond (class_at classes m == class) 1 0) (take i order) node in
        subst (λ k. get_or (set counts class more) k 0
        ≡ count_by (λ m. class_at classes m == k) (take i order ++ node ∷ [])) (sym same)
        (get_or-set_same counts class more 0 (omega (arith, next.table, next.small)) ∙ next.more_is
        ∙ (λ j. count j + sym one j) ∙ sym all)
    counts_by k below (inr differ) =
        let none : ◌≡◌ {A = ℕ} (cond (class_at classes node == k) 1 0) 0 =
        ap (λ b. cond b 1 0) (ne_eqb (class_at classes node) k (λ e. differ (sym e ∙ sym next.class_is))) in
        let all = sum_by_push (λ m. cond (class_at classes m == k) 1 0) (take i order) node in
        get_or-set_other counts class k more 0 differ ∙ before.counts_are k below ∙ omega (arith, all, none)

-- a count is below the number of records
pub count-few : (classes order : List ℕ) (links : List Link) (counts : List ℕ) (i class : ℕ) → IsOrder classes order
    → i < length order → class < 256 → IsNumbered classes (take i order) links counts
    → get_or counts class 0 < length classes
count-few classes order links counts i class is within below before =
    omega (
      arith,
      before.counts_are class below,
      count_by-le-length (λ m. class_at classes m == class) (take i order),
      length-take i order,
      order-few classes order is,
    )

-- all of them
pub numbered-all : (classes order : List ℕ) (links : List Link) (counts : List ℕ) (i : ℕ) → length order ≤ i
    → length links ≡ length classes → IsNumbered classes (take i order) links counts → AreNewLinks classes order links
numbered-all classes order links counts i past all numbered =
    fill_by_all (link_in_order classes order) links (length classes) null_link all
    (λ n within. numbered.links_are n within ∙ ap (λ ns. link_in_order classes ns n) (take_all i order past))

-- the class of the record of a number
pub class-found : (nodes : List Bodied) (n : ℕ) (node : Node) → n < length nodes
    → option_map (λ (r : Bodied). r.node) (slice_get nodes n) ≡ Some node → node.class ≡ class_at (classes_of nodes) n
class-found nodes n node within found =
    let none : Bodied = record { node = node; body = [] } in
    let same = Some-same (get_or nodes n none).node node
    (ap (option_map (λ (r : Bodied). r.node)) (sym (slice_get-get_or nodes n none within)) ∙ found) in
    ap (λ (n : Node). n.class) (sym same) ∙ sym (get_or-map (λ (r : Bodied). r.node.class) nodes n none 0 within)
