-- Two graphs are equal exactly where their orders look the same, by a matching each way.
use Rattle.std.proofs.Common.{◌≡◌, ℕ, true, ◌↔◌, Option, Some, None, List, [], get_or, map, refl, sym, ap, ◌∙◌, subst}
use Rattle.std.specs.Prelude.{slice_get}
use Rattle.std.specs.Option.{option_map}
use Rattle.std.specs.List.{AllZip}
use Rattle.std.proofs.lemmas.List.{get_or-map}
use Rattle.std.proofs.lemmas.List.Elements.{length_all_zip}
use Rattle.std.proofs.lemmas.Option.{slice_get-map, same_Some}
use Rattle.rooted_graph.specs.Rooted.{Rooted, Path, Node, links_of, end_of_root, end_of_link, follow, end_of, EndsIn}
use Rattle.rooted_graph.specs.Rooted.{Meet}
use Rattle.rooted_graph.specs.SameGraph.{Labelled, AlikeEnds, EqualLabels, SameGraph}
use Rattle.rooted_graph.specs.BreadthOrder.{has, number_of, IsBreadthOrder}
use Rattle.rooted_graph.specs.Looks.{numbered_links, LooksSame}
use Rattle.rooted_graph.proofs.Firsts.{has_at}
use Rattle.rooted_graph.proofs.Places.{number_has, number_at}
use Rattle.rooted_graph.proofs.Reached.{step_path, end_of-step_path, has_root, has_linked}
use Rattle.rooted_graph.proofs.Zips.{Both, zip_from_places, map_zip}
use Rattle.rooted_graph.proofs.Matchings.{IsMatching, alike_paths, number_zip, orders_zip}
use Rattle.rooted_graph.proofs.Ends.{alike_weaker, alike_to_node, alike_sym}

-- A matching whose nodes have equal labels makes the graphs equal.
pub same_from_matching : {L : Type 0} (f g : Labelled L) (R : ℕ → ℕ → Type 0) → IsMatching f.graph g.graph R
    → ((n m : ℕ) → R n m → EqualLabels f g n m) → f.end_label ≡ g.end_label → SameGraph f g
same_from_matching f g R matching labels end_labels =
    record { ends = ends; meet = λ p q. (there p q, back p q); end_labels = end_labels }
  where
    alike : (p : Path) → AlikeEnds R (end_of f.graph p) (end_of g.graph p)
    alike p = alike_paths f.graph g.graph R matching p

    ends : (p : Path) → AlikeEnds (EqualLabels f g) (end_of f.graph p) (end_of g.graph p)
    ends p = alike_weaker R (EqualLabels f g) labels (end_of f.graph p) (end_of g.graph p) (alike p)

    to : (p : Path) (n : ℕ) → EndsIn f.graph p n → (m : ℕ) × (end_of g.graph p ≡ Node m) × R n m
    to p n e = alike_to_node R n (end_of g.graph p) (subst (λ end. AlikeEnds R end (end_of g.graph p)) e (alike p))

    from : (p : Path) (m : ℕ) → EndsIn g.graph p m → (n : ℕ) × (end_of f.graph p ≡ Node n) × R n m
    from p m e = alike_to_node (λ a b. R b a) m (end_of f.graph p)
        (subst (λ end. AlikeEnds (λ a b. R b a) end (end_of f.graph p)) e
        (alike_sym R (λ a b. R b a) (λ a b r. r) (end_of f.graph p) (end_of g.graph p) (alike p)))

    there : (p q : Path) → Meet f.graph p q → Meet g.graph p q
    there p q m =
        let a = to p m.0 m.1 in
        let b = to q m.0 m.2 in
        (a.0, a.1, b.1 ∙ ap Node (sym (matching.one_right m.0 a.0 b.0 a.2 b.2)))

    back : (p q : Path) → Meet g.graph p q → Meet f.graph p q
    back p q m =
        let a = from p m.0 m.1 in
        let b = from q m.0 m.2 in
        (a.0, a.1, b.1 ∙ ap Node (sym (matching.one_left a.0 b.0 m.0 a.2 b.2)))

-- A matching whose nodes have equal labels makes orders that match look the same.
looks_from_matching : {L : Type 0} (f g : Labelled L) (R : ℕ → ℕ → Type 0) → IsMatching f.graph g.graph R
    → ((n m : ℕ) → R n m → EqualLabels f g n m) → f.end_label ≡ g.end_label → (s t : List ℕ) → AllZip R s t
    → LooksSame f g s t
looks_from_matching f g R matching labels end_labels s t z =
    record {
      as_long = length_all_zip R s t z;
      roots = map_zip R (number_of s) (number_of t) numbers f.graph.roots g.graph.roots matching.roots;
      labels = map_zip R f.label g.label labels s t z;
      links = map_zip R (numbered_links f.graph s) (numbered_links g.graph t)
          (λ n m r. map_zip (Both R) (option_map (number_of s)) (option_map (number_of t)) link (links_of f.graph n)
          (links_of g.graph m) (matching.links n m r)) s t z;
      end_labels = end_labels;
    }
  where
    numbers : (n m : ℕ) → R n m → number_of s n ≡ number_of t m
    numbers = number_zip f.graph g.graph R matching s t z

    link : (o o' : Option ℕ) → Both R o o' → option_map (number_of s) o ≡ option_map (number_of t) o'
    link None None b = refl
    link None (Some m) b = absurd b
    link (Some n) None b = absurd b
    link (Some n) (Some m) b = ap Some (numbers n m b)

-- some path ends in n in the first graph and in m in the second
abbrev OnePath : Rooted → Rooted → ℕ → ℕ → Type 0
OnePath f g n m = (p : Path) × EndsIn f p n × EndsIn g p m

-- In equal graphs the ends of the paths match.
module _ {L : Type 0} (f g : Labelled L) (same : SameGraph f g) where
  root_pair : (k : ℕ) (o o' : Option ℕ) → slice_get f.graph.roots k ≡ o → slice_get g.graph.roots k ≡ o'
      → AlikeEnds (EqualLabels f g) (end_of_root o) (end_of_root o') → Both (OnePath f.graph g.graph) o o'
  root_pair k None None e e' a = tt
  root_pair k None (Some m) e e' a = absurd a
  root_pair k (Some n) None e e' a = absurd a
  root_pair k (Some n) (Some m) e e' a = (record { root = k; steps = [] }, ap end_of_root e, ap end_of_root e')

  link_pair : (p : Path) (o o' : Option (Option ℕ)) → end_of f.graph p ≡ end_of_link o
      → end_of g.graph p ≡ end_of_link o' → AlikeEnds (EqualLabels f g) (end_of_link o) (end_of_link o')
      → Both (Both (OnePath f.graph g.graph)) o o'
  link_pair p None None e e' a = tt
  link_pair p None (Some None) e e' a = absurd a
  link_pair p None (Some (Some m)) e e' a = absurd a
  link_pair p (Some None) None e e' a = absurd a
  link_pair p (Some (Some n)) None e e' a = absurd a
  link_pair p (Some None) (Some None) e e' a = tt
  link_pair p (Some None) (Some (Some m)) e e' a = absurd a
  link_pair p (Some (Some n)) (Some None) e e' a = absurd a
  link_pair p (Some (Some n)) (Some (Some m)) e e' a = (p, e, e')

  links_pair : (n m : ℕ) → OnePath f.graph g.graph n m → (k : ℕ)
      → Both (Both (OnePath f.graph g.graph)) (slice_get (links_of f.graph n) k) (slice_get (links_of g.graph m) k)
  links_pair n m r k =
      let p : Path = step_path r.0 k in
      let here : end_of f.graph p ≡ end_of_link (slice_get (links_of f.graph n) k) = end_of-step_path f.graph r.0 k
      ∙ ap (λ end. follow f.graph end k) r.1 in
      let there : end_of g.graph p ≡ end_of_link (slice_get (links_of g.graph m) k) = end_of-step_path g.graph r.0 k
      ∙ ap (λ end. follow g.graph end k) r.2 in
      link_pair p (slice_get (links_of f.graph n) k) (slice_get (links_of g.graph m) k) here there
      (subst (AlikeEnds (EqualLabels f g) (end_of_link (slice_get (links_of f.graph n) k))) there
      (subst (λ end. AlikeEnds (EqualLabels f g) end (end_of g.graph p)) here (same.ends p)))

  one_right : (n m m' : ℕ) → OnePath f.graph g.graph n m → OnePath f.graph g.graph n m' → m ≡ m'
  one_right n m m' r r' =
      let met = (same.meet r.0 r'.0).0 (n, r.1, r'.1) in
      let first : Node m ≡ Node met.0 = sym r.2 ∙ met.1 in
      let second : Node m' ≡ Node met.0 = sym r'.2 ∙ met.2 in
      cc

  one_left : (n n' m : ℕ) → OnePath f.graph g.graph n m → OnePath f.graph g.graph n' m → n ≡ n'
  one_left n n' m r r' =
      let met = (same.meet r.0 r'.0).1 (m, r.2, r'.2) in
      let first : Node n ≡ Node met.0 = sym r.1 ∙ met.1 in
      let second : Node n' ≡ Node met.0 = sym r'.1 ∙ met.2 in
      cc

  equal_matching : IsMatching f.graph g.graph (OnePath f.graph g.graph)
  equal_matching =
      record {
        one_right = one_right;
        one_left = one_left;
        roots = zip_from_places (OnePath f.graph g.graph) f.graph.roots g.graph.roots
            (λ k. root_pair k (slice_get f.graph.roots k) (slice_get g.graph.roots k) refl refl
            (same.ends (record { root = k; steps = [] })));
        links = λ n m r. zip_from_places (Both (OnePath f.graph g.graph)) (links_of f.graph n) (links_of g.graph m)
            (links_pair n m r);
      }

  equal_labels : (n m : ℕ) → OnePath f.graph g.graph n m → EqualLabels f g n m
  equal_labels n m r =
      subst (AlikeEnds (EqualLabels f g) (Node n)) r.2
      (subst (λ end. AlikeEnds (EqualLabels f g) end (end_of g.graph r.0)) r.1 (same.ends r.0))

  looks_from_same : (s t : List ℕ) → IsBreadthOrder f.graph s → IsBreadthOrder g.graph t → LooksSame f g s t
  looks_from_same s t o o' =
      looks_from_matching f g (OnePath f.graph g.graph) equal_matching equal_labels same.end_labels s t
      (orders_zip f.graph g.graph (OnePath f.graph g.graph) equal_matching s t o o')

-- n and m have one number in the two orders
abbrev OneNumber : List ℕ → List ℕ → ℕ → ℕ → Type 0
OneNumber s t n m = (k : ℕ) × (number_of s n ≡ Some k) × (number_of t m ≡ Some k)

-- In orders that look the same the nodes of one number match.
module _ {L : Type 0} (f g : Labelled L) (s t : List ℕ) (o : IsBreadthOrder f.graph s) (o' : IsBreadthOrder g.graph t)
    (looks : LooksSame f g s t) where
  number_right : (n m m' : ℕ) → OneNumber s t n m → OneNumber s t n m' → m ≡ m'
  number_right n m m' r r' =
      let here = number_at t m r.0 r.2 in
      let there = number_at t m' r'.0 r'.2 in
      let same : r.0 ≡ r'.0 = same_Some r.0 r'.0 (sym r.1 ∙ r'.1) in
      sym here.1 ∙ ap (λ k. get_or t k 0) same ∙ there.1

  number_left : (n n' m : ℕ) → OneNumber s t n m → OneNumber s t n' m → n ≡ n'
  number_left n n' m r r' =
      let here = number_at s n r.0 r.1 in
      let there = number_at s n' r'.0 r'.1 in
      let same : r.0 ≡ r'.0 = same_Some r.0 r'.0 (sym r.2 ∙ r'.2) in
      sym here.1 ∙ ap (λ k. get_or s k 0) same ∙ there.1

  -- what the orders show alike at each place is alike for nodes of one number
  same_shown : {Z : Type 0} (h : ℕ → Z) (h' : ℕ → Z) → map h s ≡ map h' t → (n m : ℕ) → OneNumber s t n m → h n ≡ h' m
  same_shown h h' e n m r =
      let here = number_at s n r.0 r.1 in
      let there = number_at t m r.0 r.2 in
      ap h (sym here.1) ∙ sym (get_or-map h s r.0 0 (h n) here.0) ∙ ap (λ zs. get_or zs r.0 (h n)) e
      ∙ get_or-map h' t r.0 0 (h n) there.0 ∙ ap h' there.1

  one_number : (n m : ℕ) → has s n ≡ true → number_of s n ≡ number_of t m → OneNumber s t n m
  one_number n m h e = let found = number_has s n h in (found.0, found.1, sym e ∙ found.1)

  numbered_root : (k : ℕ) (a b : Option ℕ) → slice_get f.graph.roots k ≡ a
      → option_map (number_of s) a ≡ option_map (number_of t) b → Both (OneNumber s t) a b
  numbered_root k None None e h = tt
  numbered_root k None (Some m) e h = absurd (cc)
  numbered_root k (Some n) None e h = absurd (cc)
  numbered_root k (Some n) (Some m) e h =
      one_number n m (has_root f.graph s o k n e) (same_Some (number_of s n) (number_of t m) h)

  numbered_link : (n : ℕ) → has s n ≡ true → (k : ℕ) (a b : Option (Option ℕ)) → slice_get (links_of f.graph n) k ≡ a
      → option_map (option_map (number_of s)) a ≡ option_map (option_map (number_of t)) b
      → Both (Both (OneNumber s t)) a b
  numbered_link n member k None None e h = tt
  numbered_link n member k None (Some link) e h = absurd (cc)
  numbered_link n member k (Some link) None e h = absurd (cc)
  numbered_link n member k (Some None) (Some None) e h = tt
  numbered_link n member k (Some None) (Some (Some m)) e h = absurd (cc)
  numbered_link n member k (Some (Some x)) (Some None) e h = absurd (cc)
  numbered_link n member k (Some (Some x)) (Some (Some m)) e h =
      one_number x m (has_linked f.graph s o n k x member e) (cc)

  roots_at : (k : ℕ) → Both (OneNumber s t) (slice_get f.graph.roots k) (slice_get g.graph.roots k)
  roots_at k =
      numbered_root k (slice_get f.graph.roots k) (slice_get g.graph.roots k) refl
      (sym (slice_get-map (number_of s) f.graph.roots k) ∙ ap (λ xs. slice_get xs k) looks.roots
      ∙ slice_get-map (number_of t) g.graph.roots k)

  links_at : (n m : ℕ) → OneNumber s t n m → (k : ℕ)
      → Both (Both (OneNumber s t)) (slice_get (links_of f.graph n) k) (slice_get (links_of g.graph m) k)
  links_at n m r k =
      let member : has s n ≡ true = member_from_number n r.0 r.1 in
      numbered_link n member k (slice_get (links_of f.graph n) k) (slice_get (links_of g.graph m) k) refl
      (sym (slice_get-map (option_map (number_of s)) (links_of f.graph n) k)
      ∙ ap (λ xs. slice_get xs k) (same_shown (numbered_links f.graph s) (numbered_links g.graph t) looks.links n m r)
      ∙ slice_get-map (option_map (number_of t)) (links_of g.graph m) k)
    where
      member_from_number : (x k : ℕ) → number_of s x ≡ Some k → has s x ≡ true
      member_from_number x k e = let here = number_at s x k e in ap (has s) (sym here.1) ∙ has_at s k 0 here.0

  number_matching : IsMatching f.graph g.graph (OneNumber s t)
  number_matching =
      record {
        one_right = number_right;
        one_left = number_left;
        roots = zip_from_places (OneNumber s t) f.graph.roots g.graph.roots roots_at;
        links = λ n m r. zip_from_places (Both (OneNumber s t)) (links_of f.graph n) (links_of g.graph m)
            (links_at n m r);
      }

  same_from_looks : SameGraph f g
  same_from_looks = same_from_matching f g (OneNumber s t) number_matching (same_shown f.label g.label looks.labels)
      looks.end_labels

pub same_where_looks_same : {L : Type 0} (f g : Labelled L) (s t : List ℕ) → IsBreadthOrder f.graph s
    → IsBreadthOrder g.graph t → SameGraph f g ↔ LooksSame f g s t
same_where_looks_same f g s t o o' =
    (λ same. looks_from_same f g same s t o o', λ looks. same_from_looks f g s t o o' looks)
