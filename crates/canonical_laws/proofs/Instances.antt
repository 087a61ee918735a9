-- The class and instance of a record tell it from the others of its frame: a link leads back to its record.
use Rattle.std.proofs.Common.{◌≡◌, ℕ, zero, suc, ◌+◌, ◌<◌, ◌≤◌, Bool, true, false, cond, not, eqb, ◌⊎◌, inl, inr, Some}
use Rattle.std.proofs.Common.{List}
use Rattle.std.proofs.Common.{[], ◌∷◌, length, take, get_or, count_by, position, sym, ap, ◌∙◌, subst, arith, take-take}
use Rattle.std.specs.List.{position_or_len, prefix_len}
use Rattle.std.proofs.lemmas.Bool.{cond-true, lt-ltb, eq-eqb, eqb-true, ne_eqb, and_left, and_right, and_from}
use Rattle.std.proofs.lemmas.Bool.{cases_Bool}
use Rattle.std.proofs.lemmas.List.Sums.{count_by_more_yes, sum_by-take-le}
use Rattle.link_graph.specs.declared.nodes.Root.TheVariants.{No}
use Rattle.link_graph.specs.declared.nodes.Node.{Node}
use Rattle.link_graph.specs.Collected.{Bodied, is_named, place_of}
use Rattle.frame_content.specs.Frames.{Frame, no_row, row_at}
use Rattle.canonical_file.specs.Ordered.{class_at, is_of_class, instance_at, new_link}

-- ---- places

-- the first place where a test passes
place-first : {X : Type 0} (p : X → Bool) (xs : List X) (k : ℕ) (d : X) → k < length xs → p (get_or xs k d) ≡ true
    → ((j : ℕ) → j < k → p (get_or xs j d) ≡ false) → position_or_len p xs ≡ k
place-first p [] k d within here before = absurd (omega arith)
place-first p (x ∷ xs) zero d within here before =
    ap (λ b. cond (not b) (1 + prefix_len (λ y. not (p y)) xs) 0) here
place-first p (x ∷ xs) (suc k) d within here before =
    ap (λ b. cond (not b) (1 + prefix_len (λ y. not (p y)) xs) 0) (before 0 (omega arith))
    ∙ ap (λ n. 1 + n) (place-first p xs k d (omega arith) here (λ j less. before (suc j) (omega arith)))
    ∙ (omega arith)

pub position-first : {X : Type 0} (p : X → Bool) (xs : List X) (k : ℕ) (d : X) → k < length xs
    → p (get_or xs k d) ≡ true → ((j : ℕ) → j < k → p (get_or xs j d) ≡ false) → position p xs ≡ Some k
position-first p xs k d within here before =
    let first = place-first p xs k d within here before in
    cond-true _ _ _ (lt-ltb (position_or_len p xs) (length xs) (subst (λ n. n < length xs) (sym first) within))
    ∙ ap Some first

-- ---- instances

-- one more that passes stands before a later place
count_before : {X : Type 0} (p : X → Bool) (xs : List X) (j k : ℕ) (d : X) → j < k → k ≤ length xs
    → p (get_or xs j d) ≡ true → count_by p (take j xs) < count_by p (take k xs)
count_before p xs j k d less within here =
    let one : count_by p (take (j + 1) xs) ≡ count_by p (take j xs) + 1 =
    count_by_more_yes p xs j d (omega arith) here in
    let front : take (j + 1) (take k xs) ≡ take (j + 1) xs = take-take (j + 1) k xs (omega arith) in
    let more : count_by p (take (j + 1) (take k xs)) ≤ count_by p (take k xs) =
    sum_by-take-le (λ x. cond (p x) 1 0) (take k xs) (j + 1) in
    let same : count_by p (take (j + 1) (take k xs)) ≡ count_by p (take (j + 1) xs) = ap (count_by p) front in
    omega (arith, one, more, same)

-- an earlier record of the same class has a lesser instance
pub instance-less : (f : Frame) (j k : ℕ) → j < k → k < length f.rows → class_at f j ≡ class_at f k
    → instance_at f j < instance_at f k
instance-less f j k less within same =
    let here : is_of_class (class_at f k) (row_at f j) ≡ true = eq-eqb (class_at f j) (class_at f k) same in
    subst (λ class. count_by (is_of_class class) (take j f.rows) < instance_at f k) (sym same)
    (count_before (is_of_class (class_at f k)) f.rows j k no_row less (omega arith) here)

-- ---- targets

-- what stands for a record past the last one
abbrev pub no_node : Bodied
no_node = record { node = record { at = 0; class = 0; instance = 0; root = No }; body = [] }

-- the records have the classes and instances of the rows
pub record AreAs (f : Frame) (nodes : List Bodied) : Type 0 where
  pub size : length nodes ≡ length f.rows
  pub class : (k : ℕ) → k < length f.rows → (get_or nodes k no_node).node.class ≡ class_at f k
  pub instance : (k : ℕ) → k < length f.rows → (get_or nodes k no_node).node.instance ≡ instance_at f k

-- So the link to a row leads to its record.
pub target-found : (f : Frame) (nodes : List Bodied) (k : ℕ) → AreAs f nodes → k < length f.rows
    → place_of nodes (new_link f (Some k)) ≡ Some k
target-found f nodes k are within =
    position-first (λ r. is_named (new_link f (Some k)) r.node) nodes k no_node (omega (arith, are.size))
    (and_from (eqb (at k).class (class_at f k)) (eqb (at k).instance (instance_at f k))
    (eq-eqb (at k).class (class_at f k) (are.class k within))
    (eq-eqb (at k).instance (instance_at f k) (are.instance k within)))
    apart
  where
    at : ℕ → Node
    at j = (get_or nodes j no_node).node

    apart : (j : ℕ) → j < k → is_named (new_link f (Some k)) (get_or nodes j no_node).node ≡ false
    apart j less = by (cases_Bool (eqb (get_or nodes j no_node).node.class (class_at f k)))
      where
        one : Node
        one = (get_or nodes j no_node).node

        by : (eqb (get_or nodes j no_node).node.class (class_at f k) ≡ true)
            ⊎ (eqb (get_or nodes j no_node).node.class (class_at f k) ≡ false)
            → is_named (new_link f (Some k)) (get_or nodes j no_node).node ≡ false
        by (inr differ) = and_left (eqb one.class (class_at f k)) (eqb one.instance (instance_at f k)) differ
        by (inl is) =
            let before : j < length f.rows = omega arith in
            let same : class_at f j ≡ class_at f k = sym (are.class j before) ∙ eqb-true one.class (class_at f k) is in
            let lesser = instance-less f j k less within same in
            and_right (eqb one.class (class_at f k)) (eqb one.instance (instance_at f k))
            (ne_eqb one.instance (instance_at f k) (λ e. omega (arith, lesser, e, are.instance j before)))
