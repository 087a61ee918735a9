-- A table that has, by node, the number of the node in a list.
use Rattle.std.proofs.Common.{◌≡◌, ℕ, ◌+◌, ◌<◌, ◌≤◌, ◌⊎◌, inl, inr, true, false, cond, Option, Some, None, List, []}
use Rattle.std.proofs.Common.{◌∷◌, ◌++◌, length, get_or, set, is_some, refl, sym, ap, ◌∙◌, subst, arith}
use Rattle.std.specs.Prelude.{All, count_by}
use Rattle.std.proofs.lemmas.Bool.{cases_eq, cases_lt, cond-true, cond-false, false_from_ne_true}
use Rattle.std.proofs.lemmas.List.{get_or-set_same, get_or-set_other, get_or_past}
use Rattle.std.proofs.lemmas.List.Elements.{All-from_get_or}
use Rattle.std.proofs.lemmas.List.Sums.{sum_by-set}
use Rattle.rooted_graph.specs.BreadthOrder.{has, added, number_of}
use Rattle.rooted_graph.proofs.Firsts.{has_at}
use Rattle.rooted_graph.proofs.Places.{number_has, number_at, number_push_same, number_push_other}

-- by node, its number in the list
pub record IsTable (numbers : List (Option ℕ)) (nodes : List ℕ) : Type 0 where
  pub numbered : (n : ℕ) → get_or numbers n None ≡ number_of nodes n

-- a node with no number is not in the list
new_node : (numbers : List (Option ℕ)) (nodes : List ℕ) → IsTable numbers nodes → (n : ℕ)
    → is_some (get_or numbers n None) ≡ false → has nodes n ≡ false
new_node numbers nodes table n e =
    false_from_ne_true (has nodes n) (λ h. let found = number_has nodes n h in
    let clash : false ≡ true = sym e ∙ ap is_some (table.numbered n ∙ found.1) in cc)

pub added_new : (numbers : List (Option ℕ)) (nodes : List ℕ) → IsTable numbers nodes → (n : ℕ)
    → is_some (get_or numbers n None) ≡ false → added nodes n ≡ nodes ++ n ∷ []
added_new numbers nodes table n e = cond-false (has nodes n) nodes (nodes ++ n ∷ []) (new_node numbers nodes table n e)

-- and one with a number is
pub added_old : (numbers : List (Option ℕ)) (nodes : List ℕ) → IsTable numbers nodes → (n : ℕ)
    → is_some (get_or numbers n None) ≡ true → added nodes n ≡ nodes
added_old numbers nodes table n e = go (number_of nodes n) refl
  where
    go : (o : Option ℕ) → number_of nodes n ≡ o → added nodes n ≡ nodes
    go None none = let clash : is_some {T = ℕ} None ≡ true = ap is_some (sym none ∙ sym (table.numbered n))
        ∙ e in absurd (cc)
    go (Some k) some =
        let here = number_at nodes n k some in
        cond-true (has nodes n) nodes (nodes ++ n ∷ []) (ap (has nodes) (sym here.1) ∙ has_at nodes k 0 here.0)

-- a new node's number is the list's length
pub numbered_new : (numbers : List (Option ℕ)) (nodes : List ℕ) → IsTable numbers nodes → (n : ℕ) → n < length numbers
    → is_some (get_or numbers n None) ≡ false → IsTable (set numbers n (Some (length nodes))) (nodes ++ n ∷ [])
numbered_new numbers nodes table n within e = record { numbered = λ m. go m (cases_eq m n) }
  where
    go : (m : ℕ) → (m ≡ n) ⊎ (m ≡ n → ⊥)
        → get_or (set numbers n (Some (length nodes))) m None ≡ number_of (nodes ++ n ∷ []) m
    go m (inl same) =
        subst (λ i. get_or (set numbers n (Some (length nodes))) i None ≡ number_of (nodes ++ n ∷ []) i) (sym same)
        (get_or-set_same numbers n (Some (length nodes)) None within
        ∙ sym (number_push_same nodes n (new_node numbers nodes table n e)))
    go m (inr differ) =
        get_or-set_other numbers n m (Some (length nodes)) None differ ∙ table.numbered m
        ∙ sym (number_push_other nodes n m differ)

-- as many nodes have a number as stand in the list
pub counted_new : (numbers : List (Option ℕ)) (n k : ℕ) → n < length numbers → is_some (get_or numbers n None) ≡ false
    → count_by is_some (set numbers n (Some k)) ≡ count_by is_some numbers + 1
counted_new numbers n k within e =
    let f : Option ℕ → ℕ = λ o. cond (is_some o) 1 0 in
    let before : f (get_or numbers n None) ≡ 0 = ap (λ b. cond b 1 0) e in
    let more : count_by is_some (set numbers n (Some k)) + f (get_or numbers n None) ≡ count_by is_some numbers + 1 =
    sum_by-set f numbers n (Some k) None within in
    omega arith

-- each node in the list has a place in the table
pub member_within : (numbers : List (Option ℕ)) (nodes : List ℕ) → IsTable numbers nodes → (k : ℕ) → k < length nodes
    → get_or nodes k 0 < length numbers
member_within numbers nodes table k h = go (cases_lt x (length numbers)) (number_has nodes x (has_at nodes k 0 h))
  where
    x : ℕ
    x = get_or nodes k 0

    go : (x < length numbers) ⊎ (length numbers ≤ x) → (j : ℕ) × (number_of nodes x ≡ Some j) → x < length numbers
    go (inl w) found = w
    go (inr past) found =
        let clash : None ≡ Some found.0 = sym (get_or_past numbers x None past) ∙ table.numbered x ∙ found.1 in
        absurd (cc)

pub members_within : (numbers : List (Option ℕ)) (nodes : List ℕ) → IsTable numbers nodes
    → All (λ n. n < length numbers) nodes
members_within numbers nodes table =
    All-from_get_or (λ n. n < length numbers) nodes 0 (member_within numbers nodes table)
