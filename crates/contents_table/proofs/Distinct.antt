-- Names of which no two are the same, and the number of a name among others.
use Rattle.std.proofs.Common.{◌≡◌, ℕ, zero, suc, ◌<◌, ◌≤◌, Bool, true, false, cond, ◌&&◌, ◌||◌, List, [], ◌∷◌, ◌++◌}
use Rattle.std.proofs.Common.{length, get_or, position, Some, None, refl, sym, ap, ◌∙◌, arith}
use Rattle.std.specs.Prelude.{not, nat_lt}
use Rattle.std.specs.List.{position_or_len, list_any}
use Rattle.std.specs.Str.{bytes_eq}
use Rattle.std.specs.Cmp.Lexicographic.{nat_list_eq_equiv, bytes_decides}
use Rattle.std.proofs.lemmas.Bool.{and_parts, not-true, or_parts, lt-ltb}
use Rattle.std.proofs.lemmas.Bool.{ltb-false, cond-true}
use Rattle.std.proofs.lemmas.List.Folds.{list_any-append, list_any_none}
use Rattle.std.proofs.lemmas.List.Sums.{position_or_len_is, fails_before_first}
use Rattle.contents_table.specs.Built.{are_distinct}

-- no element passes a test that passes for none
pub none-passes : {X : Type 0} (test : X → Bool) (xs : List X) (k : ℕ) (d : X) → list_any test xs ≡ false →
    k < length xs → test (get_or xs k d) ≡ false
none-passes test [] k d none within = absurd (omega arith)
none-passes test (x ∷ xs) zero d none within = (or_parts (test x) (list_any test xs) none).0
none-passes test (x ∷ xs) (suc k) d none within =
    none-passes test xs k d (or_parts (test x) (list_any test xs) none).1 (omega arith)

-- no two names are the same
pub names-apart : (names : List (List ℕ)) (i j : ℕ) → are_distinct names ≡ true → i < j → j < length names →
    bytes_eq (get_or names i []) (get_or names j []) ≡ false
names-apart [] i j distinct before within = absurd (omega arith)
names-apart (name ∷ names) i zero distinct before within = absurd (omega arith)
names-apart (name ∷ names) zero (suc j) distinct before within =
    let parts = and_parts (not (list_any (bytes_eq name) names)) (are_distinct names) distinct in
    none-passes (bytes_eq name) names j [] (not-true (list_any (bytes_eq name) names) parts.0) (omega arith)
names-apart (name ∷ names) (suc i) (suc j) distinct before within =
    let parts = and_parts (not (list_any (bytes_eq name) names)) (are_distinct names) distinct in
    names-apart names i j parts.1 (omega arith) (omega arith)

-- the number of a name is that at which it stands
pub position-distinct : (names : List (List ℕ)) (name : List ℕ) (k : ℕ) → are_distinct names ≡ true →
    k < length names → get_or names k [] ≡ name → position (bytes_eq name) names ≡ Some k
position-distinct names name k distinct within is =
    let first : position_or_len (bytes_eq name) names ≡ k =
    position_or_len_is (bytes_eq name) names k [] (omega arith)
    (λ j below. nat_list_eq_equiv.symm name (get_or names j [])
    ∙ ap (bytes_eq (get_or names j [])) (sym is) ∙ names-apart names j k distinct below within)
    (λ _. (bytes_decides name (get_or names k [])).1 (sym is)) in
    ap (λ n. cond (nat_lt n (length names)) (Some n) None) first
    ∙ cond-true (nat_lt k (length names)) (Some k) None (lt-ltb k (length names) within)

-- what has no number is none of the names
pub position-None : {X : Type 0} (test : X → Bool) (xs : List X) (k : ℕ) (d : X) → position test xs ≡ None →
    k < length xs → test (get_or xs k d) ≡ false
position-None test xs k d none within =
    by (nat_lt (position_or_len test xs) (length xs)) (ltb-false (position_or_len test xs) (length xs)) none
  where
    by : (b : Bool) → (b ≡ false → length xs ≤ position_or_len test xs) →
        cond b (Some (position_or_len test xs)) None ≡ None → test (get_or xs k d) ≡ false
    by true past e = cc
    by false past e =
        let from = past refl in
        fails_before_first test xs k d (omega arith)

others-apart : (here there more distinct : Bool) → (not (here || (there || false)) && (distinct && not more))
    ≡ ((not here && distinct) && not (there || more))
others-apart true there more distinct = refl
others-apart false true more true = refl
others-apart false true more false = refl
others-apart false false true true = refl
others-apart false false true false = refl
others-apart false false false true = refl
others-apart false false false false = refl

-- one more name behind them
pub distinct-push : (names : List (List ℕ)) (name : List ℕ)
    → are_distinct (names ++ name ∷ []) ≡ (are_distinct names && not (list_any (bytes_eq name) names))
distinct-push [] name = refl
distinct-push (n ∷ names) name =
    (λ i. not (list_any-append (bytes_eq n) names (name ∷ []) i) && distinct-push names name i)
    ∙ ap (λ b. not (list_any (bytes_eq n) names || (b || false))
    && (are_distinct names && not (list_any (bytes_eq name) names))) (nat_list_eq_equiv.symm n name)
    ∙ others-apart (list_any (bytes_eq n) names) (bytes_eq name n) (list_any (bytes_eq name) names) (are_distinct names)

-- and one that is none of them
pub distinct-new : (names : List (List ℕ)) (name : List ℕ) → are_distinct names ≡ true →
    position (bytes_eq name) names ≡ None → are_distinct (names ++ name ∷ []) ≡ true
distinct-new names name distinct free =
    let none = list_any_none (bytes_eq name) names
    (λ k d within. position-None (bytes_eq name) names k d free within) in
    distinct-push names name ∙ (λ i. distinct i && not (none i))
