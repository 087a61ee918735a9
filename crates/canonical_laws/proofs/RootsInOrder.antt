-- The roots of a frame of a file, in the breadth-first order, are the roots that a file has of the rows in this order.
use Rattle.std.proofs.Common.{◌≡◌, ℕ, zero, suc, ◌+◌, ◌<◌, ◌≤◌, ◌⊎◌, inl, inr, Bool, true, false, ◌||◌, cond}
use Rattle.std.proofs.Common.{true≢false}
use Rattle.std.proofs.Common.{nat_eq, Some, None, List, [], ◌∷◌, ◌++◌, length, map, fold, get_or, filter_map, flat_map}
use Rattle.std.proofs.Common.{codes, refl, sym, ap, ◌∙◌, subst, arith, add-zero, append_assoc, append-nil}
use Rattle.std.proofs.Common.{length-append}
use Rattle.std.proofs.Common.{suc-add}
use Rattle.std.specs.List.{AllByRecursion, IsDistinct, enumerate_from, cons_option, range_with_len}
use Rattle.std.specs.Str.{bytes_eq}
use Rattle.std.specs.Prelude.{⊤, slice_index_or}
use Rattle.std.proofs.Math.Seq.{get_or-append_seam}
use Rattle.std.proofs.lemmas.Bool.{eqb-true, eqb-false, eq-eqb, ne_eqb, cond-true, cond-false, cases_lt}
use Rattle.std.proofs.lemmas.List.{get_or_past}
use Rattle.std.proofs.lemmas.List.Sums.{fold-append}
use Rattle.std.proofs.lemmas.Slice.Eq.{bytes_eq-Decides}
use Rattle.rooted_graph.specs.BreadthOrder.{has, added, first_occurrences, targets, roots_and_targets, number_of}
use Rattle.rooted_graph.specs.BreadthOrder.{IsBreadthOrder}
use Rattle.rooted_graph.proofs.Firsts.{has-append, has-push, fold_front, first_occurrences_distinct}
use Rattle.rooted_graph.proofs.Orders.{number_of-member}
use Rattle.frame_content.specs.Frames.{Row, Frame, no_row}
use Rattle.canonical_file.specs.Ordered.{frame_graph, row_in, ordered}
use Rattle.canonical_laws.specs.Writable.{number_if}

-- ---- numbers of the members that pass

abbrev passing : (ℕ → Bool) → ℕ → List ℕ → List ℕ
passing p i [] = []
passing p i (x ∷ xs) = cond (p x) (i ∷ passing p (i + 1) xs) (passing p (i + 1) xs)

passing-append : (p : ℕ → Bool) (i : ℕ) (xs ys : List ℕ)
    → passing p i (xs ++ ys) ≡ passing p i xs ++ passing p (i + length xs) ys
passing-append p i [] ys = ap (λ n. passing p n ys) (sym (add-zero i))
passing-append p i (x ∷ xs) ys =
    by (p x) (passing-append p (i + 1) xs ys ∙ ap (λ n. passing p (i + 1) xs ++ passing p n ys) (omega arith))
  where
    by : (b : Bool) → passing p (i + 1) (xs ++ ys) ≡ passing p (i + 1) xs ++ passing p (i + suc (length xs)) ys
        → cond b (i ∷ passing p (i + 1) (xs ++ ys)) (passing p (i + 1) (xs ++ ys))
        ≡ cond b (i ∷ passing p (i + 1) xs) (passing p (i + 1) xs) ++ passing p (i + suc (length xs)) ys
    by true later = ap (λ (zs : List ℕ). i ∷ zs) later
    by false later = later

passing-all : (p : ℕ → Bool) (i : ℕ) (xs : List ℕ) → AllByRecursion (λ x. p x ≡ true) xs
    → passing p i xs ≡ range_with_len i (length xs)
passing-all p i [] all = refl
passing-all p i (x ∷ xs) all = cond-true _ _ _ all.0 ∙ ap (λ (zs : List ℕ). i ∷ zs) (passing-all p (i + 1) xs all.1)

passing-none : (p : ℕ → Bool) (i : ℕ) (xs : List ℕ) → AllByRecursion (λ x. p x ≡ false) xs → passing p i xs ≡ []
passing-none p i [] all = refl
passing-none p i (x ∷ xs) all = cond-false _ _ _ all.0 ∙ passing-none p (i + 1) xs all.1

-- the rows of a name
abbrev pub is_named : List ℕ → Row → Bool
is_named name r = bytes_eq r.label.entry.name name

abbrev pub named_at : List ℕ → List Row → ℕ → Bool
named_at name rows n = is_named name (slice_index_or rows n no_row)

abbrev pub numbers_from : List ℕ → ℕ → List Row → List ℕ
numbers_from name i rows = filter_map (number_if name) (enumerate_from i rows)

numbers-passing : (name : List ℕ) (f : Frame) (s : List ℕ) (i : ℕ) (ns : List ℕ)
    → numbers_from name i (map (row_in f s) ns) ≡ passing (named_at name f.rows) i ns
numbers-passing name f s i [] = refl
numbers-passing name f s i (n ∷ ns) = by (named_at name f.rows n) (numbers-passing name f s (i + 1) ns)
  where
    by : (b : Bool) → numbers_from name (i + 1) (map (row_in f s) ns) ≡ passing (named_at name f.rows) (i + 1) ns
        → cons_option (cond b (Some i) None) (numbers_from name (i + 1) (map (row_in f s) ns))
        ≡ cond b (i ∷ passing (named_at name f.rows) (i + 1) ns) (passing (named_at name f.rows) (i + 1) ns)
    by true later = ap (λ (zs : List ℕ). i ∷ zs) later
    by false later = later

-- each number of the list has the name, and each row of the name its number there
abbrev pub AtFrom : List ℕ → List Row → ℕ → ℕ → Type 0
AtFrom name rows i n = (k : ℕ) × (n ≡ i + k) × (named_at name rows k ≡ true) × (k < length rows)

pub numbers-sound : (name : List ℕ) (i : ℕ) (rows : List Row)
    → AllByRecursion (AtFrom name rows i) (numbers_from name i rows)
numbers-sound name i [] = tt
numbers-sound name i (r ∷ rs) =
    by (bytes_eq r.label.entry.name name) refl (moved (numbers_from name (i + 1) rs) (numbers-sound name (i + 1) rs))
  where
    moved : (ns : List ℕ) → AllByRecursion (AtFrom name rs (i + 1)) ns → AllByRecursion (AtFrom name (r ∷ rs) i) ns
    moved [] all = tt
    moved (n ∷ ns) all = ((suc all.0.0, omega (arith, all.0.1), all.0.2, omega (arith, all.0.3)), moved ns all.1)

    by : (b : Bool) → bytes_eq r.label.entry.name name ≡ b
        → AllByRecursion (AtFrom name (r ∷ rs) i) (numbers_from name (i + 1) rs)
        → AllByRecursion (AtFrom name (r ∷ rs) i) (cons_option (cond b (Some i) None) (numbers_from name (i + 1) rs))
    by true is later = ((0, sym (add-zero i), is, omega arith), later)
    by false is later = later

pub numbers-complete : (name : List ℕ) (i : ℕ) (rows : List Row) (k : ℕ) → k < length rows → named_at name rows k ≡ true
    → has (numbers_from name i rows) (i + k) ≡ true
numbers-complete name i [] k within is = absurd (omega arith)
numbers-complete name i (r ∷ rs) zero within is =
    ap (λ b. has (cons_option (cond b (Some i) None) (numbers_from name (i + 1) rs)) (i + 0)) is
    ∙ ap (λ b. b || has (numbers_from name (i + 1) rs) (i + 0)) (eq-eqb (i + 0) i (add-zero i))
numbers-complete name i (r ∷ rs) (suc k) within is =
    by (bytes_eq r.label.entry.name name)
    (ap (has (numbers_from name (i + 1) rs)) (omega arith) ∙ numbers-complete name (i + 1) rs k (omega arith) is)
  where
    or-true : (a : Bool) → (a || true) ≡ true
    or-true true = refl
    or-true false = refl

    by : (b : Bool) → has (numbers_from name (i + 1) rs) (i + suc k) ≡ true
        → has (cons_option (cond b (Some i) None) (numbers_from name (i + 1) rs)) (i + suc k) ≡ true
    by true later = ap (λ b. nat_eq (i + suc k) i || b) later ∙ or-true (nat_eq (i + suc k) i)
    by false later = later

-- ---- lists without repetitions

abbrev AllFresh : List ℕ → List ℕ → Type 0
AllFresh xs [] = ⊤
AllFresh xs (y ∷ ys) = (has xs y ≡ false) × AllFresh (xs ++ y ∷ []) ys

fold-fresh : (xs ys : List ℕ) → AllFresh xs ys → fold added xs ys ≡ xs ++ ys
fold-fresh xs [] fresh = sym (append-nil xs)
fold-fresh xs (y ∷ ys) fresh =
    ap (λ zs. fold added zs ys) (cond-false _ _ _ fresh.0) ∙ fold-fresh (xs ++ y ∷ []) ys fresh.1
    ∙ append_assoc xs (y ∷ []) ys

fresh-append : (xs ys zs : List ℕ) → AllFresh xs ys → AllFresh (xs ++ ys) zs → AllFresh xs (ys ++ zs)
fresh-append xs [] zs first second = subst (λ ws. AllFresh ws zs) (append-nil xs) second
fresh-append xs (y ∷ ys) zs first second = (
  first.0,
  fresh-append (xs ++ y ∷ []) ys zs first.1
      (subst (λ ws. AllFresh ws zs) (sym (append_assoc xs (y ∷ []) ys)) second),
)

-- no row of the name has its number in the list
abbrev NoneIn : List ℕ → List ℕ → ℕ → List Row → Type 0
NoneIn xs name i rows = (k : ℕ) → k < length rows → named_at name rows k ≡ true → has xs (i + k) ≡ false

fresh-numbers : (name : List ℕ) (i : ℕ) (rows : List Row) (xs : List ℕ) → NoneIn xs name i rows
    → AllFresh xs (numbers_from name i rows)
fresh-numbers name i [] xs fresh = tt
fresh-numbers name i (r ∷ rs) xs fresh = by (bytes_eq r.label.entry.name name) refl (fresh-numbers name (i + 1) rs)
  where
    step : (ys : List ℕ) → ((k : ℕ) → k < length rs → named_at name rs k ≡ true → has ys (i + suc k) ≡ false)
        → NoneIn ys name (i + 1) rs
    step ys less k within is = ap (has ys) (omega arith) ∙ less k within is

    pushed : (k : ℕ) → k < length rs → named_at name rs k ≡ true → has (xs ++ i ∷ []) (i + suc k) ≡ false
    pushed k within named =
        has-push xs i (i + suc k)
        ∙ ap (λ b. b || nat_eq (i + suc k) i) (fresh (suc k) (omega arith) named)
        ∙ ne_eqb (i + suc k) i (λ e. omega (arith, e))

    by : (b : Bool) → bytes_eq r.label.entry.name name ≡ b
        → ((ys : List ℕ) → NoneIn ys name (i + 1) rs → AllFresh ys (numbers_from name (i + 1) rs))
        → AllFresh xs (cons_option (cond b (Some i) None) (numbers_from name (i + 1) rs))
    by true is later =
        (ap (has xs) (sym (add-zero i)) ∙ fresh 0 (omega arith) is, later (xs ++ i ∷ []) (step (xs ++ i ∷ []) pushed))
    by false is later = later xs (step xs (λ k within named. fresh (suc k) (omega arith) named))

has-all : (P : ℕ → Type 0) (xs : List ℕ) (n : ℕ) → AllByRecursion P xs → has xs n ≡ true → P n
has-all P [] n all is = absurd (true≢false (sym is))
has-all P (x ∷ xs) n all is = by (nat_eq n x) refl is (has-all P xs n all.1)
  where
    by : (b : Bool) → nat_eq n x ≡ b → (b || has xs n) ≡ true → (has xs n ≡ true → P n) → P n
    by true same either later = subst P (sym (eqb-true n x same)) all.0
    by false differ either later = later either

distinct-parts : (xs ys : List ℕ) → IsDistinct nat_eq (xs ++ ys) → AllByRecursion (λ y. has xs y ≡ false) ys
unfolding IsDistinct
distinct-parts [] ys distinct = all-none ys
  where
    all-none : (ys : List ℕ) → AllByRecursion (λ y. has [] y ≡ false) ys
    all-none [] = tt
    all-none (y ∷ ys) = (refl, all-none ys)
distinct-parts (x ∷ xs) ys distinct = both ys (behind xs ys distinct.0) (distinct-parts xs ys distinct.1)
  where
    behind : (xs ys : List ℕ) → AllByRecursion (λ y. nat_eq x y ≡ false) (xs ++ ys)
        → AllByRecursion (λ y. nat_eq x y ≡ false) ys
    behind [] ys all = all
    behind (z ∷ zs) ys all = behind zs ys all.1

    both : (ys : List ℕ) → AllByRecursion (λ y. nat_eq x y ≡ false) ys → AllByRecursion (λ y. has xs y ≡ false) ys
        → AllByRecursion (λ y. has (x ∷ xs) y ≡ false) ys
    both [] first second = tt
    both (y ∷ ys) first second = (
      ap (λ b. b || has xs y) (ne_eqb y x (λ same. eqb-false x y first.0 (sym same))) ∙ second.0,
      both ys first.1 second.1,
    )

range-append : (a m n : ℕ) → range_with_len a (m + n) ≡ range_with_len a m ++ range_with_len (a + m) n
range-append a zero n = (λ i. range_with_len (one i) (two i))
  where
    one : a ≡ a + 0
    one = sym (add-zero a)

    two : 0 + n ≡ n
    two = omega arith
range-append a (suc m) n =
    ap (range_with_len a) (suc-add m n)
    ∙ ap (λ (zs : List ℕ). a ∷ zs)
    (range-append (a + 1) m n ∙ ap (λ k. range_with_len (a + 1) m ++ range_with_len k n) (omega arith))

-- the numbers of the front of an order
numbers-front : (s done rest t : List ℕ) → s ≡ done ++ (rest ++ t)
    → ((k : ℕ) → k < length s → number_of s (get_or s k 0) ≡ Some k)
    → filter_map (number_of s) rest ≡ range_with_len (length done) (length rest)
numbers-front s done [] t split places = refl
numbers-front s done (x ∷ xs) t split places =
    let here : get_or s (length done) 0 ≡ x =
    ap (λ zs. get_or zs (length done) 0) split ∙ get_or-append_seam done x (xs ++ t) 0 in
    let within : length done < length s = omega (arith, ap length split, length-append done (x ∷ (xs ++ t))) in
    let number : number_of s x ≡ Some (length done) = ap (number_of s) (sym here) ∙ places (length done) within in
    let size : length (done ++ x ∷ []) ≡ length done + 1 = omega (arith, length-append done (x ∷ [])) in
    let rest = numbers-front s (done ++ x ∷ []) xs t (split ∙ sym (append_assoc done (x ∷ []) (xs ++ t))) places in
    ap (λ o. cons_option o (filter_map (number_of s) xs)) number
    ∙ ap (λ (zs : List ℕ). length done ∷ zs) (rest ∙ ap (λ n. range_with_len n (length xs)) size)

-- ---- the roots

-- the numbers of the roots among rows: FrameH, then each FrStatData
abbrev pub root_numbers : List Row → List ℕ
root_numbers rows = numbers_from (codes "FrameH") 0 rows ++ numbers_from (codes "FrStatData") 0 rows

abbrev header_numbers : List Row → List ℕ
header_numbers rows = numbers_from (codes "FrameH") 0 rows

abbrev stat_numbers : List Row → List ℕ
stat_numbers rows = numbers_from (codes "FrStatData") 0 rows

-- no row has both names
one_name : (rows : List Row) (n : ℕ) → named_at (codes "FrStatData") rows n ≡ true
    → named_at (codes "FrameH") rows n ≡ false
one_name rows n is =
    let name : (slice_index_or rows n no_row).label.entry.name ≡ codes "FrStatData" =
    (bytes_eq-Decides (slice_index_or rows n no_row).label.entry.name (codes "FrStatData")).0 is in
    ap (λ m. bytes_eq m (codes "FrameH")) name

other_name : (rows : List Row) (n : ℕ) → named_at (codes "FrameH") rows n ≡ true
    → named_at (codes "FrStatData") rows n ≡ false
other_name rows n is =
    let name : (slice_index_or rows n no_row).label.entry.name ≡ codes "FrameH" =
    (bytes_eq-Decides (slice_index_or rows n no_row).label.entry.name (codes "FrameH")).0 is in
    ap (λ m. bytes_eq m (codes "FrStatData")) name

-- the roots of a file stand once each
roots-fresh : (rows : List Row) → AllFresh [] (root_numbers rows)
roots-fresh rows =
    fresh-append [] (header_numbers rows) (stat_numbers rows)
    (fresh-numbers (codes "FrameH") 0 rows [] (λ k within is. refl))
    (fresh-numbers (codes "FrStatData") 0 rows (header_numbers rows) apart)
  where
    apart : (k : ℕ) → k < length rows → named_at (codes "FrStatData") rows k ≡ true
        → has (header_numbers rows) (0 + k) ≡ false
    apart k within is = by (has (header_numbers rows) (0 + k)) refl
      where
        by : (b : Bool) → has (header_numbers rows) (0 + k) ≡ b → b ≡ false
        by false there = refl
        by true there =
            let found =
            has-all (AtFrom (codes "FrameH") rows 0) (header_numbers rows) (0 + k)
            (numbers-sound (codes "FrameH") 0 rows) there in
            let same : found.0 ≡ k = omega (arith, found.1) in
            let named : named_at (codes "FrameH") rows k ≡ true =
            subst (λ m. named_at (codes "FrameH") rows m ≡ true) same found.2 in
            absurd (true≢false (sym named ∙ one_name rows k is))

-- a number that is no root has neither name
not-named : (name : List ℕ) (rows : List Row) (n : ℕ) → bytes_eq [] name ≡ false
    → has (numbers_from name 0 rows) n ≡ false → named_at name rows n ≡ false
not-named name rows n none other = by (named_at name rows n) refl (cases_lt n (length rows))
  where
    by : (b : Bool) → named_at name rows n ≡ b → (n < length rows) ⊎ (length rows ≤ n) → b ≡ false
    by false is place = refl
    by true is (inl within) =
        let there : has (numbers_from name 0 rows) n ≡ true =
        ap (has (numbers_from name 0 rows)) (omega arith) ∙ numbers-complete name 0 rows n within is in
        absurd (true≢false (sym there ∙ other))
    by true is (inr past) =
        let gone = ap (λ (r : Row). bytes_eq r.label.entry.name name) (get_or_past rows n no_row past) in
        absurd (true≢false (sym is ∙ gone ∙ none))

both-false : (a b : Bool) → (a || b) ≡ false → (a ≡ false) × (b ≡ false)
both-false true b is = absurd (true≢false is)
both-false false b is = (refl, is)

rest-named : (name : List ℕ) (rows : List Row) (xs : List ℕ) → bytes_eq [] name ≡ false
    → ((n : ℕ) → has (root_numbers rows) n ≡ false → has (numbers_from name 0 rows) n ≡ false)
    → AllByRecursion (λ n. has (root_numbers rows) n ≡ false) xs
    → AllByRecursion (λ n. named_at name rows n ≡ false) xs
rest-named name rows [] none part all = tt
rest-named name rows (x ∷ xs) none part all =
    (not-named name rows x none (part x all.0), rest-named name rows xs none part all.1)

all-from : (P Q : ℕ → Type 0) (xs : List ℕ) → ((n : ℕ) → P n → Q n) → AllByRecursion P xs → AllByRecursion Q xs
all-from P Q [] to all = tt
all-from P Q (x ∷ xs) to all = (to x all.0, all-from P Q xs to all.1)

named-from : (name : List ℕ) (rows : List Row) (n : ℕ) → AtFrom name rows 0 n → named_at name rows n ≡ true
named-from name rows n found = subst (λ m. named_at name rows m ≡ true) (omega (arith, found.1)) found.2

pub roots-in-order : (f : Frame) (s : List ℕ) → IsBreadthOrder (frame_graph f).graph s → f.roots ≡ root_numbers f.rows
    → (ordered f s).roots ≡ root_numbers (ordered f s).rows
roots-in-order f s order roots =
    let rows : List Row = f.rows in
    let a : List ℕ = header_numbers rows in
    let b : List ℕ = stat_numbers rows in
    let r : List ℕ = a ++ b in
    let more : List ℕ = flat_map (targets (frame_graph f).graph) s in
    let front = fold_front r more in
    let t : List ℕ = front.0 in
    let split : s ≡ r ++ t =
    order.first ∙ ap (λ xs. first_occurrences (xs ++ more)) roots ∙ fold-append added [] r more
    ∙ ap (λ xs. fold added xs more) (fold-fresh [] r (roots-fresh rows)) ∙ front.1 in
    let distinct : IsDistinct nat_eq s =
    subst (IsDistinct nat_eq) (sym order.first)
    (first_occurrences_distinct (roots_and_targets (frame_graph f).graph s)) in
    let apart = distinct-parts r t (subst (IsDistinct nat_eq) split distinct) in
    let left : (ordered f s).roots ≡ range_with_len 0 (length r) =
    ap (filter_map (number_of s)) roots
    ∙ numbers-front s [] r t split (number_of-member (frame_graph f).graph s order) in
    let is_head : ℕ → Bool = named_at (codes "FrameH") rows in
    let is_stat : ℕ → Bool = named_at (codes "FrStatData") rows in
    let head_sound = numbers-sound (codes "FrameH") 0 rows in
    let stat_sound = numbers-sound (codes "FrStatData") 0 rows in
    let heads_are : AllByRecursion (λ n. is_head n ≡ true) a =
    all-from (AtFrom (codes "FrameH") rows 0) (λ n. is_head n ≡ true) a
    (named-from (codes "FrameH") rows) head_sound in
    let stats_are : AllByRecursion (λ n. is_stat n ≡ true) b =
    all-from (AtFrom (codes "FrStatData") rows 0) (λ n. is_stat n ≡ true) b
    (named-from (codes "FrStatData") rows) stat_sound in
    let heads_alone : AllByRecursion (λ n. is_stat n ≡ false) a =
    all-from (λ n. is_head n ≡ true) (λ n. is_stat n ≡ false) a (other_name rows) heads_are in
    let stats_alone : AllByRecursion (λ n. is_head n ≡ false) b =
    all-from (λ n. is_stat n ≡ true) (λ n. is_head n ≡ false) b (one_name rows) stats_are in
    let others_no_head : AllByRecursion (λ n. is_head n ≡ false) t =
    rest-named (codes "FrameH") rows t refl
    (λ n no. (both-false (has a n) (has b n) (sym (has-append a b n) ∙ no)).0) apart in
    let others_no_stat : AllByRecursion (λ n. is_stat n ≡ false) t =
    rest-named (codes "FrStatData") rows t refl
    (λ n no. (both-false (has a n) (has b n) (sym (has-append a b n) ∙ no)).1) apart in
    let parts : (p : ℕ → Bool) → passing p 0 s
    ≡ passing p 0 a ++ passing p (0 + length a) b ++ passing p (0 + length r) t =
    λ p. ap (passing p 0) split ∙ passing-append p 0 r t
    ∙ ap (λ xs. xs ++ passing p (0 + length r) t) (passing-append p 0 a b) in
    let headers : passing is_head 0 s ≡ range_with_len 0 (length a) =
    parts is_head
    ∙
    (λ i. passing-all is_head 0 a heads_are i ++ passing-none is_head (0 + length a) b stats_alone i
    ++ passing-none is_head (0 + length r) t others_no_head i)
    ∙ append-nil (range_with_len 0 (length a) ++ []) ∙ append-nil (range_with_len 0 (length a)) in
    let stats : passing is_stat 0 s ≡ range_with_len (0 + length a) (length b) =
    parts is_stat
    ∙
    (λ i. passing-none is_stat 0 a heads_alone i ++ passing-all is_stat (0 + length a) b stats_are i
    ++ passing-none is_stat (0 + length r) t others_no_stat i)
    ∙ append-nil (range_with_len (0 + length a) (length b)) in
    let right : root_numbers (ordered f s).rows
    ≡ range_with_len 0 (length a) ++ range_with_len (0 + length a) (length b) =
    (λ i. numbers-passing (codes "FrameH") f s 0 s i ++ numbers-passing (codes "FrStatData") f s 0 s i)
    ∙ (λ i. headers i ++ stats i) in
    left ∙ ap (range_with_len 0) (length-append a b) ∙ range-append 0 (length a) (length b) ∙ sym right
