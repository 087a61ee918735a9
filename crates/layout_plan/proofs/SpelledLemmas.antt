-- How far the items at the front of some bytes reach.
use Rattle.std.proofs.Common.{◌≡◌, ◌≢◌, ℕ, zero, suc, ◌+◌, ◌-◌, ◌*◌, ◌^◌, ◌<◌, ◌≤◌, min, Bool, true, false, cond}
use Rattle.std.proofs.Common.{List, [], ◌∷◌, ◌++◌, length, take, drop, get_or, eqb, sum_by, Result, Ok, Err}
use Rattle.std.proofs.Common.{refl, sym, ap, ◌∙◌, subst, arith, append_assoc, append-nil, add-zero, inl, inr, Some}
use Rattle.std.proofs.lemmas.List.{length-append, length-drop, at_drop_more, drop-drop, length-take-le, take_rest}
use Rattle.std.proofs.lemmas.List.{get_or-take, get_or-drop, take-take}
use Rattle.std.proofs.lemmas.List.Sums.{sum_by-append}
use Rattle.std.proofs.Math.Nat.{mul_assoc, mul-suc, suc-mul, zero-mul}
use Rattle.std.proofs.lemmas.Option.{same_Some}
use Rattle.std.proofs.lemmas.Bool.{eq-eqb, ne_eqb, cases_lt}
use Rattle.scalar_types.specs.declared.Order.{Order}
use Rattle.scalar_types.specs.declared.Width.{Width}
use Rattle.scalar_types.specs.declared.Width.TheVariants.{One, Two, Four, Eight}
use Rattle.scalar_types.specs.Number.{number, size_of}
use Rattle.record_values.specs.declared.values.Value.{Value}
use Rattle.record_values.specs.declared.values.Value.TheVariants as value
use Rattle.type_text.specs.declared.types.Link.{Link as StructLink}
use Rattle.layout_plan.specs.declared.fields.Form.{Form}
use Rattle.layout_plan.specs.declared.fields.Form.TheVariants.{Number, Pair, Text, Link}
use Rattle.layout_plan.specs.declared.fields.Count.{Count}
use Rattle.layout_plan.specs.declared.faults.BodyReason.{BodyReason}
use Rattle.layout_plan.specs.declared.faults.BodyReason.TheVariants.{BodyShort, BadText}
use Rattle.layout_plan.specs.declared.spelled.Spelled.{Spelled}
use Rattle.layout_plan.specs.Body.{value_length, text_length, extent_of, item_count}
use Rattle.layout_plan.specs.Reading.{Found, and_then, found_map, number_in, pair_in, closed_text, text_of_length}
use Rattle.layout_plan.specs.Reading.{text_in, link_in, items_in, listed_in, field_in}
use Rattle.layout_plan.specs.Marks.{product_by, numeral_of, item_size, fixed_width}
use Rattle.layout_plan.proofs.FixedLemmas.{IsShortList, fixed-list, numeral-items}
use Rattle.layout_plan.specs.Spelled.{IsSpelled, Tells, IsTextSpelled, TellsText, TellsLength, zero_texts_of}
use Rattle.layout_plan.specs.Exact.{IsExact}
use Rattle.record_values.specs.Spelling.{IsNumber, IsPair, IsText, IsLink}
use Rattle.layout_plan.proofs.ExactLemmas.{bytes_in-enough, bytes_in-few, number_in-exact, pair_in-exact, text_in-exact}
use Rattle.layout_plan.proofs.ExactLemmas.{link_in-exact, items_in-exact}

-- a product of which a factor is capped is capped alike
pub capped-product : (x y cap : ℕ) → min (min x cap * y) cap ≡ min (x * y) cap
capped-product x zero cap = omega arith
capped-product x (suc y) cap = elim (cases_lt cap x) [
  | inl above ↦ let e : min x cap ≡ cap = omega arith in rw e (omega (arith, mul-suc cap y, mul-suc x y))
  | inr within ↦ let e : min x cap ≡ x = omega arith in rw e refl
]

-- one more count
pub capped-more : (numbers : List ℕ) (counts : List Count) (i : ℕ) (d : Count) (count extent next cap : ℕ)
    → i < length counts → extent ≡ extent_of numbers (get_or counts i d) → next ≡ min (count * extent) cap
    → min (next * item_count numbers (drop (i + 1) counts)) cap ≡ min (count * item_count numbers (drop i counts)) cap
capped-more numbers counts i d count extent next cap lt is product =
    let others = item_count numbers (drop (i + 1) counts) in
    ap (λ n. min (n * others) cap) product
    ∙ capped-product (count * extent) others cap
    ∙ ap (λ n. min n cap) (mul_assoc count extent others
    ∙ ap (λ n. count * n) (ap (λ e. e * others) is ∙ sym (at_drop_more (item_count numbers) counts i d lt)))

-- what is found in so many bytes, whatever they are
pub record IsFixed {X : Type 0} (item : List ℕ → Found X) (size : ℕ) : Type 0 where
  pub enough : (bytes : List ℕ) → size ≤ length bytes → (x : X) × (item bytes ≡ Ok (x, drop size bytes))
  pub few : (bytes : List ℕ) → length bytes < size → item bytes ≡ Err BodyShort

fixed-map : {X Y : Type 0} (f : X → Y) (item : List ℕ → Found X) (size : ℕ) → IsFixed item size
    → IsFixed (λ bytes. found_map f (item bytes)) size
fixed-map f item size fixed = record {
  enough = λ bytes le. let e = fixed.enough bytes le in (f e.0, ap (found_map f) e.1);
  few = λ bytes lt. ap (found_map f) (fixed.few bytes lt);
}

fixed-then : {X Y : Type 0} (item : List ℕ → Found X) (next : X → List ℕ → Found Y) (s t : ℕ) → IsFixed item s
    → ((x : X) → IsFixed (next x) t) → IsFixed (λ bytes. and_then (item bytes) (λ x. next x.0 x.1)) (s + t)
fixed-then {X} {Y} item next s t fixed others = record { enough = enough; few = few }
  where
    enough : (bytes : List ℕ) → s + t ≤ length bytes → (y : Y)
        × (and_then (item bytes) (λ x. next x.0 x.1) ≡ Ok (y, drop (s + t) bytes))
    enough bytes le =
        let e = fixed.enough bytes (omega arith) in
        let f = (others e.0).enough (drop s bytes) (omega (arith, length-drop s bytes)) in (
          f.0,
          ap (λ r. and_then r (λ (x : X × List ℕ). next x.0 x.1)) e.1 ∙ f.1
              ∙ ap (λ rest. Ok (f.0, rest)) (drop-drop t s bytes),
        )

    few : (bytes : List ℕ) → length bytes < s + t → and_then (item bytes) (λ x. next x.0 x.1) ≡ Err BodyShort
    few bytes lt = elim (cases_lt (length bytes) s) [
      | inl short ↦ ap (λ r. and_then r (λ (x : X × List ℕ). next x.0 x.1)) (fixed.few bytes short)
      | inr le ↦ let e = fixed.enough bytes le in
          ap (λ r. and_then r (λ (x : X × List ℕ). next x.0 x.1)) e.1
          ∙ (others e.0).few (drop s bytes) (omega (arith, length-drop s bytes))
    ]

fixed-number : (order : Order) (width : Width) → IsFixed (number_in order width) (size_of width)
fixed-number order width = record {
  enough = λ bytes le. (
    number order (take (size_of width) bytes),
    ap (found_map (number order)) (bytes_in-enough (size_of width) bytes le),
  );
  few = λ bytes lt. ap (found_map (number order)) (bytes_in-few (size_of width) bytes lt);
}

fixed-pair : (order : Order) (width : Width) → IsFixed (pair_in order width) (size_of width + size_of width)
fixed-pair order width =
    fixed-then (number_in order width) (λ a bytes. found_map (λ b. (a, b)) (number_in order width bytes))
    (size_of width) (size_of width) (fixed-number order width)
    (λ a. fixed-map (λ b. (a, b)) (number_in order width) (size_of width) (fixed-number order width))

fixed-link : (order : Order) → IsFixed (link_in order) 6
fixed-link order =
    fixed-then (number_in order Two) (λ class bytes. found_map (make class) (number_in order Four bytes)) 2 4
    (fixed-number order Two) (λ class. fixed-map (make class) (number_in order Four) 4 (fixed-number order Four))
  where
    make : ℕ → ℕ → StructLink
    make class n = record { class = class; instance = n }

fixed-items : {X : Type 0} (item : List ℕ → Found X) (size : ℕ) → IsFixed item size → (n : ℕ)
    → IsFixed (items_in item n) (n * size)
unfolding items_in
fixed-items item size fixed zero = record {
  enough = λ bytes le. ([], ap (λ k. Ok ([], drop k bytes)) (sym (zero-mul size)));
  few = λ bytes lt. absurd (omega (arith, zero-mul size));
}
fixed-items item size fixed (suc n) =
    subst (IsFixed (items_in item (suc n))) (omega (arith, suc-mul n size))
    (fixed-then item (λ x bytes. found_map (λ xs. x ∷ xs) (items_in item n bytes)) size (n * size) fixed
    (λ x. fixed-map (λ xs. x ∷ xs) (items_in item n) (n * size) (fixed-items item size fixed n)))

-- how many items are found
items-length : {X : Type 0} (item : List ℕ → Found X) (R : X → List ℕ → Type 0) → IsExact item R
    → (n : ℕ) (bytes rest : List ℕ) (xs : List X) → items_in item n bytes ≡ Ok (xs, rest) → length xs ≡ n
items-length item R exact n bytes rest xs e = ((items_in-exact item R exact n).found bytes (xs, rest) e).2.count

-- a field of fixed width has a value of this many bytes, whatever they are
pub record IsFixedField (order : Order) (numbers : List ℕ) (form : Form) (counts : List Count)
    (width : ℕ) : Type 0 where
  pub enough : (bytes : List ℕ) → width ≤ length bytes → (v : Value)
      × (field_in order numbers form counts bytes ≡ Ok (v, drop width bytes)) × (value_length form v ≡ width)
  pub few : (bytes : List ℕ) → length bytes < width → field_in order numbers form counts bytes ≡ Err BodyShort

pub fixed-field : (order : Order) (numbers : List ℕ) (form : Form) (counts : List Count) (width : ℕ)
    → fixed_width form counts ≡ Some width → IsFixedField order numbers form counts width
fixed-field order numbers form [] n is = by form is
  where
    of_item : {X : Type 0} (item : List ℕ → Found X) (f : X → Value) (form : Form) (size : ℕ) → IsFixed item size
        → ((bytes : List ℕ) → field_in order numbers form [] bytes ≡ found_map f (item bytes))
        → ((x : X) → value_length form (f x) ≡ size) → size ≡ n → IsFixedField order numbers form [] n
    of_item item f form size fixed reads long same = subst (IsFixedField order numbers form []) same (record {
      enough = λ bytes le. let e = fixed.enough bytes le in (f e.0, reads bytes ∙ ap (found_map f) e.1, long e.0);
      few = λ bytes lt. reads bytes ∙ ap (found_map f) (fixed.few bytes lt);
    })

    by : (form : Form) → fixed_width form [] ≡ Some n → IsFixedField order numbers form [] n
    by (Number width) is =
        of_item (number_in order width) value.Num (Number width) (size_of width) (fixed-number order width)
        (λ bytes. refl) (λ x. refl) (same_Some (size_of width) n is)
    by (Pair width) is =
        of_item (pair_in order width) (λ (p : ℕ × ℕ). value.Pair p.0 p.1) (Pair width) (size_of width + size_of width)
        (fixed-pair order width) (λ bytes. refl) (λ p. omega arith)
        (omega (arith, same_Some (2 * size_of width) n is))
    by Link is =
        of_item (link_in order) value.Link Link 6 (fixed-link order) (λ bytes. refl) (λ link. refl) (same_Some 6 n is)
    by Text is = cc
fixed-field order numbers form (c ∷ cs) n is = listed form (fixed-list form c cs n is)
  where
    of_items : {X : Type 0} (item : List ℕ → Found X) (R : X → List ℕ → Type 0) → IsExact item R
        → (f : List X → Value) (form : Form) (size : ℕ) → IsFixed item size
        → ((m : ℕ) (bytes : List ℕ) → listed_in order form m bytes ≡ found_map f (items_in item m bytes))
        → ((xs : List X) → value_length form (f xs) ≡ length xs * size) → item_size form ≡ Some size
        → IsShortList form (c ∷ cs) n → IsFixedField order numbers form (c ∷ cs) n
    of_items item R exact f form size fixed reads long sized s =
        let count = product_by numeral_of (c ∷ cs) in
        let same : s.size ≡ size = same_Some s.size size (sym s.sized ∙ sized) in
        let whole : count * size ≡ n = ap (λ k. count * k) (sym same) ∙ s.same in
        let items = numeral-items numbers (c ∷ cs) s.all in
        let all = fixed-items item size fixed count in
        subst (IsFixedField order numbers form (c ∷ cs)) whole (record {
          enough = λ bytes le. let e = all.enough bytes le in (
            f e.0,
            ap (λ m. listed_in order form m bytes) items ∙ reads count bytes ∙ ap (found_map f) e.1,
            long e.0
                ∙ ap (λ k. k * size) (items-length item R exact count bytes (drop (count * size) bytes) e.0 e.1),
          );
          few = λ bytes lt. ap (λ m. listed_in order form m bytes) items ∙ reads count bytes
              ∙ ap (found_map f) (all.few bytes lt);
        })

    listed : (form : Form) → IsShortList form (c ∷ cs) n → IsFixedField order numbers form (c ∷ cs) n
    listed (Number One) s =
        of_items (number_in order One) (IsNumber order One) (number_in-exact order One) value.Bytes (Number One) 1
        (fixed-number order One) (λ m bytes. refl) (λ xs. refl) refl s
    listed (Number Two) s =
        of_items (number_in order Two) (IsNumber order Two) (number_in-exact order Two) value.Nums (Number Two) 2
        (fixed-number order Two) (λ m bytes. refl) (λ xs. refl) refl s
    listed (Number Four) s =
        of_items (number_in order Four) (IsNumber order Four) (number_in-exact order Four) value.Nums (Number Four) 4
        (fixed-number order Four) (λ m bytes. refl) (λ xs. refl) refl s
    listed (Number Eight) s =
        of_items (number_in order Eight) (IsNumber order Eight) (number_in-exact order Eight) value.Nums (Number Eight)
        8 (fixed-number order Eight) (λ m bytes. refl) (λ xs. refl) refl s
    listed (Pair width) s =
        of_items (pair_in order width) (IsPair order width) (pair_in-exact order width) value.Pairs (Pair width)
        (2 * size_of width) (subst (IsFixed (pair_in order width)) (omega arith) (fixed-pair order width))
        (λ m bytes. refl) (λ xs. refl) refl s
    listed Link s =
        of_items (link_in order) (IsLink order) (link_in-exact order) value.Links Link 6 (fixed-link order)
        (λ m bytes. refl) (λ xs. refl) refl s
    listed Text s = cc

-- what is told of an item of a known length
plain-Tells : {X : Type 0} (item : List ℕ → Found X) (size : ℕ) (f : X → Value) (form : Form) → IsFixed item size
    → ((bytes rest : List ℕ) (x : X) → item bytes ≡ Ok (x, rest) → value_length form (f x) ≡ size)
    → (bytes : List ℕ) (r : Result Spelled BodyReason) → TellsLength size bytes r
    → Tells (found_map f (item bytes)) form bytes r
plain-Tells {X} item size f form fixed long bytes (Ok s) told =
    let e = fixed.enough bytes told.0 in
    subst (IsSpelled (found_map f (item bytes)) form bytes) (sym told.1) (record {
      value = f e.0;
      is = ap (found_map f) e.1;
      within = told.0;
      size = add-zero size ∙ sym (long bytes (drop size bytes) e.0 e.1);
      few_texts = omega arith;
    })
plain-Tells {X} item size f form fixed long bytes (Err reason) told =
    ap (found_map f) (fixed.few bytes told.0) ∙ ap Err (sym told.1)

-- a length that is capped far above the bytes
TellsLength-exact : (exact capped : ℕ) (bytes : List ℕ) (r : Result Spelled BodyReason)
    → capped ≡ min exact (2 ^ 64 - 1) → length bytes < 2 ^ 64 - 1 → TellsLength capped bytes r
    → TellsLength exact bytes r
TellsLength-exact exact capped bytes (Ok s) is short told =
    let same : capped ≡ exact = omega (arith, told.0) in
    subst (λ n. TellsLength n bytes (Ok s)) same told
TellsLength-exact exact capped bytes (Err reason) is short told = (omega (arith, told.0), told.1)

numbers-Tells : (order : Order) (width : Width) (count : ℕ) (f : List ℕ → Value)
    → ((xs : List ℕ) → value_length (Number width) (f xs) ≡ length xs * size_of width)
    → (bytes : List ℕ) (r : Result Spelled BodyReason) (size : ℕ) → size ≡ min (count * size_of width) (2 ^ 64 - 1)
    → length bytes < 2 ^ 64 - 1 → TellsLength size bytes r
    → Tells (found_map f (items_in (number_in order width) count bytes)) (Number width) bytes r
numbers-Tells order width count f is bytes r size capped short told =
    plain-Tells (items_in (number_in order width) count) (count * size_of width) f (Number width)
    (fixed-items (number_in order width) (size_of width) (fixed-number order width) count) (λ bytes rest xs e. is xs
    ∙ ap (λ n. n * size_of width)
    (items-length (number_in order width) (IsNumber order width) (number_in-exact order width) count bytes rest xs e))
    bytes r (TellsLength-exact (count * size_of width) size bytes r capped short told)

pub listed_numbers-Tells : (order : Order) (width : Width) (count : ℕ) (bytes : List ℕ) (r : Result Spelled BodyReason)
    (size : ℕ) → size ≡ min (count * size_of width) (2 ^ 64 - 1) → length bytes < 2 ^ 64 - 1 → TellsLength size bytes r
    → Tells (listed_in order (Number width) count bytes) (Number width) bytes r
listed_numbers-Tells order One count = numbers-Tells order One count value.Bytes (λ xs. refl)
listed_numbers-Tells order Two count = numbers-Tells order Two count value.Nums (λ xs. refl)
listed_numbers-Tells order Four count = numbers-Tells order Four count value.Nums (λ xs. refl)
listed_numbers-Tells order Eight count = numbers-Tells order Eight count value.Nums (λ xs. refl)

pub listed_pairs-Tells : (order : Order) (width : Width) (count : ℕ) (bytes : List ℕ) (r : Result Spelled BodyReason)
    (size : ℕ) → size ≡ min (count * (2 * size_of width)) (2 ^ 64 - 1) → length bytes < 2 ^ 64 - 1
    → TellsLength size bytes r → Tells (listed_in order (Pair width) count bytes) (Pair width) bytes r
listed_pairs-Tells order width count bytes r size capped short told =
    plain-Tells (items_in (pair_in order width) count) (count * (2 * size_of width)) value.Pairs (Pair width)
    (fixed-items (pair_in order width) (2 * size_of width)
    (subst (IsFixed (pair_in order width)) (omega arith) (fixed-pair order width)) count)
    (λ bytes rest xs e. ap (λ n. n * (2 * size_of width))
    (items-length (pair_in order width) (IsPair order width) (pair_in-exact order width) count bytes rest xs e)) bytes
    r (TellsLength-exact (count * (2 * size_of width)) size bytes r capped short told)

pub listed_links-Tells : (order : Order) (count : ℕ) (bytes : List ℕ) (r : Result Spelled BodyReason) (size : ℕ)
    → size ≡ min (count * 6) (2 ^ 64 - 1) → length bytes < 2 ^ 64 - 1 → TellsLength size bytes r
    → Tells (listed_in order Link count bytes) Link bytes r
listed_links-Tells order count bytes r size capped short told =
    plain-Tells (items_in (link_in order) count) (count * 6) value.Links Link
    (fixed-items (link_in order) 6 (fixed-link order) count)
    (λ bytes rest xs e. ap (λ n. n * 6)
    (items-length (link_in order) (IsLink order) (link_in-exact order) count bytes rest xs e)) bytes r
    (TellsLength-exact (count * 6) size bytes r capped short told)

-- a text's length, and what stands after it
text_in-number : (order : Order) (bytes : List ℕ) (n : ℕ) → 2 ≤ length bytes → n ≡ number order (take 2 bytes)
    → text_in order bytes ≡ text_of_length (n, drop 2 bytes)
text_in-number order bytes n le is =
    ap (λ r. and_then (found_map (number order) r) text_of_length) (bytes_in-enough 2 bytes le)
    ∙ ap (λ n. text_of_length (n, drop 2 bytes)) (sym is)

unended-text : (n : ℕ) (rest : List ℕ) → 0 < n → n ≤ length rest → get_or rest (n - 1) 0 ≢ 0
    → text_of_length (n, rest) ≡ Err BadText
unended-text zero rest low le unended = absurd (omega arith)
unended-text (suc n) rest low le unended =
    let at_end : get_or (take (suc n) rest) n 0 ≡ get_or rest (suc n - 1) 0 = get_or-take (suc n) rest n 0 (omega arith)
    ∙ ap (λ k. get_or rest k 0) (omega arith) in
    ap (λ r. and_then r (closed_text n)) (bytes_in-enough (suc n) rest le)
    ∙ ap (λ b. cond {A = Found (List ℕ)} b (Ok (take n (take (suc n) rest), drop (suc n) rest)) (Err BadText))
    (ne_eqb (get_or (take (suc n) rest) n 0) 0 (λ e. unended (sym at_end ∙ e)))

ended-text : (n : ℕ) (rest : List ℕ) → 0 < n → n ≤ length rest → get_or rest (n - 1) 0 ≡ 0
    → text_of_length (n, rest) ≡ Ok (take (n - 1) rest, drop n rest)
ended-text zero rest low le ends = absurd (omega arith)
ended-text (suc n) rest low le ends =
    let at_end : get_or (take (suc n) rest) n 0 ≡ get_or rest (suc n - 1) 0 = get_or-take (suc n) rest n 0 (omega arith)
    ∙ ap (λ k. get_or rest k 0) (omega arith) in
    let front : take n (take (suc n) rest) ≡ take (suc n - 1) rest = take-take n (suc n) rest (omega arith)
    ∙ ap (λ k. take k rest) (omega arith) in
    ap (λ r. and_then r (closed_text n)) (bytes_in-enough (suc n) rest le)
    ∙ ap (λ b. cond {A = Found (List ℕ)} b (Ok (take n (take (suc n) rest), drop (suc n) rest)) (Err BadText))
    (eq-eqb (get_or (take (suc n) rest) n 0) 0 (at_end ∙ ends))
    ∙ ap (λ t. Ok (t, drop (suc n) rest)) front

pub text_in-unended : (order : Order) (bytes : List ℕ) (n : ℕ) → n ≡ number order (take 2 bytes) → 0 < n
    → n + 2 ≤ length bytes → get_or bytes (n + 1) 0 ≢ 0 → text_in order bytes ≡ Err BadText
text_in-unended order bytes n is low le unended =
    let last : get_or (drop 2 bytes) (n - 1) 0 ≡ get_or bytes (n + 1) 0 = get_or-drop 2 bytes (n - 1) 0
    ∙ ap (λ k. get_or bytes k 0) (omega arith) in
    text_in-number order bytes n (omega arith) is
    ∙ unended-text n (drop 2 bytes) low (omega (arith, length-drop 2 bytes)) (λ e. unended (sym last ∙ e))

pub text_in-closed : (order : Order) (bytes : List ℕ) (n : ℕ) → n ≡ number order (take 2 bytes) → 0 < n
    → n + 2 ≤ length bytes → get_or bytes (n + 1) 0 ≡ 0 → IsTextSpelled (text_in order bytes) bytes (n + 2)
text_in-closed order bytes n is low le ends =
    let last : get_or (drop 2 bytes) (n - 1) 0 ≡ get_or bytes (n + 1) 0 = get_or-drop 2 bytes (n - 1) 0
    ∙ ap (λ k. get_or bytes k 0) (omega arith) in
    let room : n ≤ length (drop 2 bytes) = omega (arith, length-drop 2 bytes) in
    let size : length (take (n - 1) (drop 2 bytes)) ≡ n - 1 = length-take-le (n - 1) (drop 2 bytes) (omega arith) in
    let apart : zero_texts_of (n + 2) ≡ 0 = ap (λ b. cond b 1 0) (ne_eqb (n + 2) 2 (λ e. omega arith)) in
    record {
      text = take (n - 1) (drop 2 bytes);
      is = text_in-number order bytes n (omega arith) is ∙ ended-text n (drop 2 bytes) low room (last ∙ ends)
          ∙ ap (λ rest. Ok (take (n - 1) (drop 2 bytes), rest)) (drop-drop n 2 bytes
          ∙ ap (λ k. drop k bytes) (omega arith));
      within = le;
      low = omega arith;
      counted = omega arith;
    }

-- the texts so far, and those that are left
pub record AreTextsSoFar (order : Order) (count : ℕ) (bytes : List ℕ) (done at bare : ℕ) : Type 0 where
  pub texts : List (List ℕ)
  pub reads : items_in (text_in order) count bytes
      ≡ found_map (λ others. texts ++ others) (items_in (text_in order) (count - done) (drop at bytes))
  pub sizes : at + bare ≡ sum_by text_length texts
  pub within : at ≤ length bytes
  pub few : bare ≤ at

pub AreTextsSoFar-none : (order : Order) (count : ℕ) (bytes : List ℕ) → AreTextsSoFar order count bytes 0 0 0
AreTextsSoFar-none order count bytes = record {
  texts = [];
  reads = found_map-none (items_in (text_in order) count bytes)
      ∙ ap (λ k. found_map (λ others. [] ++ others) (items_in (text_in order) k bytes)) (omega arith);
  sizes = refl;
  within = omega arith;
  few = omega arith;
}
  where
    found_map-none : (r : Found (List (List ℕ))) → r ≡ found_map (λ others. [] ++ others) r
    found_map-none (Ok x) = refl
    found_map-none (Err reason) = refl

pub found_map-more : {X : Type 0} (xs : List X) (x : X) (r : Found (List X))
    → found_map (λ ys. xs ++ ys) (found_map (λ ys. x ∷ ys) r) ≡ found_map (λ ys. (xs ++ x ∷ []) ++ ys) r
found_map-more xs x (Ok y) = ap (λ zs. Ok (zs, y.1)) (sym (append_assoc xs (x ∷ []) y.0))
found_map-more xs x (Err reason) = refl

pub items_in-suc : {X : Type 0} (item : List ℕ → Found X) (n k : ℕ) (bytes : List ℕ) → k ≡ suc n
    → items_in item k bytes ≡ and_then (item bytes) (λ x. found_map (λ xs. x.0 ∷ xs) (items_in item n x.1))
unfolding items_in
items_in-suc item n k bytes is = ap (λ k. items_in item k bytes) is

pub items_in-zero : {X : Type 0} (item : List ℕ → Found X) (k : ℕ) (bytes : List ℕ) → k ≡ 0
    → items_in item k bytes ≡ Ok ([], bytes)
unfolding items_in
items_in-zero item k bytes is = ap (λ k. items_in item k bytes) is

-- a text of two bytes or more counts as at most one
zero_texts_of-few : (size : ℕ) → 2 ≤ size → zero_texts_of size ≤ size
zero_texts_of-few size low = by (eqb size 2)
  where
    by : (b : Bool) → cond b 1 0 ≤ size
    by true = omega arith
    by false = omega arith

-- one more text
pub AreTextsSoFar-more : (order : Order) (count : ℕ) (bytes : List ℕ) (done at bare size : ℕ)
    → AreTextsSoFar order count bytes done at bare → done < count
    → IsTextSpelled (text_in order (drop at bytes)) (drop at bytes) size
    → AreTextsSoFar order count bytes (done + 1) (at + size) (bare + zero_texts_of size)
AreTextsSoFar-more order count bytes done at bare size before lt s = record {
  texts = before.texts ++ s.text ∷ [];
  reads = before.reads ∙ ap (found_map (λ others. before.texts ++ others))
      (items_in-suc (text_in order) (count - (done + 1)) (count - done) (drop at bytes) (omega arith)
      ∙ ap (λ r. and_then r (λ (x : List ℕ
      × List ℕ). found_map (λ xs. x.0 ∷ xs) (items_in (text_in order) (count - (done + 1)) x.1))) s.is
      ∙ ap (λ rest. found_map (λ xs. s.text ∷ xs) (items_in (text_in order) (count - (done + 1)) rest))
      (drop-drop size at bytes))
      ∙ found_map-more before.texts s.text (items_in (text_in order) (count - (done + 1)) (drop (at + size) bytes));
  sizes = let sums : sum_by text_length (before.texts ++ s.text ∷ []) ≡ sum_by text_length before.texts
      + (0 + text_length s.text) = sum_by-append text_length before.texts (s.text ∷ []) in
      omega (arith, before.sizes, s.counted, sums);
  within = omega (arith, before.within, s.within, length-drop at bytes);
  few = let small = zero_texts_of-few size s.low in omega (arith, before.few);
}

-- a text that is not spelled
pub AreTextsSoFar-stops : (order : Order) (count : ℕ) (bytes : List ℕ) (done at bare : ℕ) (reason : BodyReason)
    → AreTextsSoFar order count bytes done at bare → done < count → text_in order (drop at bytes) ≡ Err reason
    → listed_in order Text count bytes ≡ Err reason
AreTextsSoFar-stops order count bytes done at bare reason before lt e =
    ap (found_map value.Texts) (before.reads
    ∙ ap (found_map (λ others. before.texts ++ others))
    (items_in-suc (text_in order) (count - (done + 1)) (count - done) (drop at bytes) (omega arith)
    ∙ ap (λ r. and_then r (λ (x : List ℕ
    × List ℕ). found_map (λ xs. x.0 ∷ xs) (items_in (text_in order) (count - (done + 1)) x.1))) e))

-- all texts
pub AreTextsSoFar-all : (order : Order) (count : ℕ) (bytes : List ℕ) (done at bare : ℕ)
    → AreTextsSoFar order count bytes done at bare → count ≤ done
    → IsSpelled (listed_in order Text count bytes) Text bytes (record { length = at; zero_texts = bare })
AreTextsSoFar-all order count bytes done at bare before le = record {
  value = value.Texts before.texts;
  is = ap (found_map value.Texts) (before.reads
      ∙ ap (found_map (λ others. before.texts ++ others))
      (items_in-zero (text_in order) (count - done) (drop at bytes) (omega arith))
      ∙ ap (λ xs. Ok (xs, drop at bytes)) (append-nil before.texts));
  within = before.within;
  size = before.sizes;
  few_texts = before.few;
}

-- a list of more items than there are bytes
items_in-many : {X : Type 0} (item : List ℕ → Found X)
    → ((bytes : List ℕ) (x : X × List ℕ) → item bytes ≡ Ok x → length x.1 < length bytes) → (m n : ℕ) (bytes : List ℕ)
    → length bytes < m → m ≤ n → items_in item n bytes ≡ items_in item m bytes
unfolding items_in
items_in-many item shrinks zero n bytes short le = absurd (omega arith)
items_in-many item shrinks (suc m) zero bytes short le = absurd (omega arith)
items_in-many {X} item shrinks (suc m) (suc n) bytes short le = by (item bytes) refl (items_in-many item shrinks m n)
  where
    by : (r : Found X) → item bytes ≡ r
        → ((rest : List ℕ) → length rest < m → m ≤ n → items_in item n rest ≡ items_in item m rest)
        → and_then r (λ x. found_map (λ xs. x.0 ∷ xs) (items_in item n x.1))
        ≡ and_then r (λ x. found_map (λ xs. x.0 ∷ xs) (items_in item m x.1))
    by (Ok x) is others = ap (found_map (λ xs. x.0 ∷ xs))
        (others x.1 (let lt = shrinks bytes x is in omega arith) (omega arith))
    by (Err reason) is others = refl

items_in-capped : {X : Type 0} (item : List ℕ → Found X)
    → ((bytes : List ℕ) (x : X × List ℕ) → item bytes ≡ Ok x → length x.1 < length bytes) → (n : ℕ) (bytes : List ℕ)
    → items_in item (min n (length bytes + 1)) bytes ≡ items_in item n bytes
items_in-capped item shrinks n bytes = elim (cases_lt (length bytes + 1) n) [
  | inl above ↦ ap (λ k. items_in item k bytes) (omega arith)
      ∙ sym (items_in-many item shrinks (length bytes + 1) n bytes (omega arith) (omega arith))
  | inr within ↦ ap (λ k. items_in item k bytes) (omega arith)
]

size_of-low : (width : Width) → 1 ≤ size_of width
size_of-low One = omega arith
size_of-low Two = omega arith
size_of-low Four = omega arith
size_of-low Eight = omega arith

number-shrinks : (order : Order) (width : Width) (bytes : List ℕ) (x : ℕ × List ℕ) → number_in order width bytes ≡ Ok x
    → length x.1 < length bytes
number-shrinks order width bytes x e =
    let f = (number_in-exact order width).found bytes x e in
    omega (arith, size_of-low width, f.2.size, ap length f.1 ∙ length-append f.0 x.1)

pair-shrinks : (order : Order) (width : Width) (bytes : List ℕ) (x : (ℕ × ℕ) × List ℕ)
    → pair_in order width bytes ≡ Ok x → length x.1 < length bytes
pair-shrinks order width bytes x e =
    let f = (pair_in-exact order width).found bytes x e in
    omega (
      arith,
      size_of-low width,
      f.2.first.size,
      ap length f.2.split ∙ length-append f.2.front f.2.back,
      ap length f.1 ∙ length-append f.0 x.1,
    )

link-shrinks : (order : Order) (bytes : List ℕ) (x : StructLink × List ℕ) → link_in order bytes ≡ Ok x
    → length x.1 < length bytes
link-shrinks order bytes x e =
    let f = (link_in-exact order).found bytes x e in
    omega (
      arith,
      f.2.class.size,
      f.2.instance.size,
      ap length f.2.split ∙ length-append f.2.front f.2.back,
      ap length f.1 ∙ length-append f.0 x.1,
    )

text-size : (order : Order) (text bytes : List ℕ) → IsText order text bytes → 2 ≤ length bytes
text-size order text bytes (inl s) =
    omega (arith, s.size.size, ap length s.split ∙ length-append (s.front ++ text) (0 ∷ []), length-append s.front text)
text-size order text bytes (inr s) = omega (arith, s.size.size)

text-shrinks : (order : Order) (bytes : List ℕ) (x : List ℕ × List ℕ) → text_in order bytes ≡ Ok x
    → length x.1 < length bytes
text-shrinks order bytes x e =
    let f = (text_in-exact order).found bytes x e in
    omega (arith, text-size order x.0 f.0 f.2, ap length f.1 ∙ length-append f.0 x.1)

listed_in-capped : (order : Order) (form : Form) (n : ℕ) (bytes : List ℕ)
    → listed_in order form (min n (length bytes + 1)) bytes ≡ listed_in order form n bytes
listed_in-capped order (Number One) n bytes =
    ap (found_map value.Bytes) (items_in-capped (number_in order One) (number-shrinks order One) n bytes)
listed_in-capped order (Number Two) n bytes =
    ap (found_map value.Nums) (items_in-capped (number_in order Two) (number-shrinks order Two) n bytes)
listed_in-capped order (Number Four) n bytes =
    ap (found_map value.Nums) (items_in-capped (number_in order Four) (number-shrinks order Four) n bytes)
listed_in-capped order (Number Eight) n bytes =
    ap (found_map value.Nums) (items_in-capped (number_in order Eight) (number-shrinks order Eight) n bytes)
listed_in-capped order (Pair width) n bytes =
    ap (found_map value.Pairs) (items_in-capped (pair_in order width) (pair-shrinks order width) n bytes)
listed_in-capped order Text n bytes =
    ap (found_map value.Texts) (items_in-capped (text_in order) (text-shrinks order) n bytes)
listed_in-capped order Link n bytes =
    ap (found_map value.Links) (items_in-capped (link_in order) (link-shrinks order) n bytes)

-- the field with dimensions
pub field_in-listed : (order : Order) (numbers : List ℕ) (form : Form) (counts : List Count) (bytes : List ℕ)
    (count : ℕ) → (counts ≡ [] → ⊥) → count ≡ min (item_count numbers counts) (length bytes + 1)
    → field_in order numbers form counts bytes ≡ listed_in order form count bytes
field_in-listed order numbers form [] bytes count some is = absurd (some refl)
field_in-listed order numbers form (c ∷ cs) bytes count some is =
    sym (listed_in-capped order form (item_count numbers (c ∷ cs)) bytes)
    ∙ ap (λ n. listed_in order form n bytes) (sym is)

-- the same by a count that no more than the bytes tell apart
pub field_in-alike : (order : Order) (numbers : List ℕ) (form : Form) (counts : List Count) (bytes : List ℕ)
    (count : ℕ) → (counts ≡ [] → ⊥) → min count (length bytes + 1) ≡ min (item_count numbers counts) (length bytes + 1)
    → field_in order numbers form counts bytes ≡ listed_in order form count bytes
field_in-alike order numbers form counts bytes count some same =
    field_in-listed order numbers form counts bytes (min count (length bytes + 1)) some same
    ∙ listed_in-capped order form count bytes

-- a slice to the end
pub TellsText-rest : (order : Order) (bytes : List ℕ) (at : ℕ) (r : Result ℕ BodyReason)
    → TellsText (text_in order (take (length bytes - at) (drop at bytes))) (take (length bytes - at) (drop at bytes)) r
    → TellsText (text_in order (drop at bytes)) (drop at bytes) r
TellsText-rest order bytes at r told =
    subst (λ rest. TellsText (text_in order rest) rest r) (take_rest bytes at) told
