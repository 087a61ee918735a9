-- The steps of a walk, and what their counters count.
use Rattle.std.proofs.Common.{◌≡◌, ℕ, ◌+◌, ◌-◌, ◌*◌, ◌^◌, ◌<◌, ◌≤◌, min, true, false, is_none}
use Rattle.std.proofs.Common.{List, [], ◌∷◌, ◌++◌, length, take, drop, get_or, map, All, Option, Some, None}
use Rattle.std.proofs.Common.{Result, refl, sym, ap, ◌∙◌, subst, arith, append_assoc}
use Rattle.std.specs.Prelude.{slice_get, option_and_then}
use Rattle.std.specs.Option.{option_map_or}
use Rattle.std.proofs.lemmas.List.{length-map, length-take, length-take-le, get_or-take, get_or-map, get_or_default}
use Rattle.std.proofs.lemmas.List.{at_drop_more}
use Rattle.std.proofs.lemmas.List.Elements.{All-cons, All-tail}
use Rattle.std.proofs.Math.Nat.{mul_assoc, mul_comm, zero-mul}
use Rattle.scalar_types.specs.declared.Order.{Order}
use Rattle.scalar_types.specs.declared.Width.{Width}
use Rattle.scalar_types.specs.Number.{size_of}
use Rattle.layout_plan.specs.declared.fields.Form.{Form}
use Rattle.layout_plan.specs.declared.fields.Form.TheVariants.{Number, Pair, Text, Link}
use Rattle.layout_plan.specs.declared.fields.Count.{Count}
use Rattle.layout_plan.specs.declared.fields.Count.TheVariants.{Fixed, Of, OfSigned}
use Rattle.layout_plan.specs.declared.fields.Field.{Field}
use Rattle.layout_plan.specs.declared.faults.BodyReason.{BodyReason}
use Rattle.layout_plan.specs.declared.spelled.Spelled.{Spelled}
use Rattle.layout_plan.specs.declared.steps.Items.TheVariants.{OneText, Texts, Plain}
use Rattle.layout_plan.specs.declared.steps.Step.{Step}
use Rattle.layout_plan.specs.Layout.{IsEarlier, AreSound}
use Rattle.layout_plan.specs.Body.{item_count}
use Rattle.layout_plan.specs.Reading.{single_in, listed_in, field_in}
use Rattle.layout_plan.specs.Marks.{product_by, numeral_of, fixed_width, is_varied, numbers_where, mark_of}
use Rattle.layout_plan.specs.Marks.{place_of}
use Rattle.layout_plan.specs.Spelled.{Tells, TellsLength}
use Rattle.layout_plan.specs.Steps.{single_width, items_of, unit_of, counter_of, counters_of, width_at}
use Rattle.layout_plan.specs.Steps.{step_of, no_step, step_at, steps_of, number_by, count_of_number, counter_value}
use Rattle.layout_plan.specs.Steps.{step_count}
use Rattle.layout_plan.specs.Steps.{IsStep, HasRoom, IsThere, AreThere, IsAmount}
use Rattle.layout_plan.specs.Walking.{number_at, AreNumbers, ArePlaces}
use Rattle.layout_plan.proofs.SpelledLemmas.{capped-product, field_in-alike, listed_numbers-Tells}
use Rattle.layout_plan.proofs.SpelledLemmas.{listed_pairs-Tells, listed_links-Tells}
use Rattle.layout_plan.proofs.CounterLemmas.{AreSound-at, counter-is, counter-room}
use Rattle.layout_plan.proofs.ReadingLemmas.{element-within}
use Rattle.layout_plan.proofs.ReachLemmas.{ArePlaces-at}
use Rattle.std.proofs.lemmas.Option.{slice_get_read}
use Rattle.layout_plan.proofs.MarkLemmas.{field-from, numbers_where-varied, IsNumbered, numbers_where-at}
use Rattle.layout_plan.proofs.MarkLemmas.{length-numbers_where, mark_of-all, mark_of-later, IsLater-varied}

-- ---- the steps of the varied fields

-- the step of the varied field after j others
pub record IsStepAt (fields : List Field) (j : ℕ) (s : Step) : Type 0 where
  pub numbered : IsNumbered is_varied fields j s.field
  pub made : s ≡ step_of fields s.field numbered.field

pub IsStepAt-step : (fields : List Field) (j : ℕ) (s : Step) → IsStepAt fields j s → IsStep fields s
IsStepAt-step fields j s at =
    record { field = at.numbered.field; is = at.numbered.is; varied = at.numbered.passes; made = at.made }

pub length-steps_of : (fields : List Field) → length (steps_of fields) ≡ (mark_of fields (length fields)).varied
length-steps_of fields = length-map (numbers_where is_varied 0 fields) (step_at fields) ∙ sym (mark_of-all fields)

pub steps-all : (fields : List Field) (steps : List Step) → steps ≡ steps_of fields
    → (mark_of fields (length fields)).varied ≡ length steps
steps-all fields steps are = sym (length-steps_of fields) ∙ ap length (sym are)

-- the steps of the varied fields before field k are the first of all
pub steps-before : (fields : List Field) (steps : List Step) (k count : ℕ) → steps ≡ steps_of fields → k ≤ length fields
    → count ≡ (mark_of fields k).varied → length (take count steps) ≡ count
steps-before fields steps k count are le is =
    length-take-le count steps
    (omega (
      arith,
      is,
      ap length are,
      length-steps_of fields,
      IsLater-varied (mark_of fields k) (mark_of fields (length fields)) (mark_of-later fields k (length fields) le),
    ))

pub steps-at : (fields : List Field) (steps : List Step) (k count j : ℕ) (d : Step) → steps ≡ steps_of fields
    → k ≤ length fields → count ≡ (mark_of fields k).varied → j < length (take count steps)
    → IsStepAt fields j (get_or (take count steps) j d)
steps-at fields steps k count j d are le is lt =
    subst (IsStepAt fields j) (sym whole) (record { numbered = n; made = refl })
  where
    numbers : List ℕ
    numbers = numbers_where is_varied 0 fields

    few : j < count
    few = omega (arith, lt, steps-before fields steps k count are le is)

    within : j < length numbers
    within = omega (
      arith,
      few,
      is,
      mark_of-all fields,
      IsLater-varied (mark_of fields k) (mark_of fields (length fields)) (mark_of-later fields k (length fields) le),
    )

    n : IsNumbered is_varied fields j (get_or numbers j 0)
    n = numbers_where-at is_varied fields j (get_or numbers j 0) 0
        (omega (arith, within, length-numbers_where is_varied 0 fields)) refl

    whole : get_or (take count steps) j d ≡ step_of fields (get_or numbers j 0) n.field
    whole =
        get_or-take count steps j d few
        ∙ ap (λ steps. get_or steps j d) are
        ∙ get_or-map (step_at fields) numbers j 0 d within
        ∙ ap (λ o. option_map_or (step_of fields (get_or numbers j 0)) o no_step) n.is

pub steps-is : (fields : List Field) (steps : List Step) (k count j : ℕ) (s : Step) → steps ≡ steps_of fields
    → k ≤ length fields → count ≡ (mark_of fields k).varied → j < length (take count steps)
    → s ≡ get_or (take count steps) j s → s ≡ get_or (steps_of fields) j no_step
steps-is fields steps k count j s are le is lt here =
    let few : j < count = omega (arith, lt, steps-before fields steps k count are le is) in
    let within : j < length steps = omega (arith, lt, length-take count steps) in
    here
    ∙ get_or-take count steps j s few
    ∙ get_or_default steps j s no_step within
    ∙ ap (λ steps. get_or steps j no_step) are

-- ---- what the bytes of a varied field are

pub Tells-text : (order : Order) (numbers : List ℕ) (form : Form) (counts : List Count) (bytes : List ℕ)
    (r : Result Spelled BodyReason) → OneText ≡ items_of form counts → Tells (single_in order Text bytes) Text bytes r
    → Tells (field_in order numbers form counts bytes) form bytes r
Tells-text order numbers (Number width) counts bytes r is told = cc
Tells-text order numbers (Pair width) counts bytes r is told = cc
Tells-text order numbers Link counts bytes r is told = cc
Tells-text order numbers Text [] bytes r is told = told
Tells-text order numbers Text (c ∷ cs) bytes r is told = cc

-- a count that is right as far as the greatest number tells
same-count : (n m k : ℕ) → min n (2 ^ 64 - 1) ≡ min (m * 1) (2 ^ 64 - 1) → k < 2 ^ 64 - 1
    → min n (k + 1) ≡ min m (k + 1)
same-count n m k same short = omega arith

capped-again : (count n k : ℕ) → count ≡ min n (2 ^ 64 - 1) → k < 2 ^ 64 - 1 → min count (k + 1) ≡ min n (k + 1)
capped-again count n k is short = omega arith

pub Tells-texts : (order : Order) (f : Field) (numbers : List ℕ) (n count : ℕ) (bytes : List ℕ)
    (r : Result Spelled BodyReason) → Texts ≡ items_of f.form f.counts → IsAmount n numbers f
    → count ≡ min n (2 ^ 64 - 1) → length bytes < 2 ^ 64 - 1 → Tells (listed_in order Text count bytes) Text bytes r
    → Tells (field_in order numbers f.form f.counts bytes) f.form bytes r
Tells-texts order f numbers n count bytes r is amount capped short told = by f.form f.counts is amount
  where
    by : (form : Form) (counts : List Count) → Texts ≡ items_of form counts
        → min n (2 ^ 64 - 1) ≡ min (item_count numbers counts * unit_of form) (2 ^ 64 - 1)
        → Tells (field_in order numbers form counts bytes) form bytes r
    by (Number width) counts is amount = cc
    by (Pair width) counts is amount = cc
    by Link counts is amount = cc
    by Text [] is amount = cc
    by Text (c ∷ cs) is amount =
        subst (λ found. Tells found Text bytes r)
        (sym (field_in-alike order numbers Text (c ∷ cs) bytes count (λ e. cc)
        (capped-again count n (length bytes) capped short
        ∙ same-count n (item_count numbers (c ∷ cs)) (length bytes) amount short))) told

pub Tells-plain : (order : Order) (f : Field) (numbers : List ℕ) (n whole : ℕ) (bytes : List ℕ)
    (r : Result Spelled BodyReason) → is_varied f ≡ true → Plain ≡ items_of f.form f.counts → IsAmount n numbers f
    → whole ≡ min n (2 ^ 64 - 1) → length bytes < 2 ^ 64 - 1 → TellsLength whole bytes r
    → Tells (field_in order numbers f.form f.counts bytes) f.form bytes r
Tells-plain order f numbers n whole bytes r varied is amount capped short told =
    by f.form f.counts varied is (capped ∙ amount)
  where
    by : (form : Form) (counts : List Count) → is_none (fixed_width form counts) ≡ true → Plain ≡ items_of form counts
        → whole ≡ min (item_count numbers counts * unit_of form) (2 ^ 64 - 1)
        → Tells (field_in order numbers form counts bytes) form bytes r
    by (Number width) [] varied is product = cc
    by (Pair width) [] varied is product = cc
    by Link [] varied is product = cc
    by Text [] varied is product = cc
    by Text (c ∷ cs) varied is product = cc
    by (Number width) (c ∷ cs) varied is product =
        listed_numbers-Tells order width (item_count numbers (c ∷ cs)) bytes r whole product short told
    by (Pair width) (c ∷ cs) varied is product =
        listed_pairs-Tells order width (item_count numbers (c ∷ cs)) bytes r whole product short told
    by Link (c ∷ cs) varied is product =
        listed_links-Tells order (item_count numbers (c ∷ cs)) bytes r whole product short told

-- ---- counters

number_by-at : (order : Order) (form : Form) (counts : List Count) (bytes : List ℕ)
    → number_by order (single_width form counts) bytes ≡ number_at order form counts bytes
number_by-at order (Number width) [] bytes = refl
number_by-at order (Pair width) [] bytes = refl
number_by-at order Text [] bytes = refl
number_by-at order Link [] bytes = refl
number_by-at order (Number width) (c ∷ cs) bytes = refl
number_by-at order (Pair width) (c ∷ cs) bytes = refl
number_by-at order Text (c ∷ cs) bytes = refl
number_by-at order Link (c ∷ cs) bytes = refl

pub number_at-by : (order : Order) (form : Form) (counts : List Count) (bytes : List ℕ) (width : Option Width) (n : ℕ)
    → width ≡ single_width form counts → n ≡ number_by order width bytes → n ≡ number_at order form counts bytes
number_at-by order form counts bytes width n is number =
    number ∙ ap (λ w. number_by order w bytes) is ∙ number_by-at order form counts bytes

single-room : (form : Form) (counts : List Count) (bytes : List ℕ)
    → ((width : ℕ) → fixed_width form counts ≡ Some width → width ≤ length bytes)
    → HasRoom (single_width form counts) bytes
single-room (Number width) [] bytes room = room (size_of width) refl
single-room (Pair width) [] bytes room = tt
single-room Text [] bytes room = tt
single-room Link [] bytes room = tt
single-room (Number width) (c ∷ cs) bytes room = tt
single-room (Pair width) (c ∷ cs) bytes room = tt
single-room Text (c ∷ cs) bytes room = tt
single-room Link (c ∷ cs) bytes room = tt

pub number-room : (form : Form) (counts : List Count) (bytes : List ℕ) (width : Option Width)
    → width ≡ single_width form counts → ((width : ℕ) → fixed_width form counts ≡ Some width → width ≤ length bytes)
    → HasRoom width bytes
number-room form counts bytes width is room =
    subst (λ w. HasRoom w bytes) (sym is) (single-room form counts bytes room)

-- the width of a field's number
pub width_at-field : (fields : List Field) (i : ℕ) (f : Field) → slice_get fields i ≡ Some f
    → width_at fields i ≡ single_width f.form f.counts
width_at-field fields i f is = ap (λ o. option_and_then (λ (f : Field). single_width f.form f.counts) o) is

-- a counter stands in the body, and counts by the record's number
counter-there : (order : Order) (fields : List Field) (body : List ℕ) (k i : ℕ) (ends : List ℕ) (signed : Option Width)
    → ArePlaces order fields body k ends → i < k → k ≤ length fields → IsThere body ends (counter_of fields i signed)
counter-there order fields body k i ends signed places lt le =
    let f = element-within fields i (omega arith) in
    let at = ArePlaces-at order fields body k i ends (mark_of fields i) 0 places (omega arith) refl in
    record {
      room = at.room;
      within = at.reached.within;
      whole = number-room f.0.form f.0.counts (drop (place_of ends (mark_of fields i)) body) (width_at fields i)
          (width_at-field fields i f.0 f.1) (counter-room order fields body k i f.0 ends places lt f.1);
    }

counter-counts : (order : Order) (fields : List Field) (body : List ℕ) (k i : ℕ) (ends numbers : List ℕ)
    (signed : Option Width) → ArePlaces order fields body k ends → i < k → k ≤ length fields
    → AreNumbers order fields body k numbers
    → counter_value order body ends (counter_of fields i signed) ≡ count_of_number signed (get_or numbers i 0)
counter-counts order fields body k i ends numbers signed places lt le are =
    let f = element-within fields i (omega arith) in
    let rest = drop (place_of ends (mark_of fields i)) body in
    ap (λ w. count_of_number signed (number_by order w rest)) (width_at-field fields i f.0 f.1)
    ∙ ap (count_of_number signed) (number_by-at order f.0.form f.0.counts rest
    ∙ counter-is order fields body k i f.0 ends numbers places lt f.1 are)

earlier-head : (k : ℕ) (c : Count) (cs : List Count) → All (IsEarlier k) (c ∷ cs) → IsEarlier k c
earlier-head k c cs earlier = earlier 0 c (omega arith)

pub counters-there : (order : Order) (fields : List Field) (body : List ℕ) (k : ℕ) (ends : List ℕ) (counts : List Count)
    → ArePlaces order fields body k ends → k ≤ length fields → All (IsEarlier k) counts
    → AreThere body ends (counters_of fields counts)
counters-there order fields body k ends [] places le earlier = λ j d lt. absurd (omega arith)
counters-there order fields body k ends (Fixed n ∷ cs) places le earlier =
    counters-there order fields body k ends cs places le (All-tail (IsEarlier k) (Fixed n) cs earlier)
counters-there order fields body k ends (Of i ∷ cs) places le earlier =
    All-cons (IsThere body ends) (counter_of fields i None) (counters_of fields cs)
    (counter-there order fields body k i ends None places (earlier-head k (Of i) cs earlier) le)
    (counters-there order fields body k ends cs places le (All-tail (IsEarlier k) (Of i) cs earlier))
counters-there order fields body k ends (OfSigned i width ∷ cs) places le earlier =
    All-cons (IsThere body ends) (counter_of fields i (Some width)) (counters_of fields cs)
    (counter-there order fields body k i ends (Some width) places (earlier-head k (OfSigned i width) cs earlier) le)
    (counters-there order fields body k ends cs places le (All-tail (IsEarlier k) (OfSigned i width) cs earlier))

numeral-more : (n p q : ℕ) → (n * p) * q ≡ n * (p * q)
numeral-more n p q = mul_assoc n p q

unit-last : (p u q : ℕ) → (p * u) * q ≡ (p * q) * u
unit-last p u q = mul_assoc p u q ∙ ap (λ n. p * n) (mul_comm u q) ∙ sym (mul_assoc p q u)

named-more : (p v q : ℕ) → (1 * p) * (v * q) ≡ v * (p * q)
named-more p v q = omega arith

-- the numerals and the counters count the items
pub counters-count : (order : Order) (fields : List Field) (body : List ℕ) (k : ℕ) (ends numbers : List ℕ)
    (counts : List Count) → ArePlaces order fields body k ends → k ≤ length fields
    → AreNumbers order fields body k numbers → All (IsEarlier k) counts
    → product_by numeral_of counts * product_by (counter_value order body ends) (counters_of fields counts)
    ≡ item_count numbers counts
counters-count order fields body k ends numbers [] places le are earlier = refl
counters-count order fields body k ends numbers (Fixed n ∷ cs) places le are earlier =
    numeral-more n (product_by numeral_of cs) (product_by (counter_value order body ends) (counters_of fields cs))
    ∙ ap (λ p. n * p) (counters-count order fields body k ends numbers cs places le are
    (All-tail (IsEarlier k) (Fixed n) cs earlier))
counters-count order fields body k ends numbers (Of i ∷ cs) places le are earlier =
    named-more (product_by numeral_of cs) (counter_value order body ends (counter_of fields i None))
    (product_by (counter_value order body ends) (counters_of fields cs))
    ∙ ap (λ v. v * (product_by numeral_of cs * product_by (counter_value order body ends) (counters_of fields cs)))
    (counter-counts order fields body k i ends numbers None places (earlier-head k (Of i) cs earlier) le are)
    ∙ ap (λ p. get_or numbers i 0 * p)
    (counters-count order fields body k ends numbers cs places le are (All-tail (IsEarlier k) (Of i) cs earlier))
counters-count order fields body k ends numbers (OfSigned i width ∷ cs) places le are earlier =
    named-more (product_by numeral_of cs) (counter_value order body ends (counter_of fields i (Some width)))
    (product_by (counter_value order body ends) (counters_of fields cs))
    ∙ ap (λ v. v * (product_by numeral_of cs * product_by (counter_value order body ends) (counters_of fields cs)))
    (counter-counts order fields body k i ends numbers (Some width) places
    (earlier-head k (OfSigned i width) cs earlier) le are)
    ∙ ap (λ p. count_of_number (Some width) (get_or numbers i 0) * p)
    (counters-count order fields body k ends numbers cs places le are
    (All-tail (IsEarlier k) (OfSigned i width) cs earlier))

-- what a step counts is what its field has
pub step-amount : (order : Order) (fields : List Field) (body : List ℕ) (k : ℕ) (f : Field) (ends : List ℕ) (s : Step)
    → s ≡ step_of fields k f → slice_get fields k ≡ Some f → AreSound 0 fields → k < length fields
    → ArePlaces order fields body k ends → (numbers : List ℕ) → AreNumbers order fields body k numbers
    → IsAmount (step_count order body ends s) numbers f
step-amount order fields body k f ends s made is sound lt places numbers are =
    let value = product_by (counter_value order body ends) (counters_of fields f.counts) in
    let numerals = product_by numeral_of f.counts in
    let earlier : All (IsEarlier k) f.counts =
    subst (λ i. All (IsEarlier i) f.counts) (omega arith) (AreSound-at 0 k fields f sound is) in
    ap (λ s. min (step_count order body ends s) (2 ^ 64 - 1)) made
    ∙ capped-product (numerals * unit_of f.form) value (2 ^ 64 - 1)
    ∙ ap (λ n. min n (2 ^ 64 - 1)) (unit-last numerals (unit_of f.form) value
    ∙ ap (λ n. n * unit_of f.form) (counters-count order fields body k ends numbers f.counts places (omega arith) are
    earlier))

pub step-there : (order : Order) (fields : List Field) (body : List ℕ) (k : ℕ) (f : Field) (ends : List ℕ) (s : Step)
    → s ≡ step_of fields k f → slice_get fields k ≡ Some f → AreSound 0 fields → k < length fields
    → ArePlaces order fields body k ends → AreThere body ends s.counters
step-there order fields body k f ends s made is sound lt places =
    let earlier : All (IsEarlier k) f.counts =
    subst (λ i. All (IsEarlier i) f.counts) (omega arith) (AreSound-at 0 k fields f sound is) in
    subst (λ (s : Step). AreThere body ends s.counters) (sym made)
    (counters-there order fields body k ends f.counts places (omega arith) earlier)

-- a product of one
pub product-one : {X : Type 0} (f : X → ℕ) (xs : List X) (d : X) → length xs ≡ 1 → f (get_or xs 0 d) ≡ product_by f xs
product-one f [] d one = absurd (omega (arith, one))
product-one f (x ∷ []) d one = omega arith
product-one f (x ∷ y ∷ xs) d one = absurd (omega (arith, one))

-- a product that is 0 so far is 0
pub capped-none : (count others whole cap : ℕ) → count ≡ 0 → min (count * others) cap ≡ min whole cap
    → 0 ≡ min whole cap
capped-none count others whole cap is same = omega (arith, ap (λ n. n * others) is, zero-mul others, same)

-- one more factor of a product that is capped
pub product-more : {X : Type 0} (f : X → ℕ) (xs : List X) (i : ℕ) (d : X) (count extent next cap : ℕ) → i < length xs
    → extent ≡ f (get_or xs i d) → next ≡ min (count * extent) cap
    → min (next * product_by f (drop (i + 1) xs)) cap ≡ min (count * product_by f (drop i xs)) cap
product-more f xs i d count extent next cap lt is product =
    let others = product_by f (drop (i + 1) xs) in
    ap (λ n. min (n * others) cap) product
    ∙ capped-product (count * extent) others cap
    ∙ ap (λ n. min n cap) (mul_assoc count extent others
    ∙ ap (λ n. count * n) (ap (λ e. e * others) is ∙ sym (at_drop_more (product_by f) xs i d lt)))

-- ---- the steps that are made

earlier-more : (i n : ℕ) → i ≤ n → (c : Count) → IsEarlier i c → IsEarlier n c
earlier-more i n le (Fixed m) earlier = tt
earlier-more i n le (Of k) earlier = omega arith
earlier-more i n le (OfSigned k width) earlier = omega arith

-- the dimensions of a field name fields
pub sound-within : (fields : List Field) (i : ℕ) (f : Field) (counts : List Count) → AreSound 0 fields
    → i < length fields → slice_get fields i ≡ Some f → counts ≡ f.counts → All (IsEarlier (length fields)) counts
sound-within fields i f counts sound lt is same =
    subst (All (IsEarlier (length fields))) (sym same)
    (λ k d within. earlier-more (0 + i) (length fields) (omega arith) (get_or f.counts k d)
    (AreSound-at 0 i fields f sound is k d within))

pub step_at-field : (fields : List Field) (i : ℕ) (f : Field) → slice_get fields i ≡ Some f
    → step_at fields i ≡ step_of fields i f
step_at-field fields i f is = ap (λ o. option_map_or (step_of fields i) o no_step) is

-- the steps as far as they are made: with those of the other fields they are all
pub record AreStepsSoFar (fields : List Field) (i : ℕ) (steps : List Step) : Type 0 where
  pub steps_are : steps ++ map (step_at fields) (numbers_where is_varied i (drop i fields)) ≡ steps_of fields

pub AreStepsSoFar-more : (fields : List Field) (i : ℕ) (steps : List Step) (f : Field) (s : Step)
    → AreStepsSoFar fields i steps → i < length fields → f ≡ get_or fields i f → is_varied f ≡ true
    → s ≡ step_of fields i f → AreStepsSoFar fields (i + 1) (steps ++ s ∷ [])
AreStepsSoFar-more fields i steps f s before lt is varied made =
    let others = map (step_at fields) (numbers_where is_varied (i + 1) (drop (i + 1) fields)) in
    let first : s ≡ step_at fields i = made
    ∙ sym (step_at-field fields i f (slice_get_read fields (length fields) i f refl lt is)) in
    record {
      steps_are = append_assoc steps (s ∷ []) others ∙ ap (λ s. steps ++ (s ∷ others)) first
          ∙ ap (λ ns. steps ++ map (step_at fields) ns)
          (sym (ap (numbers_where is_varied i) (field-from fields i f lt is)
          ∙ numbers_where-varied is_varied i f (drop (i + 1) fields) true varied)) ∙ before.steps_are;
    }

pub AreStepsSoFar-kept : (fields : List Field) (i : ℕ) (steps : List Step) (f : Field) → AreStepsSoFar fields i steps
    → i < length fields → f ≡ get_or fields i f → is_varied f ≡ false → AreStepsSoFar fields (i + 1) steps
AreStepsSoFar-kept fields i steps f before lt is fixed = record {
  steps_are = ap (λ ns. steps ++ map (step_at fields) ns)
      (sym (ap (numbers_where is_varied i) (field-from fields i f lt is)
      ∙ numbers_where-varied is_varied i f (drop (i + 1) fields) false fixed)) ∙ before.steps_are;
}
