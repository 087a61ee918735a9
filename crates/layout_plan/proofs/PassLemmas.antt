-- One step of a walk: where its field begins, and what its counters count, by which the next step may count again.
use Rattle.std.proofs.Common.{◌≡◌, ℕ, zero, suc, ◌+◌, ◌-◌, ◌*◌, ◌^◌, ◌<◌, ◌≤◌, min, Bool, true, false, List, [], ◌∷◌}
use Rattle.std.proofs.Common.{length, drop, get_or, set, All, Option, Some, None, refl, sym, ap, ◌∙◌, subst, arith}
use Rattle.std.proofs.lemmas.List.Elements.{All-tail}
use Rattle.std.proofs.lemmas.Option.{slice_get_within}
use Rattle.std.proofs.Math.Nat.{mul_comm}
use Rattle.scalar_types.specs.declared.Order.{Order}
use Rattle.scalar_types.specs.declared.Width.{Width}
use Rattle.layout_plan.specs.declared.fields.Form.{Form}
use Rattle.layout_plan.specs.declared.fields.Form.TheVariants.{Number, Pair, Text, Link}
use Rattle.layout_plan.specs.declared.fields.Count.{Count}
use Rattle.layout_plan.specs.declared.fields.Count.TheVariants.{Fixed, Of, OfSigned}
use Rattle.layout_plan.specs.declared.fields.Field.{Field}
use Rattle.layout_plan.specs.declared.steps.Items.TheVariants.{OneText}
use Rattle.layout_plan.specs.declared.steps.Step.{Step}
use Rattle.layout_plan.specs.Layout.{IsEarlier, AreSound}
use Rattle.layout_plan.specs.Marks.{product_by, mark_of, end_of, place_of}
use Rattle.layout_plan.specs.Walking.{IsReached, IsWalked, ArePlaces}
use Rattle.layout_plan.specs.declared.marks.Mark.{Mark}
use Rattle.layout_plan.specs.Steps.{items_of, counter_of, counters_of, counter_value, counted_by, count_of_number}
use Rattle.layout_plan.specs.Steps.{number_by}
use Rattle.layout_plan.specs.Steps.{no_step, IsStep, AreRepeats}
use Rattle.std.proofs.lemmas.Bool.{false≢true}
use Rattle.layout_plan.proofs.SpelledLemmas.{capped-product}
use Rattle.layout_plan.proofs.CounterLemmas.{AreSound-at}
use Rattle.layout_plan.proofs.MarkLemmas.{mark_of-later, IsLater-varied}
use Rattle.layout_plan.proofs.ReachLemmas.{end_of-stays, IsWalked-here}

-- where the field of a step begins
pub step-place : (fields : List Field) (ends : List ℕ) (s : Step) (at : ℕ) → IsStep fields s
    → at ≡ end_of ends (mark_of fields s.field).varied → at + s.mark.skip ≡ place_of ends (mark_of fields s.field)
step-place fields ends s at st is =
    let mark = ap (λ (s : Step). s.mark) st.made in
    omega (arith, is, ap (λ (m : Mark). m.skip) mark)

pub step-start : (order : Order) (fields : List Field) (body ends : List ℕ) (s : Step) (at zero_texts : ℕ)
    → IsStep fields s → IsWalked order fields body (mark_of fields s.field).varied ends zero_texts
    → at ≡ end_of ends (mark_of fields s.field).varied → at + s.mark.skip ≤ length body
    → IsReached order fields body s.field (at + s.mark.skip) zero_texts × ArePlaces order fields body s.field ends
step-start order fields body ends s at zero_texts st walked is fits =
    IsWalked-here order fields body s.field ends (at + s.mark.skip) zero_texts walked
    (omega (arith, slice_get_within fields s.field st.field st.is)) (step-place fields ends s at st is) fits

-- a text without dimension has no counter
one-text : (form : Form) (counts : List Count) → items_of form counts ≡ OneText → counts ≡ []
one-text (Number width) counts is = cc
one-text (Pair width) counts is = cc
one-text Link counts is = cc
one-text Text [] is = refl
one-text Text (c ∷ cs) is = cc

pub text-counters : (fields : List Field) (s : Step) → IsStep fields s → s.items ≡ OneText → s.counters ≡ []
text-counters fields s st is =
    ap (λ (s : Step). s.counters) st.made
    ∙ ap (counters_of fields) (one-text st.field.form st.field.counts (ap (λ (s : Step). s.items) (sym st.made) ∙ is))

pub text-counted : (order : Order) (body ends : List ℕ) (fields : List Field) (s : Step) → IsStep fields s
    → s.items ≡ OneText → 1 ≡ counted_by order body ends s.counters
text-counted order body ends fields s st is = ap (counted_by order body ends) (sym (text-counters fields s st is))

-- so many items of a size, where their number is capped
pub capped-amount : (factor product count amount cap : ℕ) → count ≡ min product cap → amount ≡ min (factor * count) cap
    → amount ≡ min (factor * product) cap
capped-amount factor product count amount cap is whole =
    whole
    ∙ ap (λ n. min n cap) (mul_comm factor count)
    ∙ ap (λ n. min (n * factor) cap) is
    ∙ capped-product product factor cap
    ∙ ap (λ n. min n cap) (mul_comm product factor)

-- a number that fits is no more than the cap
pub one-counted : (extent product : ℕ) → extent ≡ product → extent < 2 ^ 64 → extent ≡ min product (2 ^ 64 - 1)
one-counted extent product is fits = omega (arith, is, fits)

-- what counters of earlier fields count is not changed by a later end
counter-stays : (order : Order) (fields : List Field) (body ends : List ℕ) (varied at k i : ℕ) (signed : Option Width)
    → i < k → (mark_of fields k).varied ≤ varied
    → counter_value order body (set ends varied at) (counter_of fields i signed)
    ≡ counter_value order body ends (counter_of fields i signed)
counter-stays order fields body ends varied at k i signed lt le =
    let mark = mark_of fields i in
    let c = counter_of fields i signed in
    ap (λ end. count_of_number signed (number_by order c.width (drop (end + mark.skip) body)))
    (end_of-stays ends varied at mark.varied
    (omega (arith, IsLater-varied mark (mark_of fields k) (mark_of-later fields i k (omega arith)))))

counters-stay : (order : Order) (fields : List Field) (body ends : List ℕ) (varied at k : ℕ) (counts : List Count)
    → All (IsEarlier k) counts → (mark_of fields k).varied ≤ varied
    → product_by (counter_value order body (set ends varied at)) (counters_of fields counts)
    ≡ product_by (counter_value order body ends) (counters_of fields counts)
counters-stay order fields body ends varied at k [] earlier le = refl
counters-stay order fields body ends varied at k (Fixed n ∷ cs) earlier le =
    counters-stay order fields body ends varied at k cs (All-tail (IsEarlier k) (Fixed n) cs earlier) le
counters-stay order fields body ends varied at k (Of i ∷ cs) earlier le = λ j.
    counter-stays order fields body ends varied at k i None (earlier 0 (Of i) (omega arith)) le j
    * counters-stay order fields body ends varied at k cs (All-tail (IsEarlier k) (Of i) cs earlier) le j
counters-stay order fields body ends varied at k (OfSigned i width ∷ cs) earlier le = λ j.
    counter-stays order fields body ends varied at k i (Some width) (earlier 0 (OfSigned i width) (omega arith)) le j
    * counters-stay order fields body ends varied at k cs (All-tail (IsEarlier k) (OfSigned i width) cs earlier) le j

pub step-stays : (order : Order) (fields : List Field) (body ends : List ℕ) (varied at : ℕ) (s : Step)
    → AreSound 0 fields → IsStep fields s → (mark_of fields s.field).varied ≤ varied
    → counted_by order body ends s.counters ≡ counted_by order body (set ends varied at) s.counters
step-stays order fields body ends varied at s sound st le =
    let earlier : All (IsEarlier s.field) st.field.counts =
    subst (λ i. All (IsEarlier i) st.field.counts) (omega arith) (AreSound-at 0 s.field fields st.field sound st.is) in
    let stays = counters-stay order fields body ends varied at s.field st.field.counts earlier le in
    let counters = ap (λ (s : Step). s.counters) st.made in
    ap (counted_by order body ends) counters
    ∙ ap (λ n. min n (2 ^ 64 - 1)) (sym stays)
    ∙ ap (counted_by order body (set ends varied at)) (sym counters)

-- what the step before counts is what a step counts that repeats it
pub step-repeats : (order : Order) (body ends : List ℕ) (steps : List Step) (repeats : List Bool) (j count : ℕ)
    (s : Step) → AreRepeats steps repeats → j < length steps → get_or repeats j false ≡ true
    → s ≡ get_or steps j no_step
    → ((i : ℕ) → i + 1 ≡ j → count ≡ counted_by order body ends (get_or steps i no_step).counters)
    → count ≡ counted_by order body ends s.counters
step-repeats order body ends steps repeats zero count s are lt again is before =
    absurd (false≢true (sym are.first ∙ again))
step-repeats order body ends steps repeats (suc i) count s are lt again is before =
    let more : i + 1 ≡ suc i = omega arith in
    let same = are.same i (omega arith) (ap (λ j. get_or repeats j false) more ∙ again) in
    before i more
    ∙ ap (counted_by order body ends) (same
    ∙ ap (λ j. (get_or steps j no_step).counters) more
    ∙ ap (λ (s : Step). s.counters) (sym is))

-- the first of them, as far as they are found
pub record AreRepeatsSoFar (steps : List Step) (n : ℕ) (repeats : List Bool) : Type 0 where
  pub many : length repeats ≡ n
  pub first : get_or repeats 0 false ≡ false
  pub same : (j : ℕ) → j + 1 < n → get_or repeats (j + 1) false ≡ true
      → (get_or steps j no_step).counters ≡ (get_or steps (j + 1) no_step).counters
