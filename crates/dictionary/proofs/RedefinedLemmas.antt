-- An entry is refused as Redefined exactly where it redefines its class.
use Rattle.std.proofs.Common.{◌≡◌, ◌↔◌, ℕ, ◌≤◌, Bool, true, false, cond, eqb, List, [], ◌∷◌, ◌++◌, Option, Some, None}
use Rattle.std.proofs.Common.{IsSomeAnd, is_some, Result, Ok, Err, refl, sym, ◌∙◌, ap, subst, arith}
use Rattle.std.proofs.lemmas.Bool.{true≢false, eqb-true}
use Rattle.std.proofs.lemmas.Bool.Decides.{nat_tests}
use Rattle.dictionary.specs.declared.entries.Entry.{Entry}
use Rattle.dictionary.specs.declared.held.AddFault.{AddFault}
use Rattle.dictionary.specs.declared.held.AddFault.TheVariants.{ClassRange, Redefined, NameTwice, ElementLimit}
use Rattle.dictionary.specs.Same.{IsSameEntry, same_entries}
use Rattle.dictionary.specs.Dictionary.{entry_of, class_named, is_built_in, is_out_of_range, is_too_long, step, step_by}
use Rattle.dictionary.specs.Dictionary.{step_new, step_held, IsRedefined, IsDictionary}
use Rattle.dictionary.proofs.SameLemmas.{entries-Decides}

-- Redefined is no answer of a step
abbrev Other : Result (List Entry) AddFault → Type 0
Other r = r ≡ Err Redefined → ⊥

either : (b : Bool) (x y : Result (List Entry) AddFault) → Other x → Other y → Other (cond b x y)
either true x y left right = left
either false x y left right = right

on_length : (held : List Entry) (e : Entry) → Other (cond (is_too_long e) (Err ElementLimit) (Ok held))
on_length held e = either (is_too_long e) (Err ElementLimit) (Ok held) (λ h. cc) (λ h. cc)

on_new : (held : List Entry) (e : Entry) → Other (step_new held e)
on_new held e =
    either (is_some (class_named held e.name)) (Err NameTwice)
    (cond (is_too_long e) (Err ElementLimit) (Ok (held ++ e ∷ []))) (λ h. cc)
    (either (is_too_long e) (Err ElementLimit) (Ok (held ++ e ∷ [])) (λ h. cc) (λ h. cc))

-- an entry beside the one held of its class
beside : (held : List Entry) (old e : Entry) → (step_held held old e ≡ Err Redefined) ↔ (IsSameEntry old e → ⊥)
beside held old e = by (same_entries old e) (entries-Decides old e)
  where
    by : (b : Bool) → (b ≡ true → IsSameEntry old e) × (IsSameEntry old e → b ≡ true)
        → (cond b (Ok held) (Err Redefined) ≡ Err Redefined) ↔ (IsSameEntry old e → ⊥)
    by true decides = (λ h. cc, λ other. absurd (other (decides.0 refl)))
    by false decides = (λ h same. true≢false (sym (decides.1 same)), λ other. refl)

step-redefined : (held : List Entry) (e : Entry) → step held e ≡ Err Redefined → IsRedefined held e
unfolding step
step-redefined held e = by (is_built_in e.class) (is_out_of_range e.class) (entry_of held e.class)
  where
    by : (built_in out : Bool) (o : Option Entry)
        → cond built_in (cond (is_too_long e) (Err ElementLimit) (Ok held))
        (cond out (Err ClassRange) (step_by o held e))
        ≡ Err Redefined → IsSomeAnd o (λ old. IsSameEntry old e → ⊥)
    by true out o h = absurd (on_length held e h)
    by false true o h = cc
    by false false None h = absurd (on_new held e h)
    by false false (Some old) h = (beside held old e).0 h

-- what is held of a class has the class
held-class : (held : List Entry) (class : ℕ) (old : Entry) → entry_of held class ≡ Some old → class ≡ old.class
held-class [] class old h = cc
held-class (x ∷ held) class old h = by (eqb class x.class) refl h (held-class held class old)
  where
    by : (b : Bool) → eqb class x.class ≡ b → cond b (Some x) (entry_of held class) ≡ Some old
        → (entry_of held class ≡ Some old → class ≡ old.class) → class ≡ old.class
    by true is h rest = let same : x ≡ old = cc in
        subst (λ (x : Entry). class ≡ x.class) same (eqb-true class x.class is)
    by false is h rest = rest h

described : (class : ℕ) → 3 ≤ class → class ≤ 255 → (is_built_in class ≡ false) × (is_out_of_range class ≡ false)
described class low high = (grind (arith, nat_tests), grind (arith, nat_tests))

redefined-step : (held : List Entry) (e : Entry) → IsDictionary held → IsRedefined held e → step held e ≡ Err Redefined
unfolding step
redefined-step held e sound = by (entry_of held e.class) refl
  where
    by : (o : Option Entry) → entry_of held e.class ≡ o → IsSomeAnd o (λ old. IsSameEntry old e → ⊥)
        → cond (is_built_in e.class) (cond (is_too_long e) (Err ElementLimit) (Ok held))
        (cond (is_out_of_range e.class) (Err ClassRange) (step_by o held e)) ≡ Err Redefined
    by None is other = absurd other
    by (Some old) is other =
        let there = sound.entries e.class old is in
        let class = held-class held e.class old is in
        let tests = described e.class (omega (arith, there.low, class)) (omega (arith, there.high, class)) in
        rw (tests.0, tests.1) ((beside held old e).1 other)

-- the refusal, and what else a step may give
pub refused-redefined : {A : Type 0} (held : List Entry) (e : Entry) (fault : AddFault) → IsDictionary held
    → step held e ≡ Err fault → (◌≡◌ {A = Result A AddFault} (Err fault) (Err Redefined)) ↔ IsRedefined held e
refused-redefined held e fault sound is = (
  λ h. let same : fault ≡ Redefined = cc in
      step-redefined held e (is ∙ ap Err same),
  λ redefined. let again = redefined-step held e sound redefined in
      let same : fault ≡ Redefined = cc in ap Err same,
)

pub accepted-redefined : {A : Type 0} (held next : List Entry) (e : Entry) (x : A) → IsDictionary held
    → step held e ≡ Ok next → (◌≡◌ {A = Result A AddFault} (Ok x) (Err Redefined)) ↔ IsRedefined held e
accepted-redefined held next e x sound is =
    (λ h. cc, λ redefined. let again = redefined-step held e sound redefined in cc)
