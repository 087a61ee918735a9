-- The dictionary after an entry: the same entries, or one more that is new. What is held stays held.
use Rattle.std.proofs.Common.{◌≡◌, ℕ, ◌+◌, ◌≤◌, ◌⊎◌, inl, inr, Bool, true, false, ◌==◌, cond, Option, Some, None}
use Rattle.std.proofs.Common.{is_some}
use Rattle.std.proofs.Common.{Result, Ok, Err, List, [], ◌∷◌, ◌++◌, length, refl, sym, ap, ◌∙◌, arith}
use Rattle.std.specs.Prelude.{nat_lt, option_and_then}
use Rattle.std.specs.Option.{option_or, option_map_or}
use Rattle.std.proofs.lemmas.Bool.{eqb-false, ltb-false, or_parts}
use Rattle.std.proofs.lemmas.List.Folds.{find-append}
use Rattle.std.proofs.lemmas.Option.{option_and_then_some}
use Rattle.scalar_types.specs.declared.Order.{Order}
use Rattle.dictionary.specs.declared.entries.Entry.{Entry}
use Rattle.dictionary.specs.declared.held.AddFault.{AddFault}
use Rattle.dictionary.specs.declared.held.AddFault.TheVariants.{ClassRange, Redefined, NameTwice, ElementLimit}
use Rattle.dictionary.specs.Dictionary.{entry_of, class_named, is_built_in, is_out_of_range, is_too_long, step, step_by}
use Rattle.dictionary.specs.Same.{same_entries}
use Rattle.dictionary.specs.Verdicts.{IsNew}
use Rattle.layout_plan.specs.Layout.{layout_of}
use Rattle.layout_plan.specs.Body.{values_length}
use Rattle.file_grammar.specs.declared.kind.Kind.TheVariants.{FrSH, FrSE, Other}
use Rattle.file_grammar.specs.Structure.{Structure, size_of}
use Rattle.file_grammar.specs.Kind.{kind_named, kind_of}
use Rattle.file_grammar.specs.Record.{Reading, layout_in, reading_by, reading_of, values_of, weight_of}
use Rattle.file_grammar.specs.Item.{dictionary_by}

-- ---- one step

abbrev pub Stepped : List Entry → Entry → List Entry → Type 0
Stepped held e next = (next ≡ held) ⊎ (IsNew held e × (next ≡ held ++ e ∷ []))

step-gives : (held : List Entry) (e : Entry) (next : List Entry) → step held e ≡ Ok next → Stepped held e next
unfolding step
step-gives held e next is = built (is_built_in e.class) refl is
  where
    wrong : {A : Type 0} (f : AddFault) → ◌≡◌ {A = Result (List Entry) AddFault} (Err f) (Ok next) → A
    wrong f e = absurd cc

    same_Ok : (x : List Entry) → ◌≡◌ {A = Result (List Entry) AddFault} (Ok x) (Ok next) → next ≡ x
    same_Ok x e = cc

    low : is_built_in e.class ≡ false → is_out_of_range e.class ≡ false → 3 ≤ e.class
    low a b =
        let first = or_parts (e.class == 1) (e.class == 2) a in
        let zero_is = (or_parts (e.class == 0) (nat_lt 255 e.class) b).0 in
        three e.class (eqb-false e.class 0 zero_is) (eqb-false e.class 1 first.0) (eqb-false e.class 2 first.1)
      where
        three : (n : ℕ) → (n ≡ 0 → ⊥) → (n ≡ 1 → ⊥) → (n ≡ 2 → ⊥) → 3 ≤ n
        three n a b c = omega (arith, a, b, c)

    stays : (long : Bool) → cond long (Err ElementLimit) (Ok held) ≡ Ok next → next ≡ held
    stays true f = wrong ElementLimit f
    stays false f = same_Ok held f

    new : is_built_in e.class ≡ false → is_out_of_range e.class ≡ false → entry_of held e.class ≡ None
        → (o : Option ℕ) (long : Bool) → class_named held e.name ≡ o → is_too_long e ≡ long
        → cond (is_some o) (Err NameTwice) (cond long (Err ElementLimit) (Ok (held ++ e ∷ []))) ≡ Ok next
        → IsNew held e × (next ≡ held ++ e ∷ [])
    new a b none (Some c) long named size f = wrong NameTwice f
    new a b none None true named size f = wrong ElementLimit f
    new a b none None false named size f = (
      record {
        low = low a b;
        high = ltb-false 255 e.class (or_parts (e.class == 0) (nat_lt 255 e.class) b).1;
        short = ltb-false 4096 (length e.elements) size;
        class = none;
        name = named;
      },
      same_Ok (held ++ e ∷ []) f,
    )

    found : is_built_in e.class ≡ false → is_out_of_range e.class ≡ false → (o : Option Entry)
        → entry_of held e.class ≡ o → step_by o held e ≡ Ok next → Stepped held e next
    found a b None none f = inr (new a b none (class_named held e.name) (is_too_long e) refl refl f)
    found a b (Some old) there f = inl (same (same_entries old e) f)
      where
        same : (b : Bool) → cond b (Ok held) (Err Redefined) ≡ Ok next → next ≡ held
        same true f = same_Ok held f
        same false f = wrong Redefined f

    ranged : is_built_in e.class ≡ false → (b : Bool) → is_out_of_range e.class ≡ b
        → cond b (Err ClassRange) (step_by (entry_of held e.class) held e) ≡ Ok next → Stepped held e next
    ranged a true out f = wrong ClassRange f
    ranged a false out f = found a out (entry_of held e.class) refl f

    built : (b : Bool) → is_built_in e.class ≡ b
        → cond b (cond (is_too_long e) (Err ElementLimit) (Ok held))
        (cond (is_out_of_range e.class) (Err ClassRange) (step_by (entry_of held e.class) held e)) ≡ Ok next
        → Stepped held e next
    built true low f = inl (stays (is_too_long e) f)
    built false high f = ranged high (is_out_of_range e.class) refl f

-- The dictionary after an entry, whether it takes it or not.
pub after-gives : (held : List Entry) (e : Entry) → Stepped held e (dictionary_by held (step held e))
after-gives held e = by (step held e) refl
  where
    by : (r : Result (List Entry) AddFault) → step held e ≡ r → Stepped held e (dictionary_by held r)
    by (Ok next) is = step-gives held e next is
    by (Err fault) is = inl refl

-- ---- what is held stays held

-- each entry of the first list is held in the second one
abbrev pub StaysIn : List Entry → List Entry → Type 0
StaysIn held next = (class : ℕ) (e : Entry) → entry_of held class ≡ Some e → entry_of next class ≡ Some e

pub step-stays : (held : List Entry) (e : Entry) → StaysIn held (dictionary_by held (step held e))
step-stays held e class x is = by (after-gives held e)
  where
    by : {next : List Entry} → Stepped held e next → entry_of next class ≡ Some x
    by (inl same) = ap (λ (xs : List Entry). entry_of xs class) same ∙ is
    by (inr both) =
        ap (λ (xs : List Entry). entry_of xs class) both.1
        ∙ find-append (λ (y : Entry). class == y.class) held (e ∷ [])
        ∙ ap (λ o. option_or o (cond (class == e.class) (Some e) None)) is

pub reading-stays : (order : Order) (held next : List Entry) (s : Structure) (r : Reading) → StaysIn held next
    → reading_of order held s ≡ Some r → reading_of order next s ≡ Some r
reading-stays order held next s r stays is =
    option_and_then_some (reading_by order s.body) (layout_in held s.class) r is (λ fs there read.
    option_and_then_some (λ (e : Entry). layout_of e.elements) (entry_of held s.class) fs there (λ e found layout.
    ap (option_and_then (reading_by order s.body))
    (ap (option_and_then (λ (e : Entry). layout_of e.elements)) (stays s.class e found) ∙ layout) ∙ read))

-- so of a structure whose class is held the kind, and of one that reads the weight and the values are the same
pub kind-stays : (held next : List Entry) (class : ℕ) (e : Entry) → StaysIn held next → entry_of held class ≡ Some e
    → kind_of next class ≡ kind_of held class
kind-stays held next class e stays is =
    ap (λ o. cond (class == 1) FrSH (cond (class == 2) FrSE (option_map_or (λ (x : Entry). kind_named x.name) o Other)))
    (stays class e is ∙ sym is)

pub weight-stays : (order : Order) (held next : List Entry) (s : Structure) (r : Reading) → StaysIn held next
    → reading_of order held s ≡ Some r → weight_of order next s ≡ weight_of order held s
weight-stays order held next s r stays is =
    ap (λ o. option_map_or (λ (r : Reading). 14 + (values_length r.fields r.values + length r.tail)) o (size_of s))
    (reading-stays order held next s r stays is ∙ sym is)

pub values-stay : (order : Order) (held next : List Entry) (s : Structure) (r : Reading) → StaysIn held next
    → reading_of order held s ≡ Some r → values_of order next s ≡ values_of order held s
values-stay order held next s r stays is =
    ap (λ o. option_map_or (λ (r : Reading). r.values) o []) (reading-stays order held next s r stays is ∙ sym is)
