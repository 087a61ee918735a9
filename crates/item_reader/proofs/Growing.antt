-- A dictionary that grows by an entry, and the plans beside it.
use Rattle.std.proofs.Common.{◌≡◌, ◌≢◌, ◌⊎◌, inl, inr, ℕ, ◌<◌, ◌≤◌, Bool, true, false, cond, List, [], ◌∷◌, ◌++◌}
use Rattle.std.proofs.Common.{length, Option, Some, None, Result, Ok, Err, refl, sym, ap, ◌∙◌, subst, arith}
use Rattle.std.proofs.Common.{length-append}
use Rattle.std.specs.Prelude.{◌==◌, nat_eq, nat_lt, option_and_then, is_some, IsSome}
use Rattle.std.specs.Option.{option_or}
use Rattle.std.proofs.lemmas.Bool.{false≢true, eq-eqb, eqb-true, ne_eqb, or_cases, or_parts, ltb-false}
use Rattle.std.proofs.lemmas.Option.{none-some, option_and_then_some}
use Rattle.std.proofs.lemmas.List.Folds.{find-append}
use Rattle.indexmap.specs.IndexMap.{insert_entry}
use Rattle.scalar_types.specs.declared.Order.{Order}
use Rattle.dictionary.specs.declared.entries.Entry.{Entry}
use Rattle.dictionary.specs.declared.held.AddFault.{AddFault}
use Rattle.dictionary.specs.declared.held.AddFault.TheVariants.{ClassRange, Redefined, NameTwice, ElementLimit}
use Rattle.dictionary.specs.Dictionary.{entry_of, class_named, is_built_in, is_out_of_range, is_too_long, step}
use Rattle.dictionary.specs.Dictionary.{step_by}
use Rattle.dictionary.specs.Same.{same_entries}
use Rattle.layout_plan.specs.declared.fields.Field.{Field}
use Rattle.layout_plan.specs.Layout.{layout_of}
use Rattle.layout_plan.specs.Plans.{plan_of}
use Rattle.file_grammar.specs.Structure.{Structure}
use Rattle.file_grammar.specs.Record.{Reading, reading_by, reading_of, layout_in}

-- ---- the entries

pub entry_of-push : (held : List Entry) (e : Entry) (class : ℕ)
    → entry_of (held ++ e ∷ []) class ≡ option_or (entry_of held class) (cond (class == e.class) (Some e) None)
entry_of-push held e class = find-append (λ x. class == x.class) held (e ∷ [])

pub entry_of-stays : (held : List Entry) (e : Entry) (class : ℕ) (x : Entry) → entry_of held class ≡ Some x
    → entry_of (held ++ e ∷ []) class ≡ Some x
entry_of-stays held e class x there =
    entry_of-push held e class ∙ ap (λ o. option_or o (cond (class == e.class) (Some e) None)) there

pub entry_of-new : (held : List Entry) (e : Entry) (class : ℕ) → entry_of held class ≡ None
    → entry_of (held ++ e ∷ []) class ≡ cond (class == e.class) (Some e) None
entry_of-new held e class none =
    entry_of-push held e class ∙ ap (λ o. option_or o (cond (class == e.class) (Some e) None)) none

pub entry_of-own : (held : List Entry) (e : Entry) → entry_of held e.class ≡ None
    → entry_of (held ++ e ∷ []) e.class ≡ Some e
entry_of-own held e none =
    entry_of-new held e e.class none ∙ ap (λ b. cond b (Some e) None) (eq-eqb e.class e.class refl)

pub longer : (held : List Entry) (e : Entry) → (held ++ e ∷ []) ≢ held
longer held e same = omega (arith, length-append held (e ∷ []), ap (λ (l : List Entry). length l) same)

-- a body that was read is read in the same way
pub layout-stays : (held : List Entry) (e : Entry) (class : ℕ) (fs : List Field) → layout_in held class ≡ Some fs
    → layout_in (held ++ e ∷ []) class ≡ Some fs
layout-stays held e class fs is =
    option_and_then_some (λ (x : Entry). layout_of x.elements) (entry_of held class) fs is (λ x there layout.
    ap (option_and_then (λ (x : Entry). layout_of x.elements)) (entry_of-stays held e class x there) ∙ layout)

pub reading-stays : (order : Order) (held : List Entry) (e : Entry) (s : Structure) (r : Reading)
    → reading_of order held s ≡ Some r → reading_of order (held ++ e ∷ []) s ≡ Some r
reading-stays order held e s r is =
    option_and_then_some (reading_by order s.body) (layout_in held s.class) r is (λ fs there read.
    ap (option_and_then (reading_by order s.body)) (layout-stays held e s.class fs there) ∙ read)

pub reading-still : (order : Order) (held : List Entry) (e : Entry) (s : Structure) → IsSome (reading_of order held s)
    → IsSome (reading_of order (held ++ e ∷ []) s)
reading-still order held e s some = by (reading_of order held s) refl some
  where
    told : (o : Option Reading) (r : Reading) → o ≡ Some r → IsSome o
    told None r e = absurd (none-some r e)
    told (Some x) r e = refl

    by : (o : Option Reading) → reading_of order held s ≡ o → IsSome o → IsSome (reading_of order (held ++ e ∷ []) s)
    by None is f = absurd (false≢true f)
    by (Some r) is f = told (reading_of order (held ++ e ∷ []) s) r (reading-stays order held e s r is)

-- ---- what a step gives

-- the dictionary stays, where the class is built in or held, or it grows
abbrev pub Stepped : List Entry → Entry → List Entry → Type 0
Stepped held e next =
    ((e.class ≤ 255) × (next ≡ held) × ((e.class < 3) ⊎ ((old : Entry) × (entry_of held e.class ≡ Some old))))
    ⊎ ((e.class ≤ 255) × (next ≡ held ++ e ∷ []) × (entry_of held e.class ≡ None))

err≢ok : {A : Type 0} (f : AddFault) (x : A) → ◌≡◌ {A = Result A AddFault} (Err f) (Ok x) → ⊥
err≢ok f x e = cc

same_Ok : {A : Type 0} (x y : A) → ◌≡◌ {A = Result A AddFault} (Ok x) (Ok y) → x ≡ y
same_Ok x y e = cc

pub step-cases : (held : List Entry) (e : Entry) (next : List Entry) → step held e ≡ Ok next → Stepped held e next
unfolding step
step-cases held e next is = built (is_built_in e.class) refl is
  where
    small : (e.class ≡ 1) ⊎ (e.class ≡ 2) → e.class < 3
    small (inl same) = omega (arith, same)
    small (inr same) = omega (arith, same)

    equal : ((e.class == 1) ≡ true) ⊎ ((e.class == 2) ≡ true) → (e.class ≡ 1) ⊎ (e.class ≡ 2)
    equal (inl same) = inl (eqb-true e.class 1 same)
    equal (inr same) = inr (eqb-true e.class 2 same)

    stays : e.class < 3 → (long : Bool) → cond long (Err ElementLimit) (Ok held) ≡ Ok next → Stepped held e next
    stays low true f = absurd (err≢ok ElementLimit next f)
    stays low false f = inl (omega (arith, low), sym (same_Ok held next f), inl low)

    same : e.class ≤ 255 → (old : Entry) → entry_of held e.class ≡ Some old → (b : Bool)
        → cond b (Ok held) (Err Redefined) ≡ Ok next → Stepped held e next
    same high old there true f = inl (high, sym (same_Ok held next f), inr (old, there))
    same high old there false f = absurd (err≢ok Redefined next f)

    new : e.class ≤ 255 → entry_of held e.class ≡ None → (named long : Bool)
        → cond named (Err NameTwice) (cond long (Err ElementLimit) (Ok (held ++ e ∷ []))) ≡ Ok next
        → Stepped held e next
    new high none true long f = absurd (err≢ok NameTwice next f)
    new high none false true f = absurd (err≢ok ElementLimit next f)
    new high none false false f = inr (high, sym (same_Ok (held ++ e ∷ []) next f), none)

    found : e.class ≤ 255 → (o : Option Entry) → entry_of held e.class ≡ o → step_by o held e ≡ Ok next
        → Stepped held e next
    found high None none f = new high none (is_some (class_named held e.name)) (is_too_long e) f
    found high (Some old) there f = same high old there (same_entries old e) f

    ranged : (b : Bool) → is_out_of_range e.class ≡ b
        → cond b (Err ClassRange) (step_by (entry_of held e.class) held e) ≡ Ok next → Stepped held e next
    ranged true out f = absurd (err≢ok ClassRange next f)
    ranged false out f =
        found (ltb-false 255 e.class (or_parts (e.class == 0) (nat_lt 255 e.class) out).1)
        (entry_of held e.class) refl f

    built : (b : Bool) → is_built_in e.class ≡ b
        → cond b (cond (is_too_long e) (Err ElementLimit) (Ok held))
        (cond (is_out_of_range e.class) (Err ClassRange) (step_by (entry_of held e.class) held e)) ≡ Ok next
        → Stepped held e next
    built true low f = stays (small (equal (or_cases (e.class == 1) (e.class == 2) low))) (is_too_long e) f
    built false high f = ranged (is_out_of_range e.class) refl f

-- ---- the plans

-- a plan that is kept is found under its class
pub plan_of-insert : (plans : List (ℕ × List Field)) (key : ℕ) (fs : List Field) (class : ℕ)
    → plan_of (insert_entry nat_eq plans key fs) class ≡ cond (class == key) (Some fs) (plan_of plans class)
plan_of-insert [] key fs class = refl
plan_of-insert (p ∷ ps) key fs class = by (nat_eq key p.0) refl (plan_of-insert ps key fs class)
  where
    Later : Type 0
    Later = plan_of (insert_entry nat_eq ps key fs) class ≡ cond (class == key) (Some fs) (plan_of ps class)

    both : (b : Bool) → b ≡ true → b ≡ false → ⊥
    both b t f = cc

    after : (b : Bool) → (class == p.0) ≡ b → (nat_eq key p.0 ≡ false) → Later
        → cond b (Some p.1) (plan_of (insert_entry nat_eq ps key fs) class)
        ≡ cond (class == key) (Some fs) (cond b (Some p.1) (plan_of ps class))
    after false other apart later = later
    after true same apart later =
        let is : class ≡ p.0 = eqb-true class p.0 same in
        let unlike : (class == key) ≡ false =
        ne_eqb class key (λ e. both (nat_eq key p.0) (eq-eqb key p.0 (sym e ∙ is)) apart) in
        sym (ap (λ b. cond b (Some fs) (Some p.1)) unlike)

    twice : (b : Bool) → cond b (Some fs) (plan_of ps class) ≡ cond b (Some fs) (cond b (Some p.1) (plan_of ps class))
    twice true = refl
    twice false = refl

    by : (b : Bool) → nat_eq key p.0 ≡ b → Later
        → plan_of (cond b ((p.0, fs) ∷ ps) (p ∷ insert_entry nat_eq ps key fs)) class
        ≡ cond (class == key) (Some fs) (plan_of (p ∷ ps) class)
    by false apart later = after (class == p.0) refl apart later
    by true same later =
        let is : key ≡ p.0 = eqb-true key p.0 same in
        subst (λ k. cond (class == k) (Some fs) (plan_of ps class)
        ≡ cond (class == key) (Some fs) (cond (class == k) (Some p.1) (plan_of ps class))) is (twice (class == key))

more-other : (held : List Entry) (e : Entry) (class : ℕ) → (class == e.class) ≡ false
    → entry_of (held ++ e ∷ []) class ≡ entry_of held class
more-other held e class other =
    entry_of-push held e class
    ∙ ap (λ b. option_or (entry_of held class) (cond b (Some e) None)) other
    ∙ last (entry_of held class)
  where
    last : (o : Option Entry) → option_or o None ≡ o
    last None = refl
    last (Some x) = refl

-- the plans after an entry more are those of the entries
pub plans-read : (plans : List (ℕ × List Field)) (held : List Entry) (e : Entry) (fs : List Field)
    → ((class : ℕ) → plan_of plans class ≡ layout_in held class) → entry_of held e.class ≡ None
    → layout_of e.elements ≡ Some fs → (class : ℕ)
    → plan_of (insert_entry nat_eq plans e.class fs) class ≡ layout_in (held ++ e ∷ []) class
plans-read plans held e fs kept fresh layout class =
    plan_of-insert plans e.class fs class ∙ by (class == e.class) refl
  where
    by : (b : Bool) → (class == e.class) ≡ b → cond b (Some fs) (plan_of plans class) ≡ layout_in (held ++ e ∷ []) class
    by true same =
        let own : entry_of (held ++ e ∷ []) class ≡ Some e =
        ap (entry_of (held ++ e ∷ [])) (eqb-true class e.class same) ∙ entry_of-own held e fresh in
        sym (ap (option_and_then (λ (x : Entry). layout_of x.elements)) own ∙ layout)
    by false other = kept class
        ∙ ap (option_and_then (λ (x : Entry). layout_of x.elements)) (sym (more-other held e class other))

pub plans-unread : (plans : List (ℕ × List Field)) (held : List Entry) (e : Entry)
    → ((class : ℕ) → plan_of plans class ≡ layout_in held class) → entry_of held e.class ≡ None
    → layout_of e.elements ≡ None → (class : ℕ) → plan_of plans class ≡ layout_in (held ++ e ∷ []) class
plans-unread plans held e kept fresh layout class = kept class ∙ by (class == e.class) refl
  where
    by : (b : Bool) → (class == e.class) ≡ b → layout_in held class ≡ layout_in (held ++ e ∷ []) class
    by true same =
        let is : class ≡ e.class = eqb-true class e.class same in
        let own : entry_of (held ++ e ∷ []) class ≡ Some e = ap (entry_of (held ++ e ∷ [])) is
        ∙ entry_of-own held e fresh in
        let none : entry_of held class ≡ None = ap (entry_of held) is ∙ fresh in
        ap (option_and_then (λ (x : Entry). layout_of x.elements)) none
        ∙ sym (ap (option_and_then (λ (x : Entry). layout_of x.elements)) own ∙ layout)
    by false other = ap (option_and_then (λ (x : Entry). layout_of x.elements)) (sym (more-other held e class other))
