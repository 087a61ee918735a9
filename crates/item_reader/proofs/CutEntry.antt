-- An entry of more elements than one may have is answered alike whole and with its first elements alone.
use Rattle.std.proofs.Common.{◌≡◌, ℕ, ◌<◌, ◌≤◌, Bool, true, false, cond, ◌&&◌, List, [], ◌∷◌, ◌++◌, length}
use Rattle.std.proofs.Common.{take}
use Rattle.std.proofs.Common.{Option, Some, None, Result, Ok, Err, refl, sym, ap, ◌∙◌, arith, length-take}
use Rattle.std.proofs.Common.{is_some}
use Rattle.std.specs.Prelude.{◌==◌, nat_lt}
use Rattle.std.specs.Cmp.Lexicographic.{pointwise}
use Rattle.std.specs.Str.{bytes_eq}
use Rattle.std.proofs.lemmas.Bool.{ltb-false, ltb-true, lt-ltb, and_parts, or_parts}
use Rattle.std.proofs.lemmas.List.{take_all}
use lib.Pointwise.{pointwise_long}
use Rattle.dictionary.specs.declared.entries.Entry.{Entry}
use Rattle.dictionary.specs.declared.held.AddFault.{AddFault}
use Rattle.dictionary.specs.declared.held.AddFault.TheVariants.{ClassRange, Redefined, NameTwice}
use Rattle.dictionary.specs.declared.held.AddFault.TheVariants.{ElementLimit}
use Rattle.dictionary.specs.Dictionary.{entry_of, class_named, is_built_in, is_out_of_range, is_too_long}
use Rattle.dictionary.specs.Dictionary.{step, step_by}
use Rattle.dictionary.specs.Dictionary.{IsDictionary}
use Rattle.dictionary.specs.Same.{same_element, same_entries}
use Rattle.item_reader.specs.Judged.{kept_elements, cut_entry}

-- ---- the cut

cut-short : (e : Entry) → is_too_long e ≡ false → cut_entry e ≡ e
cut-short e short =
    let few : length e.elements ≤ 4096 = ltb-false 4096 (length e.elements) short in
    let same : take kept_elements e.elements ≡ e.elements =
    take_all kept_elements e.elements (omega (arith, few)) in
    λ i. record e { elements = same i }

cut-long : (e : Entry) → is_too_long e ≡ true → is_too_long (cut_entry e) ≡ true
cut-long e long =
    let many : 4096 < length e.elements = ltb-true 4096 (length e.elements) long in
    lt-ltb 4096 (length (take kept_elements e.elements))
    (omega (arith, many, length-take kept_elements e.elements))

-- ---- what the dictionary answers to an entry that is too long: a refusal by its class and its name alone

refused_by : Option Entry → List Entry → List ℕ → AddFault
refused_by None held name = cond (is_some (class_named held name)) NameTwice ElementLimit
refused_by (Some old) held name = Redefined

abbrev refused_long : List Entry → ℕ → List ℕ → AddFault
refused_long held class name =
    cond (is_built_in class) ElementLimit
    (cond (is_out_of_range class) ClassRange (refused_by (entry_of held class) held name))

-- no entry that is held is as long
other-long : (held : List Entry) (old e : Entry) → length old.elements ≤ 4096 → is_too_long e ≡ true
    → same_entries old e ≡ false
other-long held old e short long = by (same_entries old e) refl
  where
    many : 4096 < length e.elements
    many = ltb-true 4096 (length e.elements) long

    by : (b : Bool) → same_entries old e ≡ b → b ≡ false
    by false is = refl
    by true is =
        let parts = and_parts (old.class == e.class && bytes_eq old.name e.name)
        (pointwise same_element old.elements e.elements) is in
        let same : length old.elements ≡ length e.elements =
        pointwise_long same_element old.elements e.elements parts.1 in
        absurd (omega (arith, short, many, same))

long-refused : (held : List Entry) (e : Entry) → (e.class ≤ 255 → IsDictionary held) → is_too_long e ≡ true
    → step held e ≡ Err (refused_long held e.class e.name)
unfolding step refused_by
long-refused held e sound long = built (is_built_in e.class) refl
  where
    found : e.class ≤ 255 → (o : Option Entry) → entry_of held e.class ≡ o
        → step_by o held e ≡ Err (refused_by o held e.name)
    found high None none =
        ap (λ b. cond (is_some (class_named held e.name)) (Err NameTwice)
        (cond b (Err ElementLimit) (Ok (held ++ e ∷ [])))) long
        ∙ by (is_some (class_named held e.name))
      where
        by : (b : Bool) → ◌≡◌ {A = Result (List Entry) AddFault} (cond b (Err NameTwice) (Err ElementLimit))
            (Err (cond b NameTwice ElementLimit))
        by true = refl
        by false = refl
    found high (Some old) there =
        ap (λ b. cond b (Ok held) (Err Redefined))
        (other-long held old e ((sound high).entries e.class old there).short long)

    ranged : (b : Bool) → is_out_of_range e.class ≡ b
        → ◌≡◌ {A = Result (List Entry) AddFault}
        (cond b (Err ClassRange) (step_by (entry_of held e.class) held e))
        (Err (cond b ClassRange (refused_by (entry_of held e.class) held e.name)))
    ranged true out = refl
    ranged false out = found (high out) (entry_of held e.class) refl
      where
        high : is_out_of_range e.class ≡ false → e.class ≤ 255
        high out = ltb-false 255 e.class (or_parts (e.class == 0) (nat_lt 255 e.class) out).1

    built : (b : Bool) → is_built_in e.class ≡ b
        → ◌≡◌ {A = Result (List Entry) AddFault} (cond b (cond (is_too_long e) (Err ElementLimit) (Ok held))
        (cond (is_out_of_range e.class) (Err ClassRange) (step_by (entry_of held e.class) held e)))
        (Err (cond b ElementLimit
        (cond (is_out_of_range e.class) ClassRange (refused_by (entry_of held e.class) held e.name))))
    built true own = ap (λ b. cond b (Err ElementLimit) (Ok held)) long
    built false other = ranged (is_out_of_range e.class) refl

-- the answer is the same
pub step-cut : (held : List Entry) (e : Entry) → (e.class ≤ 255 → IsDictionary held)
    → step held (cut_entry e) ≡ step held e
step-cut held e sound = by (is_too_long e) refl
  where
    by : (b : Bool) → is_too_long e ≡ b → step held (cut_entry e) ≡ step held e
    by true long = long-refused held (cut_entry e) sound (cut-long e long)
        ∙ sym (long-refused held e sound long)
    by false short = ap (step held) (cut-short e short)

-- what is taken is short
pub taken-short : (held next : List Entry) (e : Entry) → (e.class ≤ 255 → IsDictionary held)
    → step held e ≡ Ok next
    → length e.elements ≤ 4096
taken-short held next e sound is = by (is_too_long e) refl
  where
    unlike : (f : AddFault) → ◌≡◌ {A = Result (List Entry) AddFault} (Err f) (Ok next) → ⊥
    unlike f e = cc

    by : (b : Bool) → is_too_long e ≡ b → length e.elements ≤ 4096
    by true long = absurd (unlike (refused_long held e.class e.name)
        (sym (long-refused held e sound long) ∙ is))
    by false short = ltb-false 4096 (length e.elements) short

-- and a cut that is short has cut nothing
pub cut-whole : (full : Entry) → length (cut_entry full).elements ≤ 4096 → cut_entry full ≡ full
cut-whole full short = by (is_too_long full) refl
  where
    by : (b : Bool) → is_too_long full ≡ b → cut_entry full ≡ full
    by true long =
        let many : 4096 < length (cut_entry full).elements =
        ltb-true 4096 (length (cut_entry full).elements) (cut-long full long) in
        absurd (omega (arith, many, short))
    by false few = cut-short full few
