-- Entries that clash with those used: with the entries that stand, and with those of the closing.
use Rattle.std.proofs.Common.{◌≡◌, ◌≢◌, ℕ, Bool, true, false, not, ◌||◌, cond, List, [], ◌∷◌, ◌++◌, All, Option, Some}
use Rattle.std.proofs.Common.{None}
use Rattle.std.proofs.Common.{find, Result, Ok, Err, OnOk, refl, sym, ap, ◌∙◌, subst, eqb}
use Rattle.std.specs.Prelude.{is_some, ◌==◌}
use Rattle.std.specs.Option.{option_map, option_map_or, option_or}
use Rattle.std.specs.Str.{bytes_eq}
use Rattle.std.proofs.lemmas.Bool.{true≢false, eqb-true, eq-eqb}
use Rattle.std.proofs.lemmas.List.Elements.{All-head, All-tail, All-nil, All-cons, All-append, All-weaker}
use Rattle.std.proofs.lemmas.List.Elements.{recursion_from_All}
use Rattle.std.proofs.lemmas.List.Folds.{find-append}
use Rattle.std.proofs.lemmas.Option.{none-some, same_Some}
use Rattle.std.proofs.lemmas.Slice.Eq.{bytes_eq-Decides}
use Rattle.type_text.proofs.FoundLemmas.{find-some}
use Rattle.dictionary.specs.declared.entries.Entry.{Entry}
use Rattle.dictionary.specs.Same.{AreRead, IsSameEntry, same_entries}
use Rattle.dictionary.specs.Dictionary.{entry_of, class_named}
use Rattle.dictionary.proofs.SameLemmas.{entries-Decides}
use Rattle.contents_table.proofs.ReadRecords.{find-passes}
use Rattle.frame_content.specs.Labels.{printed_entry}
use Rattle.canonical_file.specs.Records.{added_by, with_entry}
use Rattle.canonical_file.specs.Splices.{clashes}
use Rattle.canonical_writer.specs.Parts.{AreConsistent}
use Rattle.canonical_writer.proofs.PrintedEntries.{same-printed}

pub unlike : (m n : ℕ) → (m ≡ n → ⊥) → eqb m n ≡ false
unlike m n other = by (eqb m n) refl
  where
    by : (b : Bool) → eqb m n ≡ b → b ≡ false
    by true is = absurd (other (eqb-true m n is))
    by false is = refl

abbrev class_of : Entry → ℕ
class_of e = e.class

-- ---- what is found in two lists

-- the entry of a name
abbrev named : List Entry → List ℕ → Option Entry
named es name = find (λ e. bytes_eq name e.name) es

find-none : {X : Type 0} (p : X → Bool) (xs : List X) → find p xs ≡ None → All (λ x. p x ≡ false) xs
find-none {X} p [] e = All-nil (λ (x : X). p x ≡ false)
find-none {X} p (x ∷ xs) e = by (p x) refl (find-none p xs) e
  where
    by : (b : Bool) → p x ≡ b → (find p xs ≡ None → All (λ x. p x ≡ false) xs) → cond b (Some x) (find p xs) ≡ None
        → All (λ x. p x ≡ false) (x ∷ xs)
    by true is rest e = absurd (none-some x (sym e))
    by false is rest e = All-cons (λ x. p x ≡ false) x xs is (rest e)

all-parts : {X : Type 0} (P : X → Type 0) (xs ys : List X) → All P (xs ++ ys) → All P xs × All P ys
all-parts P [] ys all = (All-nil P, all)
all-parts P (x ∷ xs) ys all =
    let rest = all-parts P xs ys (All-tail P x (xs ++ ys) all) in
    (All-cons P x xs (All-head P x (xs ++ ys) all) rest.0, rest.1)

-- an entry that is found has what all have
found-has : (P : Entry → Type 0) (p : Entry → Bool) (es : List Entry) (e : Entry) → All P es → find p es ≡ Some e → P e
found-has P p es e all found = find-some p P es e (recursion_from_All P es all) found

found-name : (es : List Entry) (name : List ℕ) (e : Entry) → named es name ≡ Some e → name ≡ e.name
found-name es name e found = (bytes_eq-Decides name e.name).0 (find-passes (λ e. bytes_eq name e.name) es e found)

-- an entry of a name has another class where none of the class is there
other-class : (es : List Entry) (class : ℕ) (name : List ℕ) (e : Entry) → entry_of es class ≡ None
    → named es name ≡ Some e → e.class ≢ class
other-class es class name e none found same =
    true≢false (sym (eq-eqb class e.class (sym same))
    ∙ found-has (λ (e : Entry). (class == e.class) ≡ false) (λ e. bytes_eq name e.name) es e
    (find-none (λ (e : Entry). class == e.class) es none) found)

of-two : (used more : List Entry) (class : ℕ)
    → entry_of (used ++ more) class ≡ option_or (entry_of used class) (entry_of more class)
of-two used more class = find-append (λ (e : Entry). class == e.class) used more

named-two : (used more : List Entry) (name : List ℕ)
    → class_named (used ++ more) name
    ≡ option_map (λ (e : Entry). e.class) (option_or (named used name) (named more name))
named-two used more name =
    ap (option_map (λ (e : Entry). e.class)) (find-append (λ (e : Entry). bytes_eq name e.name) used more)

-- ---- clashes

-- whether it clashes, by the entry of its class and the class of its name
abbrev clashes_by : Option Entry → Option ℕ → Entry → Bool
clashes_by old named e = option_map_or (λ old. not (same_entries old e)) old (is_some named)

-- where one of its class stands
clashes-standing : (used more : List Entry) (e old : Entry) → entry_of used e.class ≡ Some old
    → clashes (used ++ more) e ≡ not (same_entries old e)
clashes-standing used more e old there =
    ap (λ o. clashes_by o (class_named (used ++ more) e.name) e)
    (of-two used more e.class ∙ ap (λ o. option_or o (entry_of more e.class)) there)

-- with its types printed, where the first is of its class, and where another one is
pub clashes-first : (first e : Entry) (more : List Entry) → first.class ≡ e.class → AreRead e.elements
    → clashes (first ∷ more) (printed_entry e) ≡ not (same_entries first e)
clashes-first first e more same read =
    ap (λ b. clashes_by (cond b (Some first) (entry_of more e.class)) (class_named (first ∷ more) e.name)
    (printed_entry e))
    (eq-eqb e.class first.class (sym same))
    ∙ ap not (same-printed first e read)

clashes-later : (first e : Entry) (more : List Entry) → (first.class ≡ e.class → ⊥)
    → clashes (first ∷ more) (printed_entry e)
    ≡ clashes_by (entry_of more e.class) (class_named (first ∷ more) e.name) (printed_entry e)
clashes-later first e more other =
    ap (λ b. clashes_by (cond b (Some first) (entry_of more e.class)) (class_named (first ∷ more) e.name)
    (printed_entry e))
    (unlike e.class first.class (λ same. other (sym same)))

pub clashes-second : (first second e : Entry) → (first.class ≡ e.class → ⊥) → second.class ≡ e.class
    → AreRead e.elements → clashes (first ∷ second ∷ []) (printed_entry e) ≡ not (same_entries second e)
clashes-second first second e other same read =
    clashes-later first e (second ∷ []) other
    ∙ ap (λ b. clashes_by (cond b (Some second) None) (class_named (first ∷ second ∷ []) e.name) (printed_entry e))
    (eq-eqb e.class second.class (sym same))
    ∙ ap not (same-printed second e read)

is-found : (b c : Bool) (x y : Entry)
    → is_some (option_map class_of (cond b (Some x) (cond c (Some y) None))) ≡ (b || c)
is-found true c x y = refl
is-found false true x y = refl
is-found false false x y = refl

pub clashes-two_names : (first second e : Entry) → (first.class ≡ e.class → ⊥) → (second.class ≡ e.class → ⊥)
    → clashes (first ∷ second ∷ []) (printed_entry e) ≡ (bytes_eq e.name first.name || bytes_eq e.name second.name)
clashes-two_names first second e other another =
    clashes-later first e (second ∷ []) other
    ∙ ap (λ b. clashes_by (cond b (Some second) None) (class_named (first ∷ second ∷ []) e.name) (printed_entry e))
    (unlike e.class second.class (λ same. another (sym same)))
    ∙ is-found (bytes_eq e.name first.name) (bytes_eq e.name second.name) first second

pub clashes-one_name : (first e : Entry) → (first.class ≡ e.class → ⊥)
    → clashes (first ∷ []) (printed_entry e) ≡ bytes_eq e.name first.name
clashes-one_name first e other =
    clashes-later first e [] other
    ∙ is-found (bytes_eq e.name first.name) false first first ∙ or-false (bytes_eq e.name first.name)
  where
    or-false : (b : Bool) → (b || false) ≡ b
    or-false true = refl
    or-false false = refl

-- with its types printed, where one of its class stands
pub clashes-printed : (inside used more : List Entry) (class : ℕ) (e old : Entry) → inside ≡ used
    → Some old ≡ entry_of inside class → e.class ≡ class → AreRead e.elements
    → clashes (used ++ more) (printed_entry e) ≡ not (same_entries old e)
clashes-printed inside used more class e old same there class_is read =
    clashes-standing used more (printed_entry e) old
    (ap (entry_of used) class_is ∙ sym (there ∙ ap (λ es. entry_of es class) same))
    ∙ ap not (same-printed old e read)

-- where none of its class stands
clashes-new : (used more : List Entry) (e : Entry) → entry_of used e.class ≡ None
    → clashes (used ++ more) e
    ≡ clashes_by (entry_of more e.class)
    (option_map (λ (e : Entry). e.class) (option_or (named used e.name) (named more e.name))) e
clashes-new used more e none =
    (λ i. clashes_by ((of-two used more e.class ∙ ap (λ o. option_or o (entry_of more e.class)) none) i)
    (named-two used more e.name i) e)

pub clashes-by_name : (used : List Entry) (e : Entry) → entry_of used e.class ≡ None
    → clashes used e ≡ is_some (class_named used e.name)
clashes-by_name used e none = ap (λ o. clashes_by o (class_named used e.name) e) none

clashes-alone : (used : List Entry) (e : Entry) → entry_of used e.class ≡ None
    → clashes used e ≡ is_some (named used e.name)
clashes-alone used e none = clashes-by_name used e none ∙ by (named used e.name)
  where
    by : (o : Option Entry) → is_some (option_map (λ (e : Entry). e.class) o) ≡ is_some o
    by None = refl
    by (Some x) = refl

-- it clashes with all where it clashes with those of the closing
pub clashes-closing : (used more : List Entry) (e : Entry) → entry_of used e.class ≡ None → clashes more e ≡ true
    → clashes (used ++ more) e ≡ true
clashes-closing used more e none clash =
    clashes-new used more e none ∙ by (entry_of more e.class) (named used e.name) (named more e.name) clash
  where
    by : (old found others : Option Entry)
        → clashes_by old (option_map (λ (e : Entry). e.class) others) e ≡ true
        → clashes_by old (option_map (λ (e : Entry). e.class) (option_or found others)) e ≡ true
    by (Some old) found others clash = clash
    by None (Some x) others clash = refl
    by None None others clash = clash

-- it clashes with none where it clashes with neither
clashes-neither : (used more : List Entry) (e : Entry) → entry_of used e.class ≡ None → clashes used e ≡ false
    → clashes more e ≡ false → clashes (used ++ more) e ≡ false
clashes-neither used more e none first second =
    clashes-new used more e none
    ∙ by (entry_of more e.class) (named used e.name) (named more e.name)
    (sym (clashes-alone used e none) ∙ first) second
  where
    by : (old found others : Option Entry) → is_some found ≡ false
        → clashes_by old (option_map (λ (e : Entry). e.class) others) e ≡ false
        → clashes_by old (option_map (λ (e : Entry). e.class) (option_or found others)) e ≡ false
    by (Some old) found others first second = second
    by None (Some x) others first second = absurd (true≢false first)
    by None None others first second = second

-- where none of the class was found
pub none-stands : (inside used : List Entry) (class : ℕ) (e : Entry) → inside ≡ used → None ≡ entry_of inside class
    → e.class ≡ class → entry_of used e.class ≡ None
none-stands inside used class e same none class_is =
    ap (entry_of used) class_is ∙ sym (none ∙ ap (λ es. entry_of es class) same)

-- ---- entries that agree

-- the entry of a class among those of the closing is of the entry's name, where they do not clash
same-name : (more : List Entry) (e old : Entry) → entry_of more e.class ≡ Some old → clashes more e ≡ false
    → IsSameEntry old e
same-name more e old there none =
    (entries-Decides old e).0
    (by (same_entries old e) (sym (ap (λ o. clashes_by o (class_named more e.name) e) there) ∙ none))
  where
    by : (b : Bool) → not b ≡ false → b ≡ true
    by true is = refl
    by false is = absurd (true≢false is)

-- where the name is used under another class
pub clashes-named : (used more : List Entry) (e : Entry) → entry_of used e.class ≡ None → clashes used e ≡ true
    → clashes more e ≡ false → AreConsistent (used ++ more) → clashes (used ++ more) e ≡ true
clashes-named used more e none clash apart agree =
    clashes-new used more e none ∙ by (entry_of more e.class) refl (named used e.name) refl
    (sym (clashes-alone used e none) ∙ clash)
  where
    -- one of the class would be of the name, and so of the class that the name is used under
    no-other : (old found : Entry) → entry_of more e.class ≡ Some old → named used e.name ≡ Some found → ⊥
    no-other old found there here =
        let same = same-name more e old there apart in
        let class : class_named (used ++ more) old.name ≡ Some old.class =
        found-has (λ (e : Entry). class_named (used ++ more) e.name ≡ Some e.class) (λ (x : Entry). e.class == x.class)
        more old (all-parts (λ (e : Entry). class_named (used ++ more) e.name
        ≡ Some e.class) used more agree).1 there in
        let first : class_named (used ++ more) e.name ≡ Some found.class = named-two used more e.name
        ∙ ap (λ o. option_map (λ (e : Entry). e.class) (option_or o (named more e.name))) here in
        other-class used e.class e.name found none here
        (same_Some found.class e.class
        (sym first ∙ ap (class_named (used ++ more)) (sym same.name) ∙ class ∙ ap Some same.class))

    by : (old : Option Entry) → entry_of more e.class ≡ old → (found : Option Entry) → named used e.name ≡ found
        → is_some found ≡ true
        → clashes_by old (option_map (λ (e : Entry). e.class) (option_or found (named more e.name))) e ≡ true
    by (Some old) there None here is = absurd (true≢false (sym is))
    by (Some old) there (Some found) here is = absurd (no-other old found there here)
    by None there None here is = absurd (true≢false (sym is))
    by None there (Some found) here is = refl

-- entries that agree still do with one more that does not clash
consistent-more : (used more : List Entry) (e : Entry) → entry_of used e.class ≡ None → clashes used e ≡ false
    → clashes more e ≡ false → AreConsistent (used ++ more) → AreConsistent ((used ++ e ∷ []) ++ more)
consistent-more used more e none first second agree =
    All-append Then (used ++ e ∷ []) more
    (All-append Then used (e ∷ []) (All-weaker Now Then keeps used both.0) (All-cons Then e [] new (All-nil Then)))
    (All-weaker Now Then keeps more both.1)
  where
    Now : Entry → Type 0
    Now x = class_named (used ++ more) x.name ≡ Some x.class

    Then : Entry → Type 0
    Then x = class_named ((used ++ e ∷ []) ++ more) x.name ≡ Some x.class

    both : All Now used × All Now more
    both = all-parts Now used more agree

    class_by : Option Entry → Option Entry → Option ℕ
    class_by found others = option_map (λ (e : Entry). e.class) (option_or found others)

    three : (name : List ℕ) → class_named ((used ++ e ∷ []) ++ more) name
        ≡ class_by (option_or (named used name) (cond (bytes_eq name e.name) (Some e) None)) (named more name)
    three name =
        named-two (used ++ e ∷ []) more name
        ∙ ap (λ o. class_by o (named more name)) (find-append (λ (e : Entry). bytes_eq name e.name) used (e ∷ []))

    -- one of the name among those of the closing has the class
    of-name : (x y : Entry) → x.name ≡ e.name → Now x → named more x.name ≡ Some y → e.class ≡ x.class
    of-name x y name now there = by (entry_of more e.class) refl
      where
        by : (old : Option Entry) → entry_of more e.class ≡ old → e.class ≡ x.class
        by None gone =
            absurd (true≢false
            (sym (ap (λ o. is_some (option_map (λ (e : Entry). e.class) o)) (ap (named more) (sym name) ∙ there))
            ∙ sym (ap (λ o. clashes_by o (class_named more e.name) e) gone) ∙ second))
        by (Some old) found =
            let same = same-name more e old found second in
            let class : Now old = found-has Now (λ (x : Entry). e.class == x.class) more old both.1 found in
            sym same.class
            ∙ same_Some old.class x.class
            (sym class ∙ ap (class_named (used ++ more)) (same.name ∙ sym name) ∙ now)

    keeps : (x : Entry) → Now x → Then x
    keeps x now =
        three x.name
        ∙ by (named used x.name) (bytes_eq x.name e.name) refl (named more x.name) refl
        (sym (named-two used more x.name) ∙ now)
      where
        by : (found : Option Entry) (b : Bool) → bytes_eq x.name e.name ≡ b → (others : Option Entry)
            → named more x.name ≡ others → class_by found others ≡ Some x.class
            → class_by (option_or found (cond b (Some e) None)) others ≡ Some x.class
        by (Some y) b is others there now' = now'
        by None false is others there now' = now'
        by None true is None there now' = absurd (none-some x.class now')
        by None true is (Some y) there now' = ap Some (of-name x y ((bytes_eq-Decides x.name e.name).0 is) now there)

    new : Then e
    new =
        three e.name
        ∙ by (named used e.name) (sym (clashes-alone used e none) ∙ first) (bytes_eq e.name e.name)
        ((bytes_eq-Decides e.name e.name).1 refl)
      where
        by : (found : Option Entry) → is_some found ≡ false → (b : Bool) → b ≡ true
            → class_by (option_or found (cond b (Some e) None)) (named more e.name) ≡ Some e.class
        by (Some y) gone b is = absurd (true≢false gone)
        by None gone true is = refl
        by None gone false is = absurd (true≢false (sym is))

-- ---- after an entry of a class of which none stood

pub clashes-added : {A E : Type 0} (r : Result A E) (used more : List Entry) (e : Entry) → entry_of used e.class ≡ None
    → OnOk r (clashes used e ≡ false) → clashes more e ≡ false → OnOk r (clashes (used ++ more) e ≡ false)
clashes-added (Ok x) used more e none first second = clashes-neither used more e none first second
clashes-added (Err x) used more e none first second = tt

pub consistent-added : {A E : Type 0} (r : Result A E) (used new more : List Entry) (e : Entry)
    → entry_of used e.class ≡ None → OnOk r (new ≡ with_entry used e) → OnOk r (clashes used e ≡ false)
    → clashes more e ≡ false → OnOk r (AreConsistent (used ++ more) → AreConsistent (new ++ more))
consistent-added (Ok x) used new more e none added first second = λ agree.
    subst (λ es. AreConsistent (es ++ more)) (sym (added ∙ ap (λ o. added_by o used e) none))
    (consistent-more used more e none first second agree)
consistent-added (Err x) used new more e none added first second = tt
