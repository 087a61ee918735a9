-- The entries that stand: how many, and one more.
use Rattle.std.proofs.Common.{◌≡◌, ℕ, ◌+◌, ◌≤◌, ◌<◌, Bool, true, false, ◌||◌, cond, eqb, List, [], ◌∷◌, ◌++◌, length}
use Rattle.std.proofs.Common.{map, min}
use Rattle.std.proofs.Common.{Option, Some, None, Result, Ok, Err, OnOk, IfOk, IfErr, refl, sym, ap, ◌∙◌, subst, arith}
use Rattle.std.specs.Prelude.{is_some, IsSome, nat_eq}
use Rattle.std.specs.Cmp.{nat_eq_equiv}
use Rattle.std.specs.List.{IsDistinct, list_any}
use Rattle.std.proofs.lemmas.Bool.{true≢false}
use Rattle.std.proofs.lemmas.Bool.Decides.{nat_tests}
use Rattle.std.proofs.lemmas.List.{length-map, length-append, map-append}
use Rattle.std.proofs.lemmas.Map.Keys.{IsDistinct-push}
use Rattle.std.proofs.lemmas.Map.Steps.{length-le_from_distinct_below}
use Rattle.std.proofs.lemmas.Option.{none-some}
use Rattle.dictionary.specs.declared.entries.Entry.{Entry}
use Rattle.dictionary.specs.declared.held.AddFault.{AddFault}
use Rattle.dictionary.specs.declared.held.AddFault.TheVariants.{NameTwice, NoMemory}
use Rattle.dictionary.specs.Same.{AreRead}
use Rattle.dictionary.specs.Dictionary.{entry_of, class_named, is_built_in, is_out_of_range, is_too_long, step}
use Rattle.dictionary.specs.Verdicts.{IsNew}
use Rattle.dictionary.proofs.KeptLemmas.{IsDictionary-new}
use Rattle.contents_table.proofs.ReadRecords.{entry-class}
use Rattle.layout_plan.specs.Appends.{Appends}
use Rattle.layout_plan.proofs.AppendLemmas.{Appends-as}
use Rattle.frame_content.specs.Labels.{printed_element, printed_entry}
use Rattle.canonical_file.specs.Bytes.{entry_bytes}
use Rattle.canonical_file.specs.Records.{new_entry, unless_held, with_entry, added_by}
use Rattle.canonical_file.specs.Splices.{clashes}
use Rattle.canonical_writer.specs.Parts.{IsShortEntry, IsUsable, AreStanding}
use Rattle.canonical_writer.proofs.Clashes.{clashes-by_name}
use Rattle.canonical_writer.proofs.PrintedEntries.{printed-are_read, printed-short}

abbrev class_of : Entry → ℕ
class_of e = e.class

-- ---- how many

-- whether one of a class stands
class-stands : (es : List Entry) (class : ℕ) → is_some (entry_of es class) ≡ list_any (eqb class) (map class_of es)
class-stands [] class = refl
class-stands (e ∷ es) class = by (eqb class e.class) (class-stands es class)
  where
    by : (b : Bool) → is_some (entry_of es class) ≡ list_any (eqb class) (map class_of es)
        → is_some (cond b (Some e) (entry_of es class)) ≡ (b || list_any (eqb class) (map class_of es))
    by true rest = refl
    by false rest = rest

pub standing-few : (entries : List Entry) (count : ℕ) → AreStanding entries count → length entries ≤ 256
standing-few entries count s =
    let few = length-le_from_distinct_below (map class_of entries) 256 s.distinct
    (λ q any. by q (entry_of entries q) refl (class-stands entries q ∙ any)) in
    omega (arith, few, length-map entries class_of)
  where
    by : (q : ℕ) (found : Option Entry) → entry_of entries q ≡ found → is_some found ≡ true → q < 256
    by q None is some = absurd (true≢false (sym some))
    by q (Some e) is some = omega (arith, (s.sound.entries q e is).high, entry-class entries q e is)

-- ---- none, and one more

pub standing-none : AreStanding [] 0
unfolding IsDistinct
standing-none = record {
  counted = refl;
  sound = record {
    entries = λ class e is. absurd (none-some e is);
    names = λ name class is. absurd (none-some class is);
  };
  distinct = tt;
}

pub standing-more : (entries : List Entry) (e : Entry) (count more : ℕ) → AreStanding entries count → IsNew entries e
    → AreRead e.elements → more ≡ min (count + 1) 4294967295 → AreStanding (entries ++ e ∷ []) more
standing-more entries e count more s new read is = record {
  counted = is ∙ omega (arith, s.counted, standing-few entries count s, length-append entries (e ∷ []));
  sound = IsDictionary-new entries e s.sound new read;
  distinct = subst (IsDistinct nat_eq) (sym (map-append class_of entries (e ∷ [])))
      (IsDistinct-push nat_eq_equiv (map class_of entries) e.class s.distinct
      (sym (class-stands entries e.class) ∙ ap is_some new.class));
}

-- ---- what a dictionary answers

described : (class : ℕ) → 3 ≤ class → class ≤ 255 → (is_built_in class ≡ false) × (is_out_of_range class ≡ false)
described class low high = (grind (arith, nat_tests), grind (arith, nat_tests))

short-entry : (e : Entry) → length e.elements ≤ 4096 → is_too_long e ≡ false
short-entry e few = grind (arith, nat_tests)

-- a new entry is refused for its name alone
step-usable : (entries : List Entry) (e : Entry) → IsUsable e → entry_of entries e.class ≡ None
    → step entries e ≡ cond (is_some (class_named entries e.name)) (Err NameTwice) (Ok (entries ++ e ∷ []))
unfolding step
step-usable entries e usable none =
    let tests = described e.class usable.low usable.high in
    rw (tests.0, tests.1, none, short-entry e usable.few) refl

usable-printed : (e : Entry) → IsUsable e → IsUsable (printed_entry e)
usable-printed e usable = record {
  low = usable.low;
  high = usable.high;
  read = printed-are_read e.elements usable.read;
  few = omega (arith, length-map e.elements printed_element, usable.few);
}

-- ---- the entry with its printed types, where none of its class stands

-- it stands behind the others
pub record IsAdded (old new : List Entry) (count : ℕ) (e : Entry) : Type 0 where
  pub used : new ≡ with_entry old (printed_entry e)
  pub no_clash : clashes old (printed_entry e) ≡ false
  pub standing : (more : ℕ) → more ≡ min (count + 1) 4294967295 → AreStanding new more

add-usable : {A : Type 0} (old new : List Entry) (count : ℕ) (e : Entry) (x : A) → AreStanding old count → IsUsable e
    → entry_of old e.class ≡ None
    → IfErr (step old e) (λ fault. ◌≡◌ {A = Result A AddFault} (Ok x) (Err fault))
    → IfOk (step old e) (λ next. new ≡ next)
    → (new ≡ with_entry old e) × (clashes old e ≡ false)
    × ((more : ℕ) → more ≡ min (count + 1) 4294967295 → AreStanding new more)
add-usable {A} old new count e x standing usable none refused accepted =
    by (class_named old e.name) refl
    (subst (λ r. IfErr r (λ fault. ◌≡◌ {A = Result A AddFault} (Ok x) (Err fault)))
    (step-usable old e usable none) refused)
    (subst (λ r. IfOk r (λ next. new ≡ next)) (step-usable old e usable none) accepted)
  where
    by : (named : Option ℕ) → class_named old e.name ≡ named
        → IfErr (cond (is_some named) (Err NameTwice) (Ok (old ++ e ∷ [])))
        (λ fault. ◌≡◌ {A = Result A AddFault} (Ok x) (Err fault))
        → IfOk (cond (is_some named) (Err NameTwice) (Ok (old ++ e ∷ []))) (λ next. new ≡ next)
        → (new ≡ with_entry old e) × (clashes old e ≡ false)
        × ((more : ℕ) → more ≡ min (count + 1) 4294967295 → AreStanding new more)
    by (Some class) is refused accepted = cc
    by None is refused accepted = (
      accepted ∙ sym (ap (λ o. added_by o old e) none),
      clashes-by_name old e none ∙ ap is_some is,
      λ more sum. subst (λ es. AreStanding es more) (sym accepted)
          (standing-more old e count more standing
          (record {
            low = usable.low;
            high = usable.high;
            short = usable.few;
            class = none;
            name = is;
          }) usable.read sum),
    )

pub is-added : {A : Type 0} (inside old new : List Entry) (count class : ℕ) (e own : Entry) (x : A) → inside ≡ old
    → AreStanding inside count → IsUsable e → e.class ≡ class → entry_of old class ≡ None → own ≡ printed_entry e
    → IfErr (step inside own) (λ fault. ◌≡◌ {A = Result A AddFault} (Ok x) (Err fault))
    → IfOk (step inside own) (λ next. new ≡ next) → IsAdded old new count e
is-added {A} inside old new count class e own x same standing usable class_is none printed refused accepted =
    let p = printed_entry e in
    let added = add-usable old new count p x (subst (λ es. AreStanding es count) same standing)
    (usable-printed e usable)
    (ap (entry_of old) class_is ∙ none)
    (subst (λ r. IfErr r (λ fault. ◌≡◌ {A = Result A AddFault} (Ok x) (Err fault)))
    (λ i. step (same i) (printed i)) refused)
    (subst (λ r. IfOk r (λ next. new ≡ next)) (λ i. step (same i) (printed i)) accepted) in
    record { used = added.0; no_clash = added.1; standing = added.2 }

-- it is refused where it clashes by its name
pub is-refused : (inside old : List Entry) (class : ℕ) (e own : Entry) (fault : AddFault) → inside ≡ old → IsUsable e
    → e.class ≡ class → entry_of old class ≡ None → own ≡ printed_entry e → fault ≡ NameTwice
    → OnOk (step inside own) (fault ≡ NoMemory) → clashes old (printed_entry e) ≡ true
is-refused inside old class e own fault same usable class_is none printed twice only =
    let here = ap (entry_of old) class_is ∙ none in
    clashes-by_name old (printed_entry e) here
    ∙ by (is_some (class_named old e.name))
    (subst (λ r. OnOk r (fault ≡ NoMemory))
    ((λ i. step (same i) (printed i)) ∙ step-usable old (printed_entry e) (usable-printed e usable) here) only)
  where
    by : (b : Bool) → OnOk (cond b (Err NameTwice) (Ok (old ++ printed_entry e ∷ []))) (fault ≡ NoMemory) → b ≡ true
    by true only = refl
    by false only = cc

-- its bytes are appended
pub new-appended : (inside old : List Entry) (count number class : ℕ) (e own : Entry) (a b : List ℕ) → inside ≡ old
    → AreStanding inside count → number ≡ count → IsUsable e → e.class ≡ class → entry_of old class ≡ None
    → own ≡ printed_entry e
    → Appends (λ bytes. IsShortEntry own → bytes ≡ entry_bytes number own) a b
    → Appends (λ bytes. IsShortEntry e → bytes ≡ new_entry old (printed_entry e)) a b
new-appended inside old count number class e own a b same standing number_is usable class_is none printed part =
    Appends-as (λ bytes. IsShortEntry own → bytes ≡ entry_bytes number own)
    (λ bytes. IsShortEntry e → bytes ≡ new_entry old (printed_entry e)) a b part
    (λ bytes is short.
    is (subst IsShortEntry (sym printed) (printed-short e usable.read short))
    ∙ (λ i. entry_bytes ((number_is ∙ standing.counted ∙ ap length same) i) (printed i))
    ∙ sym (ap (λ o. unless_held o old (printed_entry e)) (ap (entry_of old) class_is ∙ none)))

-- ---- how many then

some-or : (found : Option Entry) → (IsSome found → ⊥) → found ≡ None
some-or None none = refl
some-or (Some e) none = absurd (none refl)

pub length-with : (inside entries : List Entry) (count more : ℕ) (e : Entry) → inside ≡ entries
    → AreStanding inside count → (IsSome (entry_of entries e.class) → ⊥) → more ≡ min (count + 1) 4294967295
    → more ≡ length (with_entry entries e)
length-with inside entries count more e same s none is =
    is ∙ omega (arith, s.counted, standing-few inside count s, length-append entries (e ∷ []), ap length same)
    ∙ sym (ap (λ o. length (added_by o entries e)) (some-or (entry_of entries e.class) none))

-- classes of more than one byte do not stand
pub no-class : (inside entries : List Entry) (count class : ℕ) → inside ≡ entries → AreStanding inside count
    → (class < 256 → ⊥) → IsSome (entry_of entries class) → ⊥
no-class inside entries count class same s high =
    subst (λ es. IsSome (entry_of es class) → ⊥) same (by (entry_of inside class) refl)
  where
    by : (found : Option Entry) → entry_of inside class ≡ found → IsSome found → ⊥
    by None is some = true≢false (sym some)
    by (Some e) is some = high (omega (arith, (s.sound.entries class e is).high, entry-class inside class e is))
