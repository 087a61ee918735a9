-- The entries used, and the classes that were met, as entries come one after another.
use Rattle.std.proofs.Common.{◌≡◌, ◌==◌, ℕ, zero, suc, Bool, cond, true, false, not, Option, Some, None, List, [], ◌∷◌}
use Rattle.std.proofs.Common.{◌++◌, set}
use Rattle.std.proofs.Common.{IsSomeAnd, is_some, get_or, refl, sym, ap, ◌∙◌, subst, append-nil, eq-eqb}
use Rattle.std.specs.Prelude.{slice_get}
use Rattle.std.specs.Option.{option_map_or, option_or}
use Rattle.std.proofs.lemmas.Bool.{eqb-true, eqb-false, false≢true}
use Rattle.std.proofs.lemmas.List.Folds.{find-append}
use Rattle.dictionary.specs.declared.entries.Entry.{Entry}
use Rattle.dictionary.specs.Dictionary.{entry_of, class_named, IsDictionary}
use Rattle.dictionary.specs.Same.{same_entries}
use Rattle.dictionary.proofs.SameLemmas.{entries-Decides}
use Rattle.frame_content.specs.Labels.{printed_entry}
use Rattle.contents_table.proofs.ReadRecords.{entry-class}
use Rattle.contents_table.proofs.SomeValues.{some-and}
use Rattle.canonical_file.specs.declared.closing.Closing.{Closing}
use Rattle.canonical_file.specs.Records.{unless_held, new_entry, added_by, with_entry}
use Rattle.canonical_file.specs.Splices.{entries_used, clashes}
use Rattle.canonical_writer.specs.declared.frame_part.FramePart.{FramePart}
use Rattle.canonical_writer.specs.Parts.{AreMet, IsReady, IsUsable, AreConsistent}
use Rattle.canonical_writer.specs.Filled.{Uses}
use Rattle.canonical_writer.proofs.PrintedEntries.{same-printed}

-- what a dictionary holds may be used
pub usable-held : (held : List Entry) (class : ℕ) (e : Entry) → IsDictionary held → entry_of held class ≡ Some e
    → IsUsable e
usable-held held class e sound there =
    let is = sound.entries class e there in
    record { low = is.low; high = is.high; read = is.read; few = is.short }

-- ---- an entry among those used

-- it is still the one of its class where more stand
front-entry : (used more : List Entry) (class : ℕ) (old : Entry) → entry_of used class ≡ Some old
    → entry_of (used ++ more) class ≡ Some old
front-entry used more class old there =
    find-append (λ (e : Entry). class == e.class) used more
    ∙ ap (λ found. option_or found (entry_of more class)) there

same-self : (e : Entry) → same_entries e e ≡ true
same-self e = (entries-Decides e e).1 (record { class = refl; name = refl; columns = refl })

pub clash-held : (used : List Entry) (closing : Option Closing) (e old : Entry) → entry_of used e.class ≡ Some old
    → clashes (entries_used used closing) e ≡ not (same_entries old e)
clash-held used closing e old there =
    ap (λ found. option_map_or (λ (old : Entry). not (same_entries old e)) found
    (is_some (class_named (entries_used used closing) e.name)))
    (front-entry used _ e.class old there)

grown-entry : (used : List Entry) (e : Entry) (class : ℕ) (old : Entry) → entry_of used class ≡ Some old
    → entry_of (with_entry used e) class ≡ Some old
grown-entry used e class old there = by (entry_of used e.class)
  where
    by : (o : Option Entry) → entry_of (added_by o used e) class ≡ Some old
    by None = front-entry used (e ∷ []) class old there
    by (Some other) = there

not-false : (b : Bool) → not b ≡ false → b ≡ true
not-false true is = refl
not-false false is = absurd (false≢true (sym is))

-- after an entry that does not clash one stands that is the same
standing-entry : (used : List Entry) (closing : Option Closing) (e : Entry)
    → clashes (entries_used used closing) e ≡ false
    → IsSomeAnd (entry_of (with_entry used e) e.class) (λ old. same_entries old e ≡ true)
standing-entry used closing e clear = by (entry_of used e.class) refl
  where
    by : (o : Option Entry) → entry_of used e.class ≡ o
        → IsSomeAnd (entry_of (added_by o used e) e.class) (λ old. same_entries old e ≡ true)
    by None none =
        subst (λ found. IsSomeAnd found (λ old. same_entries old e ≡ true))
        (sym (find-append (λ (x : Entry). e.class == x.class) used (e ∷ [])
        ∙ ap (λ found. option_or found (entry_of (e ∷ []) e.class)) none
        ∙ ap (λ b. option_or None (cond b (Some e) None)) (eq-eqb e.class e.class refl)))
        (same-self e)
    by (Some old) there =
        subst (λ found. IsSomeAnd found (λ old. same_entries old e ≡ true)) (sym there)
        (not-false (same_entries old e) (sym (clash-held used closing e old there) ∙ clear))

-- ---- the classes that were met

-- an element where another one was set
other-set : {X : Type 0} (xs : List X) (i j : ℕ) (x : X) → (i ≡ j → ⊥) → slice_get (set xs i x) j ≡ slice_get xs j
other-set [] i j x apart = refl
other-set (y ∷ ys) zero zero x apart = absurd (apart refl)
other-set (y ∷ ys) zero (suc j) x apart = refl
other-set (y ∷ ys) (suc i) zero x apart = refl
other-set (y ∷ ys) (suc i) (suc j) x apart = other-set ys i j x (λ same. apart (ap (λ k. suc k) same))

pub met-at : (met : List Bool) (class : ℕ) → get_or met class false ≡ true → slice_get met class ≡ Some true
met-at [] class is = absurd (false≢true is)
met-at (b ∷ bs) zero is = ap Some is
met-at (b ∷ bs) (suc class) is = met-at bs class is

-- where one more is met
met-more : (met : List Bool) (used held : List Entry) (closing : Option Closing) (class : ℕ) (e : Entry)
    → IsDictionary held → entry_of held class ≡ Some e → AreMet met used held
    → clashes (entries_used used closing) (printed_entry e) ≡ false
    → AreMet (set met class true) (with_entry used (printed_entry e)) held
met-more met used held closing class e sound there are clear other is = by (class == other) refl
  where
    grown : (old : Entry) → entry_of used other ≡ Some old
        → IsSomeAnd (entry_of held other) (λ e. same_entries old e ≡ true)
        → IsSomeAnd (entry_of (with_entry used (printed_entry e)) other)
        (λ old. IsSomeAnd (entry_of held other) (λ e. same_entries old e ≡ true))
    grown old stands same =
        subst (λ found. IsSomeAnd found (λ old. IsSomeAnd (entry_of held other) (λ e. same_entries old e ≡ true)))
        (sym (grown-entry used (printed_entry e) other old stands)) same

    stood : slice_get met other ≡ Some true
        → IsSomeAnd (entry_of (with_entry used (printed_entry e)) other)
        (λ old. IsSomeAnd (entry_of held other) (λ e. same_entries old e ≡ true))
    stood was =
        let old = some-and (entry_of used other)
        (λ old. IsSomeAnd (entry_of held other) (λ e. same_entries old e ≡ true))
        (are other was) in
        grown old.0 old.1 old.2

    here : other ≡ class
        → IsSomeAnd (entry_of (with_entry used (printed_entry e)) other)
        (λ old. IsSomeAnd (entry_of held other) (λ e. same_entries old e ≡ true))
    here same =
        let same_class : (printed_entry e).class ≡ other = sym (entry-class held class e there) ∙ sym same in
        let found = some-and (entry_of (with_entry used (printed_entry e)) e.class)
        (λ old. same_entries old (printed_entry e) ≡ true) (standing-entry used closing (printed_entry e) clear) in
        let read = (sound.entries class e there).read in
        let stands : entry_of (with_entry used (printed_entry e)) other ≡ Some found.0 =
        ap (entry_of (with_entry used (printed_entry e))) (sym same_class) ∙ found.1 in
        let held_is : entry_of held other ≡ Some e = ap (entry_of held) same ∙ there in
        subst (λ o. IsSomeAnd o (λ old. IsSomeAnd (entry_of held other) (λ e. same_entries old e ≡ true))) (sym stands)
        (subst (λ o. IsSomeAnd o (λ e. same_entries found.0 e ≡ true)) (sym held_is)
        (sym (same-printed found.0 e read) ∙ found.2))

    by : (b : Bool) → (class == other) ≡ b
        → IsSomeAnd (entry_of (with_entry used (printed_entry e)) other)
        (λ old. IsSomeAnd (entry_of held other) (λ e. same_entries old e ≡ true))
    by true same = here (sym (eqb-true class other same))
    by false apart = stood (sym (other-set met class other true (eqb-false class other apart)) ∙ is)

-- ---- uses

-- an entry of a class that was met stands already
pub used-met : (closing : Option Closing) (used held : List Entry) (class : ℕ) (e : Entry) (part : FramePart)
    → IsDictionary held → entry_of held class ≡ Some e → slice_get part.met class ≡ Some true
    → IsReady part.met closing used held → Uses closing used used held (printed_entry e) [] part part
used-met closing used held class e part sound there met ready =
    let same_class : class ≡ e.class = entry-class held class e there in
    let old = some-and (entry_of used class) (λ old. IsSomeAnd (entry_of held class) (λ e. same_entries old e ≡ true))
    (ready.met_are class met) in
    let stands : entry_of used (printed_entry e).class ≡ Some old.0 = ap (entry_of used) (sym same_class) ∙ old.1 in
    let same : same_entries old.0 e ≡ true =
    subst (λ o. IsSomeAnd o (λ e. same_entries old.0 e ≡ true)) there old.2 in
    let read = (sound.entries class e there).read in
    record {
      bytes_are = sym (append-nil part.bytes.items)
          ∙ ap (λ o. part.bytes.items ++ (unless_held o used (printed_entry e) ++ [])) (sym stands);
      entries = ap (λ o. added_by o used (printed_entry e)) (sym stands);
      no_clash = clash-held used closing (printed_entry e) old.0 stands
          ∙ ap not (same-printed old.0 e read ∙ same);
      ready = ready;
    }

-- an entry that was appended is used
pub used-new : (closing : Option Closing) (used after held : List Entry) (class : ℕ) (e : Entry) (old new : FramePart)
    (items : List ℕ) → IsDictionary held → entry_of held class ≡ Some e → IsReady old.met closing used held
    → new.bytes.items ≡ old.bytes.items ++ items → items ≡ new_entry used (printed_entry e)
    → new.met ≡ set old.met class true → after ≡ with_entry used (printed_entry e)
    → clashes (entries_used used closing) (printed_entry e) ≡ false → AreConsistent (entries_used after closing)
    → Uses closing used after held (printed_entry e) [] old new
used-new closing used after held class e old new items sound there ready bytes items_are met after_is clear agree =
    record {
      bytes_are = bytes ∙ ap (λ xs. old.bytes.items ++ xs)
          (items_are ∙ sym (append-nil (new_entry used (printed_entry e))));
      entries = after_is;
      no_clash = clear;
      ready = record {
        met_are = subst (λ m. AreMet m after held) (sym met)
            (subst (λ a. AreMet (set old.met class true) a held) (sym after_is)
            (met-more old.met used held closing class e sound there ready.met_are clear));
        agree = agree;
      };
    }
