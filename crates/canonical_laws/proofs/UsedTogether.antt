-- The entries that frames of several files use: none clashes with those used before it, so with those of the closing
-- they are a dictionary.
use Rattle.std.proofs.Common.{◌≡◌, ℕ, ◌⊎◌, inl, inr, Bool, true, false, not, cond, is_some, eqb}
use Rattle.std.proofs.Common.{Option, Some, None, IfSome, List, []}
use Rattle.std.proofs.Common.{◌∷◌, ◌++◌, refl, sym, ap, ◌∙◌, subst, arith}
use Rattle.std.specs.List.{AllByRecursion}
use Rattle.std.specs.Option.{option_map_or, option_or}
use Rattle.std.proofs.lemmas.Bool.{cases_Bool, true≢false}
use Rattle.std.proofs.lemmas.List.Elements.{All-from_recursion}
use Rattle.std.proofs.lemmas.List.Folds.{find-append}
use Rattle.std.proofs.lemmas.Option.{none-some}
use Rattle.dictionary.specs.declared.entries.Entry.{Entry}
use Rattle.dictionary.specs.Dictionary.{entry_of, class_named, IsDictionary}
use Rattle.dictionary.specs.Same.{IsRead, AreRead, same_entries}
use Rattle.dictionary.specs.Verdicts.{IsNew}
use Rattle.dictionary.proofs.SameLemmas.{entries-Decides}
use Rattle.dictionary.proofs.KeptLemmas.{IsDictionary-new}
use Rattle.file_grammar.specs.Kind.{kind_named, is_frame_kind}
use Rattle.frame_content.specs.Labels.{printed_entry}
use Rattle.frame_content.specs.Frames.{Frame}
use Rattle.canonical_file.specs.declared.closing.Closing.{Closing}
use Rattle.canonical_file.specs.Records.{Record, records_of, end_record, added_by}
use Rattle.canonical_file.specs.Records.{with_entry, with_record, entries_after}
use Rattle.canonical_file.specs.Written.{Written, after_frame, after_frames}
use Rattle.canonical_file.specs.Splices.{closing_entries, clashes, clash_from, NoneClashes}
use Rattle.canonical_file.proofs.Bare.{same-bare}
use Rattle.canonical_file.proofs.UsedEntries.{IsAlike, Agree}
use Rattle.canonical_file.proofs.UsedFrames.{AgreeAll}
use Rattle.canonical_laws.specs.Writable.{IsWritableEntry, IsWritableFrame, kind_at}
use Rattle.canonical_laws.specs.Spliced.{IsWritableSomewhere}
use Rattle.canonical_laws.proofs.SourceEntries.{are-read}
use Rattle.canonical_laws.proofs.AgreeingEntries.{IsIn, AreIn, agrees-in, all-push, added-in}
use Rattle.canonical_laws.proofs.WrittenRecords.{Agrees}
use Rattle.canonical_laws.proofs.RowsFollow.{records_from, all-records}
use Rattle.canonical_laws.proofs.FrameEntries.{IsOfFrame, row-of_frame, found-all}
use Rattle.canonical_laws.proofs.DictionaryParts.{dictionary-moved, IsOfClosing}

-- ---- entries of records of frames

-- An entry of a record of a frame that can be written.
pub record IsUsable (e : Entry) : Type 0 where
  pub writable : IsWritableEntry e
  pub printed : printed_entry e ≡ e
  pub kind : IsOfFrame e

-- the types of its elements are as their texts read
pub usable-read : (e : Entry) → IsUsable e → AreRead e.elements
usable-read e is = All-from_recursion IsRead e.elements (are-read e.elements is.writable.elements)

abbrev pub IsUsableRecord : Record → Type 0
IsUsableRecord r = IsUsable r.entry

-- each record of a frame that can be written has such an entry
pub records-usable : (dictionary : List Entry) (f : Frame) → IsWritableFrame dictionary f
    → AllByRecursion IsUsableRecord (records_of f)
records-usable dictionary f w =
    all-push IsUsableRecord (records_from f 0 f.rows) (end_record f)
    (all-records IsUsableRecord f 0 f.rows
    (λ k less. let row = w.rows k less in record {
      writable = row.writable.entry;
      printed = row.row.label.entry;
      kind = row-of_frame f k (kind_at f k) row.kind;
    }) (omega arith) refl)
    (record {
      writable = w.end.writable.entry;
      printed = w.end.label.entry;
      kind = ap is_frame_kind w.end.kind;
    })

-- ---- one more entry

-- What is known of the entries used, beside those of a closing.
pub record AreUsable (more used : List Entry) : Type 0 where
  pub entries : AllByRecursion IsUsable used
  pub sound : IsDictionary (used ++ more)

-- an entry is used: it is like the one of its class that stands, or is new
pub record IsUsed (more used : List Entry) (e : Entry) : Type 0 where
  pub alike : IfSome (entry_of used e.class) (λ old. IsAlike old e)
  pub then_used : AreUsable more (with_entry used e)

-- an entry that does not clash is used
pub use-entry : (more used : List Entry) (e : Entry) → AllByRecursion IsOfClosing more → AreUsable more used
    → IsUsable e → clashes (used ++ more) e ≡ false → IsUsed more used e
use-entry more used e closings are is none = by (entry_of used e.class) refl
  where
    all : List Entry
    all = used ++ more

    -- the one of its class, of all
    found_in : (o : Option Entry) → entry_of used e.class ≡ o
        → entry_of all e.class ≡ option_or o (entry_of more e.class)
    found_in o found =
        find-append (λ (x : Entry). eqb e.class x.class) used more
        ∙ ap (λ o. option_or o (entry_of more e.class)) found

    same_as : (old : Entry) → entry_of all e.class ≡ Some old → same_entries old e ≡ true
    same_as old found = of (cases_Bool (same_entries old e))
      where
        other : not (same_entries old e) ≡ false
        other =
            sym (ap (λ o. option_map_or (λ old. not (same_entries old e)) o (is_some (class_named all e.name))) found)
            ∙ none

        of : (same_entries old e ≡ true) ⊎ (same_entries old e ≡ false) → same_entries old e ≡ true
        of (inl same) = same
        of (inr differ) = absurd (true≢false (sym (ap not differ) ∙ other))

    -- none has the class: the closing has entries of other names
    none_of_closing : (o : Option Entry) → entry_of more e.class ≡ o → entry_of used e.class ≡ None
        → entry_of all e.class ≡ None
    none_of_closing None closing absent = found_in None absent ∙ closing
    none_of_closing (Some c) closing absent =
        let same : same_entries c e ≡ true = same_as c (found_in None absent ∙ closing) in
        let names = ((entries-Decides c e).0 same).name in
        let kind : is_frame_kind (kind_named c.name) ≡ false =
        found-all IsOfClosing more e.class c closings closing in
        absurd (true≢false (sym is.kind ∙ ap (λ n. is_frame_kind (kind_named n)) (sym names) ∙ kind))

    unnamed : (o : Option ℕ) → class_named all e.name ≡ o → is_some o ≡ false → o ≡ None
    unnamed None named is = refl
    unnamed (Some class) named is = absurd (true≢false is)

    by : (o : Option Entry) → entry_of used e.class ≡ o → IsUsed more used e
    by (Some old) found = record {
      alike = subst (λ o. IfSome o (λ old. IsAlike old e)) (sym found)
          (same-bare old e (same_as old (found_in (Some old) found))
          (usable-read old (found-all IsUsable used e.class old are.entries found)) (usable-read e is));
      then_used = subst (λ o. AreUsable more (added_by o used e)) (sym found) are;
    }
    by None absent =
        let class : entry_of all e.class ≡ None = none_of_closing (entry_of more e.class) refl absent in
        let name : class_named all e.name ≡ None =
        unnamed (class_named all e.name) refl
        (sym (ap (λ o. option_map_or (λ old. not (same_entries old e)) o (is_some (class_named all e.name))) class)
        ∙ none) in
        let new : IsNew all e = record {
          low = is.writable.low;
          high = is.writable.high;
          short = is.writable.short;
          class = class;
          name = name;
        } in
        record {
          alike = subst (λ o. IfSome o (λ old. IsAlike old e)) (sym absent) tt;
          then_used = subst (λ o. AreUsable more (added_by o used e)) (sym absent) (record {
            entries = all-push IsUsable used e are.entries is;
            sound = dictionary-moved used more e new
                (IsDictionary-new all e are.sound new (usable-read e is));
          });
        }

-- ---- the entries of records and frames

use-records : (c : Closing) (used : List Entry) (rs : List Record) → AllByRecursion IsOfClosing (closing_entries c)
    → AreUsable (closing_entries c) used → AllByRecursion IsUsableRecord rs
    → clash_from (Some c) used rs ≡ None
    → Agree used rs × AreUsable (closing_entries c) (entries_after used rs)
use-records c used [] closings are all none = (tt, are)
use-records c used (r ∷ rs) closings are all none =
    by (clashes (used ++ closing_entries c) r.entry) refl none
    (λ then_used free. use-records c (with_record used r) rs closings then_used all.1 free)
  where
    next : List Entry
    next = with_record used r

    by : (b : Bool) → clashes (used ++ closing_entries c) r.entry ≡ b
        → cond b (Some r.entry.class) (clash_from (Some c) next rs) ≡ None
        → (AreUsable (closing_entries c) next → clash_from (Some c) next rs ≡ None
        → Agree next rs × AreUsable (closing_entries c) (entries_after next rs))
        → Agree used (r ∷ rs) × AreUsable (closing_entries c) (entries_after used (r ∷ rs))
    by true clash none later = absurd (none-some r.entry.class (sym none))
    by false free none later =
        let one = use-entry (closing_entries c) used r.entry closings are all.0 free in
        let rest = later one.then_used none in
        ((one.alike, rest.0), rest.1)

-- frames that do not clash agree with what is used before them, and all that is used is usable
pub use-frames : (c : Closing) (w : Written) (fs : List Frame) → AllByRecursion IsOfClosing (closing_entries c)
    → AreUsable (closing_entries c) w.entries → AllByRecursion IsWritableSomewhere fs → NoneClashes (Some c) w fs
    → AgreeAll w fs × AreUsable (closing_entries c) (after_frames w fs).entries
use-frames c w [] closings are all none = (tt, are)
use-frames c w (f ∷ fs) closings are all none =
    let one = use-records c w.entries (records_of f) closings are
    (records-usable all.0.dictionary f all.0.writable) none.0 in
    let later = use-frames c (after_frame w f) fs closings one.1 all.1 none.1 in
    ((one.0, later.0), later.1)

-- ---- frames of one file

-- what holds of all of two lists holds of all of both
pub all-append : {X : Type 0} (P : X → Type 0) (xs ys : List X) → AllByRecursion P xs → AllByRecursion P ys
    → AllByRecursion P (xs ++ ys)
all-append P [] ys left right = right
all-append P (x ∷ xs) ys left right = (left.0, all-append P xs ys left.1 right)

-- an entry of the dictionary clashes with none of it
free-in : (dictionary used : List Entry) (e : Entry) → IsDictionary dictionary → AreIn dictionary used
    → IsIn dictionary e → clashes used e ≡ false
free-in dictionary used e sound all is = by (entry_of used e.class) (agrees-in dictionary used e sound all is)
  where
    by : (o : Option Entry) → Agrees o used e
        → option_map_or (λ old. not (same_entries old e)) o (is_some (class_named used e.name)) ≡ false
    by None new = ap is_some new
    by (Some old) same =
        ap not (ap (λ old. same_entries old e) same
        ∙ (entries-Decides e e).1 (record { class = refl; name = refl; columns = refl }))

records-free : (dictionary : List Entry) (c : Closing) (used : List Entry) (rs : List Record) → IsDictionary dictionary
    → AreIn dictionary (closing_entries c) → AreIn dictionary used
    → AllByRecursion (λ (r : Record). IsIn dictionary r.entry) rs
    → (clash_from (Some c) used rs ≡ None) × AreIn dictionary (entries_after used rs)
records-free dictionary c used [] sound closing own all = (refl, own)
records-free dictionary c used (r ∷ rs) sound closing own all =
    let free = free-in dictionary (used ++ closing_entries c) r.entry sound
    (all-append (IsIn dictionary) used (closing_entries c) own closing) all.0 in
    let later = records-free dictionary c (with_record used r) rs sound closing
    (added-in dictionary used (entry_of used r.entry.class) r.entry own all.0) all.1 in
    (ap (λ b. cond b (Some r.entry.class) (clash_from (Some c) (with_record used r) rs)) free ∙ later.0, later.1)

records-in : (dictionary : List Entry) (f : Frame) → IsWritableFrame dictionary f
    → AllByRecursion (λ (r : Record). IsIn dictionary r.entry) (records_of f)
records-in dictionary f w =
    let P : Record → Type 0 = λ r. IsIn dictionary r.entry in
    all-push P (records_from f 0 f.rows) (end_record f)
    (all-records P f 0 f.rows (λ k less. (w.rows k less).held) (omega arith) refl) w.end.held

-- Frames of one file do not clash with the entries of its closing.
pub frames-free : (dictionary : List Entry) (c : Closing) (w : Written) (fs : List Frame) → IsDictionary dictionary
    → AreIn dictionary (closing_entries c) → AreIn dictionary w.entries
    → AllByRecursion (IsWritableFrame dictionary) fs → NoneClashes (Some c) w fs
frames-free dictionary c w [] sound closing own all = tt
frames-free dictionary c w (f ∷ fs) sound closing own all =
    let one = records-free dictionary c w.entries (records_of f) sound closing own
    (records-in dictionary f all.0) in
    (one.0, frames-free dictionary c (after_frame w f) fs sound closing one.1 all.1)

-- frames that do not clash, and more after them that do not, do not clash
pub none-append : (closing : Option Closing) (w : Written) (front back : List Frame) → NoneClashes closing w front
    → NoneClashes closing (after_frames w front) back → NoneClashes closing w (front ++ back)
none-append closing w [] back left right = right
none-append closing w (f ∷ fs) back left right =
    (left.0, none-append closing (after_frame w f) fs back left.1 right)
