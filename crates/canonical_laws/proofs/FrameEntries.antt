-- The entries that frames need: they are of the dictionary, of records of frames, and of different classes. So they are
-- few, and those of a closing are none of them.
use Rattle.std.proofs.Common.{◌≡◌, ℕ, ◌<◌, ◌≤◌, ◌⊎◌, inl, inr, Bool, true, false, cond, eqb, Option, Some, None}
use Rattle.std.proofs.Common.{List, [], ◌∷◌, ◌++◌, length, map, refl, sym, ap, ◌∙◌, subst, arith}
use Rattle.std.specs.List.{AllByRecursion, IsDistinct, list_any}
use Rattle.std.specs.Str.{bytes_eq}
use Rattle.std.proofs.lemmas.Bool.{false≢true, eqb-true, eqb-false, ne_eqb, or_cases}
use Rattle.std.proofs.lemmas.List.{length-map}
use Rattle.std.proofs.lemmas.Map.Steps.{length-le_from_distinct_below}
use Rattle.std.proofs.lemmas.Option.{same_Some}
use Rattle.std.proofs.lemmas.Slice.Eq.{bytes_eq-Decides}
use Rattle.dictionary.specs.declared.entries.Entry.{Entry}
use Rattle.dictionary.specs.Dictionary.{entry_of, IsDictionary}
use Rattle.file_grammar.specs.declared.kind.Kind.{Kind}
use Rattle.file_grammar.specs.declared.kind.Kind.TheVariants.{FrSH, FrSE, FrameH, FrEndOfFrame, FrTOC, FrEndOfFile}
use Rattle.file_grammar.specs.declared.kind.Kind.TheVariants.{Other}
use Rattle.file_grammar.specs.Kind.{kind_named, is_frame_kind}
use Rattle.frame_content.specs.Frames.{Frame}
use Rattle.canonical_file.specs.Records.{Record, end_record, records_of, added_by, with_record, entries_after}
use Rattle.canonical_file.specs.Written.{Written, after_frame, after_frames}
use Rattle.canonical_laws.specs.Content.{entry_named}
use Rattle.canonical_laws.specs.Writable.{IsRowOfKind, IsWritableFrame, kind_at}
use Rattle.canonical_laws.proofs.AgreeingEntries.{IsIn, AreIn, found-in, all-push, added-all, added-in}
use Rattle.canonical_laws.proofs.RowsFollow.{records_from, all-records}

-- an entry of a record of a frame
abbrev pub IsOfFrame : Entry → Type 0
IsOfFrame e = is_frame_kind (kind_named e.name) ≡ true

abbrev pub classes_of : List Entry → List ℕ
classes_of es = map (λ (e : Entry). e.class) es

-- Entries that frames need.
pub record AreNeeded (dictionary es : List Entry) : Type 0 where
  pub held : AreIn dictionary es
  pub kinds : AllByRecursion IsOfFrame es
  pub distinct : IsDistinct eqb (classes_of es)

-- ---- different classes

apart-push : (c : ℕ) (es : List Entry) (e : Entry) → AllByRecursion (λ y. eqb c y ≡ false) (classes_of es)
    → eqb c e.class ≡ false → AllByRecursion (λ y. eqb c y ≡ false) (classes_of (es ++ e ∷ []))
apart-push c [] e all here = (here, tt)
apart-push c (x ∷ xs) e all here = (all.0, apart-push c xs e all.1 here)

distinct-push : (es : List Entry) (e : Entry) → IsDistinct eqb (classes_of es) → entry_of es e.class ≡ None
    → IsDistinct eqb (classes_of (es ++ e ∷ []))
unfolding IsDistinct
distinct-push [] e all none = (tt, tt)
distinct-push (x ∷ xs) e all none =
    by (eqb e.class x.class) refl none (distinct-push xs e all.1)
  where
    by : (b : Bool) → eqb e.class x.class ≡ b → cond b (Some x) (entry_of xs e.class) ≡ None
        → (entry_of xs e.class ≡ None → IsDistinct eqb (classes_of (xs ++ e ∷ [])))
        → AllByRecursion (λ y. eqb x.class y ≡ false) (classes_of (xs ++ e ∷ []))
        × IsDistinct eqb (classes_of (xs ++ e ∷ []))
    by true same none later = absurd cc
    by false differ none later = (
      apart-push x.class xs e all.0 (ne_eqb x.class e.class (λ same. eqb-false e.class x.class differ (sym same))),
      later none,
    )

distinct-added : (o : Option Entry) (es : List Entry) (e : Entry) → entry_of es e.class ≡ o
    → IsDistinct eqb (classes_of es) → IsDistinct eqb (classes_of (added_by o es e))
distinct-added (Some old) es e found all = all
distinct-added None es e none all = distinct-push es e all none

-- ---- the entries of frames are needed

abbrev IsNeeded : List Entry → Record → Type 0
IsNeeded dictionary r = IsIn dictionary r.entry × IsOfFrame r.entry

records-needed : (dictionary es : List Entry) (rs : List Record) → AreNeeded dictionary es
    → AllByRecursion (IsNeeded dictionary) rs → AreNeeded dictionary (entries_after es rs)
records-needed dictionary es [] needed all = needed
records-needed dictionary es (r ∷ rs) needed all =
    let o : Option Entry = entry_of es r.entry.class in
    records-needed dictionary (with_record es r) rs (record {
      held = added-in dictionary es o r.entry needed.held all.0.0;
      kinds = added-all IsOfFrame es o r.entry needed.kinds all.0.1;
      distinct = distinct-added o es r.entry refl needed.distinct;
    }) all.1

pub row-of_frame : (f : Frame) (k : ℕ) (kind : Kind) → IsRowOfKind kind f k → is_frame_kind kind ≡ true
row-of_frame f k Other is = refl
row-of_frame f k FrameH is = refl
row-of_frame f k FrEndOfFrame is = absurd is
row-of_frame f k FrTOC is = absurd is
row-of_frame f k FrEndOfFile is = absurd is
row-of_frame f k FrSH is = absurd is
row-of_frame f k FrSE is = absurd is

frame-needed : (dictionary : List Entry) (f : Frame) → IsWritableFrame dictionary f
    → AllByRecursion (IsNeeded dictionary) (records_of f)
frame-needed dictionary f w =
    all-push (IsNeeded dictionary) (records_from f 0 f.rows) (end_record f)
    (all-records (IsNeeded dictionary) f 0 f.rows
    (λ k less. ((w.rows k less).held, row-of_frame f k (kind_at f k) (w.rows k less).kind)) (omega arith) refl)
    (w.end.held, ap is_frame_kind w.end.kind)

pub frames-needed : (dictionary : List Entry) (w : Written) (fs : List Frame) → AreNeeded dictionary w.entries
    → AllByRecursion (IsWritableFrame dictionary) fs → AreNeeded dictionary (after_frames w fs).entries
frames-needed dictionary w [] needed all = needed
frames-needed dictionary w (f ∷ fs) needed all =
    frames-needed dictionary (after_frame w f) fs
    (records-needed dictionary w.entries (records_of f) needed (frame-needed dictionary f all.0)) all.1

pub none-needed : (dictionary : List Entry) → AreNeeded dictionary []
unfolding IsDistinct
none-needed dictionary = record { held = tt; kinds = tt; distinct = tt }

-- ---- they are few

class-below : (dictionary es : List Entry) → IsDictionary dictionary → AreIn dictionary es → (q : ℕ)
    → list_any (eqb q) (classes_of es) ≡ true → q < 256
class-below dictionary [] sound all q found = absurd (false≢true found)
class-below dictionary (x ∷ xs) sound all q found =
    by (or_cases (eqb q x.class) (list_any (eqb q) (classes_of xs)) found)
    (class-below dictionary xs sound all.1 q)
  where
    by : (eqb q x.class ≡ true) ⊎ (list_any (eqb q) (classes_of xs) ≡ true)
        → (list_any (eqb q) (classes_of xs) ≡ true → q < 256) → q < 256
    by (inl same) rest = omega (arith, eqb-true q x.class same, (sound.entries x.class x all.0).high)
    by (inr later) rest = rest later

pub few-needed : (dictionary es : List Entry) → IsDictionary dictionary → AreNeeded dictionary es → length es ≤ 256
few-needed dictionary es sound needed =
    omega (
      arith,
      length-le_from_distinct_below (classes_of es) 256 needed.distinct
          (class-below dictionary es sound needed.held),
      length-map es (λ (e : Entry). e.class),
    )

-- ---- those of a closing are none of them

-- what is found is one of them
pub found-all : (P : Entry → Type 0) (es : List Entry) (class : ℕ) (e : Entry) → AllByRecursion P es
    → entry_of es class ≡ Some e → P e
found-all P [] class e all is = absurd cc
found-all P (x ∷ xs) class e all is = by (eqb class x.class) is (found-all P xs class e all.1)
  where
    by : (b : Bool) → cond b (Some x) (entry_of xs class) ≡ Some e → (entry_of xs class ≡ Some e → P e) → P e
    by true found later = subst P (same_Some x e found) all.0
    by false found later = later found

pub not-needed : (dictionary es : List Entry) (e : Entry) → AreNeeded dictionary es → IsIn dictionary e
    → is_frame_kind (kind_named e.name) ≡ false → entry_of es e.class ≡ None
not-needed dictionary es e needed is other = by (entry_of es e.class) refl
  where
    by : (o : Option Entry) → entry_of es e.class ≡ o → o ≡ None
    by None found = refl
    by (Some x) found =
        let same : x ≡ e = same_Some x e (sym (found-in dictionary es e.class x needed.held found) ∙ is) in
        let kind : is_frame_kind (kind_named x.name) ≡ true =
        found-all IsOfFrame es e.class x needed.kinds found in
        absurd (false≢true (sym other ∙ ap (λ (e : Entry). is_frame_kind (kind_named e.name)) (sym same) ∙ kind))

-- and no entry of another kind is named among them
pub none-named : (es : List Entry) (name : List ℕ) → AllByRecursion IsOfFrame es
    → is_frame_kind (kind_named name) ≡ false → entry_named es name ≡ None
none-named [] name all other = refl
none-named (x ∷ xs) name all other =
    by (bytes_eq name x.name) refl (none-named xs name all.1 other)
  where
    by : (b : Bool) → bytes_eq name x.name ≡ b → entry_named xs name ≡ None
        → cond b (Some x) (entry_named xs name) ≡ None
    by false differ later = later
    by true is later =
        let same : name ≡ x.name = (bytes_eq-Decides name x.name).0 is in
        absurd (false≢true (sym other ∙ ap (λ n. is_frame_kind (kind_named n)) same ∙ all.0))
