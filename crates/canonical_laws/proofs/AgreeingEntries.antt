-- Entries that are all of one dictionary agree with one another.
use Rattle.std.proofs.Common.{◌≡◌, ℕ, ◌≤◌, Bool, true, false, cond, eqb, find, Option, Some, None, List, [], ◌∷◌, ◌++◌}
use Rattle.std.proofs.Common.{length, refl, sym, ap, ◌∙◌, arith, length-append}
use Rattle.std.specs.List.{AllByRecursion}
use Rattle.std.specs.Option.{option_map}
use Rattle.std.specs.Str.{bytes_eq}
use Rattle.std.proofs.lemmas.Bool.{eqb-true, eqb-false}
use Rattle.std.proofs.lemmas.Option.{same_Some}
use Rattle.std.proofs.lemmas.Slice.Eq.{bytes_eq-Decides}
use Rattle.dictionary.specs.declared.entries.Entry.{Entry}
use Rattle.dictionary.specs.Dictionary.{entry_of, class_named, IsDictionary}
use Rattle.canonical_file.specs.Records.{Record, added_by, with_record, entries_after}
use Rattle.canonical_laws.proofs.WrittenRecords.{Agrees}

-- the dictionary holds this entry of its class
abbrev pub IsIn : List Entry → Entry → Type 0
IsIn dictionary e = entry_of dictionary e.class ≡ Some e

abbrev pub AreIn : List Entry → List Entry → Type 0
AreIn dictionary held = AllByRecursion (IsIn dictionary) held

-- what they hold, the dictionary holds
pub found-in : (dictionary held : List Entry) (class : ℕ) (e : Entry) → AreIn dictionary held
    → entry_of held class ≡ Some e → entry_of dictionary class ≡ Some e
found-in dictionary [] class e all is = absurd cc
found-in dictionary (h ∷ hs) class e all is =
    by (eqb class h.class) refl is (found-in dictionary hs class e all.1)
  where
    by : (b : Bool) → eqb class h.class ≡ b → cond b (Some h) (entry_of hs class) ≡ Some e
        → (entry_of hs class ≡ Some e → entry_of dictionary class ≡ Some e) → entry_of dictionary class ≡ Some e
    by true same found later = ap (entry_of dictionary) (eqb-true class h.class same) ∙ all.0 ∙ found
    by false differ found later = later found

-- a name that the dictionary has under a class that they do not hold is none of theirs
pub no_name : (dictionary held : List Entry) (e : Entry) → IsDictionary dictionary → AreIn dictionary held
    → IsIn dictionary e → entry_of held e.class ≡ None → class_named held e.name ≡ None
no_name dictionary [] e sound all is none = refl
no_name dictionary (h ∷ hs) e sound all is none =
    by (bytes_eq e.name h.name) (eqb e.class h.class) refl refl none (no_name dictionary hs e sound all.1 is)
  where
    one_class : e.name ≡ h.name → e.class ≡ h.class
    one_class names =
        let left : class_named dictionary e.name ≡ Some e.class = (sound.entries e.class e is).name in
        let right : class_named dictionary h.name ≡ Some h.class = (sound.entries h.class h all.0).name in
        same_Some e.class h.class (sym left ∙ ap (class_named dictionary) names ∙ right)

    by : (b c : Bool) → bytes_eq e.name h.name ≡ b → eqb e.class h.class ≡ c
        → cond c (Some h) (entry_of hs e.class) ≡ None
        → (entry_of hs e.class ≡ None → class_named hs e.name ≡ None)
        → option_map (λ (x : Entry). x.class) (cond b (Some h) (find (λ x. bytes_eq e.name x.name) hs)) ≡ None
    by b true same classes empty later = absurd cc
    by false false same classes empty later = later empty
    by true false same classes empty later =
        let classes_are : e.class ≡ h.class = one_class ((bytes_eq-Decides e.name h.name).0 same) in
        absurd (eqb-false e.class h.class classes classes_are)

-- so an entry of the dictionary agrees with what they hold
pub agrees-in : (dictionary held : List Entry) (e : Entry) → IsDictionary dictionary → AreIn dictionary held
    → IsIn dictionary e → Agrees (entry_of held e.class) held e
agrees-in dictionary held e sound all is = by (entry_of held e.class) refl
  where
    by : (o : Option Entry) → entry_of held e.class ≡ o → Agrees o held e
    by (Some old) found = same_Some old e (sym (found-in dictionary held e.class old all found) ∙ is)
    by None none = no_name dictionary held e sound all is none

-- ---- one more of them

pub all-push : {X : Type 0} (P : X → Type 0) (xs : List X) (x : X) → AllByRecursion P xs → P x
    → AllByRecursion P (xs ++ x ∷ [])
all-push P [] x all here = (here, tt)
all-push P (y ∷ ys) x all here = (all.0, all-push P ys x all.1 here)

pub added-all : (P : Entry → Type 0) (held : List Entry) (o : Option Entry) (e : Entry) → AllByRecursion P held → P e
    → AllByRecursion P (added_by o held e)
added-all P held (Some old) e all is = all
added-all P held None e all is = all-push P held e all is

pub added-in : (dictionary held : List Entry) (o : Option Entry) (e : Entry) → AreIn dictionary held
    → IsIn dictionary e → AreIn dictionary (added_by o held e)
added-in dictionary held o e all is = added-all (IsIn dictionary) held o e all is

-- entries are never fewer
pub added-longer : (o : Option Entry) (held : List Entry) (e : Entry) → length held ≤ length (added_by o held e)
added-longer (Some old) held e = omega arith
added-longer None held e = omega (arith, length-append held (e ∷ []))

pub entries-longer : (held : List Entry) (rs : List Record) → length held ≤ length (entries_after held rs)
entries-longer held [] = omega arith
entries-longer held (r ∷ rs) =
    omega (
      arith,
      added-longer (entry_of held r.entry.class) held r.entry,
      entries-longer (with_record held r) rs,
    )
