-- Dictionaries whose entries stand in another order, and the part of a dictionary that a closing is.
use Rattle.std.proofs.Common.{◌≡◌, ℕ, Bool, true, false, cond, eqb, find, Option, Some}
use Rattle.std.proofs.Common.{None, IfSome, IsSomeAnd, List, [], ◌∷◌}
use Rattle.std.proofs.Common.{◌++◌, refl, sym, ap, ◌∙◌, subst, eq-eqb}
use Rattle.std.specs.List.{AllByRecursion}
use Rattle.std.specs.Option.{option_map, option_or, option_to_list}
use Rattle.std.specs.Str.{bytes_eq}
use Rattle.std.proofs.lemmas.Bool.{eqb-true}
use Rattle.std.proofs.lemmas.List.Folds.{find-append}
use Rattle.std.proofs.lemmas.Option.{same_Some}
use Rattle.std.proofs.lemmas.Slice.Eq.{bytes_eq-Decides}
use Rattle.dictionary.specs.declared.entries.Entry.{Entry}
use Rattle.dictionary.specs.Dictionary.{entry_of, class_named, IsHeld, IsDictionary}
use Rattle.dictionary.specs.Verdicts.{IsNew}
use Rattle.dictionary.proofs.KeptLemmas.{IsDictionary-new}
use Rattle.file_grammar.specs.declared.kind.Kind.TheVariants.{FrTOC, FrEndOfFile}
use Rattle.file_grammar.specs.Kind.{kind_named, is_frame_kind}
use Rattle.canonical_file.specs.declared.closing.Closing.{Closing}
use Rattle.canonical_file.specs.Splices.{closing_entries}
use Rattle.canonical_laws.specs.Content.{entry_named}
use Rattle.canonical_laws.specs.Writable.{IsWritableEntry, IsWritableClosing, IsWritableFileEnd, IsWritableTable}
use Rattle.canonical_laws.proofs.AgreeingEntries.{IsIn, AreIn, no_name}

-- ---- entries in another order

or-none : {X : Type 0} (o : Option X) → option_or o None ≡ o
or-none None = refl
or-none (Some x) = refl

-- an entry that stands in front of others is found as behind them, where none of them is found before it
find-moved : (p : Entry → Bool) (xs ys : List Entry) (e : Entry) → (p e ≡ true → find p (xs ++ ys) ≡ None)
    → find p ((xs ++ e ∷ []) ++ ys) ≡ find p ((xs ++ ys) ++ e ∷ [])
find-moved p [] ys e none = by (p e) refl ∙ sym (find-append p ys (e ∷ []))
  where
    by : (b : Bool) → p e ≡ b → cond (p e) (Some e) (find p ys) ≡ option_or (find p ys) (cond (p e) (Some e) None)
    by true is =
        ap (λ b. cond b (Some e) (find p ys)) is
        ∙ sym ((λ i. option_or (none is i) (cond (is i) (Some e) None)))
    by false is =
        ap (λ b. cond b (Some e) (find p ys)) is
        ∙ sym (ap (λ b. option_or (find p ys) (cond b (Some e) None)) is ∙ or-none (find p ys))
find-moved p (x ∷ xs) ys e none = by (p x) none (find-moved p xs ys e)
  where
    by : (b : Bool) → (p e ≡ true → cond b (Some x) (find p (xs ++ ys)) ≡ None)
        → ((p e ≡ true → find p (xs ++ ys) ≡ None)
        → find p ((xs ++ e ∷ []) ++ ys) ≡ find p ((xs ++ ys) ++ e ∷ []))
        → cond b (Some x) (find p ((xs ++ e ∷ []) ++ ys)) ≡ cond b (Some x) (find p ((xs ++ ys) ++ e ∷ []))
    by true none later = refl
    by false none later = later none

unnamed : (held : List Entry) (name : List ℕ) → class_named held name ≡ None → entry_named held name ≡ None
unnamed held name none = by (entry_named held name) none
  where
    by : (o : Option Entry) → option_map (λ (e : Entry). e.class) o ≡ None → o ≡ None
    by None none = refl
    by (Some e) none = absurd cc

-- the same is found by class and by name: so both are dictionaries
dictionary-same : (held other : List Entry) → ((class : ℕ) → entry_of other class ≡ entry_of held class)
    → ((name : List ℕ) → class_named other name ≡ class_named held name) → IsDictionary held → IsDictionary other
dictionary-same held other classes names sound = record {
  entries = λ class e is. own e (sound.entries class e (sym (classes class) ∙ is));
  names = λ name class is. subst (λ o. IsSomeAnd o (λ (e : Entry). e.name ≡ name)) (sym (classes class))
      (sound.names name class (sym (names name) ∙ is));
}
  where
    own : (e : Entry) → IsHeld held e → IsHeld other e
    own e is = record {
      low = is.low;
      high = is.high;
      read = is.read;
      short = is.short;
      name = names e.name ∙ is.name;
    }

-- an entry of a new class and name may stand in front of the last ones
pub dictionary-moved : (xs ys : List Entry) (e : Entry) → IsNew (xs ++ ys) e → IsDictionary ((xs ++ ys) ++ e ∷ [])
    → IsDictionary ((xs ++ e ∷ []) ++ ys)
dictionary-moved xs ys e new sound =
    dictionary-same ((xs ++ ys) ++ e ∷ []) ((xs ++ e ∷ []) ++ ys) classes names sound
  where
    classes : (class : ℕ) → entry_of ((xs ++ e ∷ []) ++ ys) class ≡ entry_of ((xs ++ ys) ++ e ∷ []) class
    classes class =
        find-moved (λ (x : Entry). eqb class x.class) xs ys e
        (λ is. ap (entry_of (xs ++ ys)) (eqb-true class e.class is) ∙ new.class)

    names : (name : List ℕ)
        → class_named ((xs ++ e ∷ []) ++ ys) name ≡ class_named ((xs ++ ys) ++ e ∷ []) name
    names name =
        ap (option_map (λ (x : Entry). x.class))
        (find-moved (λ (x : Entry). bytes_eq name x.name) xs ys e
        (λ is. ap (entry_named (xs ++ ys)) ((bytes_eq-Decides name e.name).0 is)
        ∙ unnamed (xs ++ ys) e.name new.name))

-- ---- the entries of a closing

-- the dictionary of a closing holds the entries of it
pub closing-in : (dictionary : List Entry) (c : Closing) → IsWritableClosing dictionary c
    → AreIn dictionary (closing_entries c)
closing-in dictionary c w = by c.table w.table
  where
    by : (table : Option Entry) → IfSome table (IsWritableTable dictionary)
        → AreIn dictionary (option_to_list table ++ c.end ∷ [])
    by None is = (w.end.held, tt)
    by (Some t) is = (is.held, (w.end.held, tt))

-- an entry of no record of a frame
abbrev pub IsOfClosing : Entry → Type 0
IsOfClosing e = is_frame_kind (kind_named e.name) ≡ false

-- they are of no record of a frame
pub closing-kinds : (dictionary : List Entry) (c : Closing) → IsWritableClosing dictionary c
    → AllByRecursion IsOfClosing (closing_entries c)
closing-kinds dictionary c w = by c.table w.table
  where
    by : (table : Option Entry) → IfSome table (IsWritableTable dictionary)
        → AllByRecursion IsOfClosing (option_to_list table ++ c.end ∷ [])
    by None is = (ap is_frame_kind w.end.kind, tt)
    by (Some t) is = (ap is_frame_kind is.kind, (ap is_frame_kind w.end.kind, tt))

-- one more entry of a dictionary, beside others of it that are one
one-more : (dictionary held : List Entry) (e : Entry) → IsDictionary dictionary → AreIn dictionary held
    → IsIn dictionary e → IsWritableEntry e → entry_of held e.class ≡ None → IsDictionary held
    → IsDictionary (held ++ e ∷ [])
one-more dictionary held e sound all is w none own =
    IsDictionary-new held e own (record {
      low = w.low;
      high = w.high;
      short = w.short;
      class = none;
      name = no_name dictionary held e sound all is none;
    }) (sound.entries e.class e is).read

none-sound : IsDictionary []
none-sound = record { entries = λ class e is. absurd cc; names = λ name class is. absurd cc }

-- the entries of FrTOC and FrEndOfFile are of two classes
table-apart : (dictionary : List Entry) (t end : Entry) → IsWritableTable dictionary t
    → IsWritableFileEnd dictionary end → entry_of (t ∷ []) end.class ≡ None
table-apart dictionary t end table file_end = by (eqb end.class t.class) refl
  where
    by : (b : Bool) → eqb end.class t.class ≡ b → cond b (Some t) None ≡ None
    by false differ = refl
    by true same =
        let one : end ≡ t = same_Some end t (sym file_end.held
        ∙ ap (entry_of dictionary) (eqb-true end.class t.class same) ∙ table.held) in
        let kinds : kind_named end.name ≡ kind_named t.name = ap (λ (e : Entry). kind_named e.name) one in
        let impossible : FrEndOfFile ≡ FrTOC = sym file_end.kind ∙ kinds ∙ table.kind in
        absurd cc

-- What is known of the entries of a closing alone.
pub record IsClosingPart (c : Closing) : Type 0 where
  pub sound : IsDictionary (closing_entries c)
  pub end : IsIn (closing_entries c) c.end
  pub table : IfSome c.table (IsIn (closing_entries c))

-- they are a dictionary themselves, which holds both
pub closing-part : (dictionary : List Entry) (c : Closing) → IsDictionary dictionary → IsWritableClosing dictionary c
    → IsClosingPart c
closing-part dictionary c sound w = by c.table w.table
  where
    own : (e : Entry) → IsIn (e ∷ []) e
    own e = ap (λ b. cond b (Some e) None) (eq-eqb e.class e.class refl)

    by : (table : Option Entry) → IfSome table (IsWritableTable dictionary)
        → IsClosingPart (record { end = c.end; table = table })
    by None is = record {
      sound = one-more dictionary [] c.end sound tt w.end.held w.end.entry refl none-sound;
      end = own c.end;
      table = tt;
    }
    by (Some t) is =
        let apart = table-apart dictionary t c.end is w.end in
        record {
          sound = one-more dictionary (t ∷ []) c.end sound (is.held, tt) w.end.held w.end.entry apart
              (one-more dictionary [] t sound tt is.held is.entry refl none-sound);
          end = find-append (λ (x : Entry). eqb c.end.class x.class) (t ∷ []) (c.end ∷ [])
              ∙ ap (λ found. option_or found (entry_of (c.end ∷ []) c.end.class)) apart ∙ own c.end;
          table = ap (λ b. cond b (Some t) (entry_of (c.end ∷ []) t.class)) (eq-eqb t.class t.class refl);
        }
