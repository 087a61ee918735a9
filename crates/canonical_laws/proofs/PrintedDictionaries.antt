-- A dictionary of which each entry is printed is a dictionary.
use Rattle.std.proofs.Common.{◌≡◌, ℕ, ◌≤◌, Bool, true, false, cond, eqb, Option, Some, None, List, [], ◌∷◌}
use Rattle.std.proofs.Common.{map, find, IsSomeAnd, refl, sym, ◌∙◌, subst}
use Rattle.std.specs.Option.{option_map}
use Rattle.std.specs.Str.{bytes_eq}
use Rattle.std.proofs.lemmas.List.{length-map}
use Rattle.std.proofs.lemmas.List.Elements.{All-map, All-weaker}
use Rattle.std.proofs.lemmas.Option.{same_Some}
use Rattle.dictionary.specs.declared.entries.Element.{Element}
use Rattle.dictionary.specs.declared.entries.Entry.{Entry}
use Rattle.dictionary.specs.Dictionary.{entry_of, class_named, IsHeld, IsDictionary}
use Rattle.dictionary.specs.Same.{IsRead, AreRead}
use Rattle.frame_content.specs.Labels.{printed_element, printed_entry}
use Rattle.canonical_file.proofs.Printing.{printed-reads}

pub entry_of-printed : (held : List Entry) (class : ℕ)
    → entry_of (map printed_entry held) class ≡ option_map printed_entry (entry_of held class)
entry_of-printed [] class = refl
entry_of-printed (e ∷ es) class = by (eqb class e.class) (entry_of-printed es class)
  where
    by : (b : Bool) → entry_of (map printed_entry es) class ≡ option_map printed_entry (entry_of es class)
        → cond b (Some (printed_entry e)) (entry_of (map printed_entry es) class)
        ≡ option_map printed_entry (cond b (Some e) (entry_of es class))
    by true later = refl
    by false later = later

class_named-printed : (held : List Entry) (name : List ℕ)
    → class_named (map printed_entry held) name ≡ class_named held name
class_named-printed [] name = refl
class_named-printed (e ∷ es) name = by (bytes_eq name e.name) (class_named-printed es name)
  where
    by : (b : Bool) → class_named (map printed_entry es) name ≡ class_named es name
        → option_map (λ (x : Entry). x.class)
        (cond b (Some (printed_entry e)) (find (λ (x : Entry). bytes_eq name x.name) (map printed_entry es)))
        ≡ option_map (λ (x : Entry). x.class) (cond b (Some e) (find (λ (x : Entry). bytes_eq name x.name) es))
    by true later = refl
    by false later = later

read-printed : (es : List Element) → AreRead es → AreRead (map printed_element es)
read-printed es read =
    All-map IsRead printed_element es (All-weaker IsRead (λ e. IsRead (printed_element e)) printed-reads es read)

held-printed : (held : List Entry) (e : Entry) → IsHeld held e → IsHeld (map printed_entry held) (printed_entry e)
held-printed held e is = record {
  low = is.low;
  high = is.high;
  read = read-printed e.elements is.read;
  short = subst (λ n. n ≤ 4096) (sym (length-map e.elements printed_element)) is.short;
  name = class_named-printed held e.name ∙ is.name;
}

pub dictionary-printed : (held : List Entry) → IsDictionary held → IsDictionary (map printed_entry held)
dictionary-printed held sound = record { entries = entries; names = names }
  where
    entries : (class : ℕ) (e : Entry) → entry_of (map printed_entry held) class ≡ Some e
        → IsHeld (map printed_entry held) e
    entries class e is = by (entry_of held class) refl (sym (entry_of-printed held class) ∙ is)
      where
        by : (o : Option Entry) → entry_of held class ≡ o → option_map printed_entry o ≡ Some e
            → IsHeld (map printed_entry held) e
        by None found same = absurd cc
        by (Some d) found same =
            subst (IsHeld (map printed_entry held)) (same_Some (printed_entry d) e same)
            (held-printed held d (sound.entries class d found))

    names : (name : List ℕ) (class : ℕ) → class_named (map printed_entry held) name ≡ Some class
        → IsSomeAnd (entry_of (map printed_entry held) class) (λ e. e.name ≡ name)
    names name class is =
        subst (λ o. IsSomeAnd o (λ (e : Entry). e.name ≡ name)) (sym (entry_of-printed held class))
        (by (entry_of held class) (sound.names name class (sym (class_named-printed held name) ∙ is)))
      where
        by : (o : Option Entry) → IsSomeAnd o (λ (e : Entry). e.name ≡ name)
            → IsSomeAnd (option_map printed_entry o) (λ (e : Entry). e.name ≡ name)
        by None is = is
        by (Some d) is = is
