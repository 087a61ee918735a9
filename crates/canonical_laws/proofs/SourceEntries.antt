-- The entries that a file of bytes holds can be written again, printed.
use Rattle.std.proofs.Common.{◌≡◌, ℕ, ◌-◌, ◌≤◌, Option, Some, None, List, [], ◌∷◌, ◌++◌, length, map, take, drop, sym}
use Rattle.std.proofs.Common.{ap}
use Rattle.std.proofs.Common.{subst, arith}
use Rattle.std.specs.Prelude.{◌==◌}
use Rattle.std.specs.List.{AllByRecursion}
use Rattle.std.specs.Option.{option_map_or}
use Rattle.std.proofs.lemmas.List.{length-map}
use Rattle.std.proofs.lemmas.List.Elements.{All-take, All-drop, All-from_recursion}
use Rattle.scalar_types.specs.declared.Order.{Order}
use Rattle.type_text.specs.declared.types.ElementType.{ElementType}
use Rattle.type_text.specs.TypeText.{type_of, printed_type, IsTypeText}
use Rattle.type_text.proofs.FoundLemmas.{find-some}
use Rattle.type_text.proofs.SpellingLemmas.{type_of-grammar}
use Rattle.record_values.specs.declared.values.Value.TheVariants as value
use Rattle.dictionary.specs.declared.entries.Element.{Element}
use Rattle.dictionary.specs.declared.entries.Entry.{Entry}
use Rattle.dictionary.specs.Dictionary.{entry_of, IsDictionary}
use Rattle.dictionary.specs.Same.{IsRead}
use Rattle.dictionary.specs.Verdicts.{IsNew}
use Rattle.dictionary.proofs.KeptLemmas.{IsDictionary-new}
use Rattle.layout_plan.specs.BuiltIn.{structure_fields, element_fields}
use Rattle.record_writer.specs.Fit.{IsShortText}
use Rattle.record_writer.proofs.FitLemmas.{body_fits}
use Rattle.file_grammar.specs.Structure.{Structure, end_of, common_at, StandsWhole}
use Rattle.file_grammar.specs.Described.{IsElement, AreElements, IsEntry}
use Rattle.frame_content.specs.Labels.{printed_element, printed_entry}
use Rattle.canonical_file.specs.Ranges.{IsByte, AreBytes}
use Rattle.canonical_laws.specs.Writable.{IsWritableElement, IsWritableEntry}
use Rattle.canonical_laws.proofs.AgreeingEntries.{all-push}
use Rattle.canonical_file.proofs.Printing.{printed-reads}

-- the body of a structure of a file of bytes is bytes
pub body-bytes : (order : Order) (file : List ℕ) (s : Structure) → AreBytes file → StandsWhole order file s
    → AreBytes s.body
body-bytes order file s bytes stands =
    let told : ℕ = (common_at order file s.at).length in
    let body : s.body ≡ take (told - 14) (drop 14 (drop s.at file)) = ap (λ (t : Structure). t.body) stands.is in
    subst AreBytes (sym body)
    (All-take IsByte (told - 14) (drop 14 (drop s.at file)) (All-drop IsByte 14 (drop s.at file)
    (All-drop IsByte s.at file bytes)))

-- ---- elements and entries

element-source : (order : Order) (file : List ℕ) (s : Structure) (e : Element) → AreBytes file
    → IsElement order file s e → IsWritableElement e
element-source order file s e bytes is =
    let fit = body_fits order element_fields (value.Text e.name ∷ value.Text e.text ∷ value.Text e.comment ∷ [])
    is.tail s.body (body-bytes order file s bytes is.stands) is.body in
    record { name = fit.0; text = fit.1.0; comment = fit.1.1.0; read = is.type }

elements-source : (order : Order) (file : List ℕ) (at : ℕ) (run : List Structure) (es : List Element) → AreBytes file
    → AreElements order file at run es → AllByRecursion IsWritableElement es
elements-source order file at [] [] bytes are = tt
elements-source order file at [] (e ∷ es) bytes are = absurd are
elements-source order file at (s ∷ ss) [] bytes are = absurd are
elements-source order file at (s ∷ ss) (e ∷ es) bytes are =
    (element-source order file s e bytes are.1, elements-source order file (end_of s) ss es bytes are.2)

-- an entry as it stands in a file, whether the dictionary takes it or not
pub record IsSourceEntry (e : Entry) : Type 0 where
  pub name : IsShortText e.name
  pub comment : IsShortText e.comment
  pub elements : AllByRecursion IsWritableElement e.elements

pub entry-source : (order : Order) (file : List ℕ) (head : Structure) (run : List Structure) (e : Entry) → AreBytes file
    → IsEntry order file head run e → IsSourceEntry e
entry-source order file head run e bytes is =
    let fit = body_fits order structure_fields (value.Text e.name ∷ value.Num e.class ∷ value.Text e.comment ∷ [])
    is.tail head.body (body-bytes order file head bytes is.stands) is.body in
    record {
      name = fit.0;
      comment = fit.1.1.0;
      elements = elements-source order file (end_of head) run e.elements bytes is.elements;
    }

-- ---- printed, they stay so

printed-short : (e : Element) → IsRead e → IsShortText e.text → IsShortText (printed_element e).text
printed-short e read short = by e.ty read
  where
    by : (o : Option ElementType) → o ≡ type_of e.text → length (option_map_or printed_type o e.text) ≤ 65534
    by None same = short
    by (Some ty) same =
        let grammar : IsTypeText e.text ty = (type_of-grammar e.text ty).0 (sym same) in
        let small : length (printed_type ty) ≤ 4096 = grammar.1 in
        omega arith

element-printed : (e : Element) → IsWritableElement e → IsWritableElement (printed_element e)
element-printed e w = record {
  name = w.name;
  text = printed-short e w.read w.text;
  comment = w.comment;
  read = printed-reads e w.read;
}

elements-printed : (es : List Element) → AllByRecursion IsWritableElement es
    → AllByRecursion IsWritableElement (map printed_element es)
elements-printed [] all = tt
elements-printed (e ∷ es) all = (element-printed e all.0, elements-printed es all.1)

pub entry-printed : (e : Entry) → IsWritableEntry e → IsWritableEntry (printed_entry e)
entry-printed e w = record {
  low = w.low;
  high = w.high;
  short = subst (λ n. n ≤ 4096) (sym (length-map e.elements printed_element)) w.short;
  name = w.name;
  comment = w.comment;
  elements = elements-printed e.elements w.elements;
}

-- ---- the dictionary

-- What is known of the entries held.
pub record AreSources (held : List Entry) : Type 0 where
  pub writable : AllByRecursion IsWritableEntry held
  pub sound : IsDictionary held

pub no-sources : AreSources []
no-sources = record {
  writable = tt;
  sound = record { entries = λ class e is. cc; names = λ name class is. cc };
}

pub source-held : (held : List Entry) (class : ℕ) (e : Entry) → AreSources held → entry_of held class ≡ Some e
    → IsWritableEntry e
source-held held class e are is =
    find-some (λ (x : Entry). class == x.class) IsWritableEntry held e are.writable is

pub are-read : (es : List Element) → AllByRecursion IsWritableElement es → AllByRecursion IsRead es
are-read [] all = tt
are-read (e ∷ es) all = (all.0.read, are-read es all.1)

-- an entry that is new
pub source-push : (held : List Entry) (e : Entry) → AreSources held → IsSourceEntry e → IsNew held e
    → AreSources (held ++ e ∷ [])
source-push held e are is new = record {
  writable = all-push IsWritableEntry held e are.writable (record {
    low = new.low;
    high = new.high;
    short = new.short;
    name = is.name;
    comment = is.comment;
    elements = is.elements;
  });
  sound = IsDictionary-new held e are.sound new
      (All-from_recursion IsRead e.elements (are-read e.elements is.elements));
}
