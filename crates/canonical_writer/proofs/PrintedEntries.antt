-- Entries with printed types: the same entries, as short as they were.
use Rattle.std.proofs.Common.{◌≡◌, ℕ, List, [], ◌∷◌, map, Option, Some, None, refl, sym}
use Rattle.std.proofs.Common.{◌∙◌, arith}
use Rattle.std.specs.Option.{option_map_or}
use Rattle.std.proofs.lemmas.Bool.Decides.{same_from_decides}
use Rattle.std.proofs.lemmas.List.Elements.{All-head, All-tail, All-map, All-weaker}
use Rattle.type_text.specs.declared.types.ElementType.{ElementType}
use Rattle.type_text.specs.TypeText.{printed_type, type_of}
use Rattle.type_text.proofs.PrintedLemmas.{printed-read}
use Rattle.type_text.proofs.SpellingLemmas.{type_of-grammar}
use Rattle.dictionary.specs.declared.entries.Element.{Element}
use Rattle.dictionary.specs.declared.entries.Entry.{Entry}
use Rattle.dictionary.specs.Same.{IsRead, AreRead, meaning_by, column_of, same_entries}
use Rattle.dictionary.proofs.SameLemmas.{entries-Decides}
use Rattle.frame_content.specs.Labels.{printed_element, printed_entry}
use Rattle.canonical_writer.specs.Parts.{IsShort, IsShortElement, IsShortEntry}

-- ---- one element

-- the printed text reads as the type
text-read : (ty : Option ElementType) (text : List ℕ) → ty ≡ type_of text
    → type_of (option_map_or printed_type ty text) ≡ ty
text-read None text read = sym read
text-read (Some ty) text read = printed-read ty (text, sym read)

element-read : (e : Element) → IsRead e → IsRead (printed_element e)
element-read e read = sym (text-read e.ty e.text read)

meaning-printed : (ty : Option ElementType) (text : List ℕ)
    → meaning_by ty (option_map_or printed_type ty text) ≡ meaning_by ty text
meaning-printed None text = refl
meaning-printed (Some ty) text = refl

column-printed : (e : Element) → IsRead e → column_of (printed_element e) ≡ column_of e
column-printed e read =
    let text = option_map_or printed_type e.ty e.text in
    (λ i. (e.name, meaning_by (text-read e.ty e.text read i) text))
    ∙ (λ i. (e.name, meaning-printed e.ty e.text i))
    ∙ (λ i. (e.name, meaning_by (read i) e.text))

text-short : (ty : Option ElementType) (text : List ℕ) → ty ≡ type_of text → IsShort text
    → IsShort (option_map_or printed_type ty text)
text-short None text read short = short
text-short (Some ty) text read short =
    let is = (type_of-grammar text ty).0 (sym read) in
    omega (arith, is.1)

element-short : (e : Element) → IsRead e → IsShortElement e → IsShortElement (printed_element e)
element-short e read short =
    record { name = short.name; text = text-short e.ty e.text read short.text; comment = short.comment }

-- ---- entries

pub printed-are_read : (es : List Element) → AreRead es → AreRead (map printed_element es)
printed-are_read es read =
    All-map IsRead printed_element es (All-weaker IsRead (λ e. IsRead (printed_element e)) element-read es read)

columns-printed : (es : List Element) → AreRead es → map column_of (map printed_element es) ≡ map column_of es
columns-printed [] read = refl
columns-printed (e ∷ es) read =
    let here = column-printed e (All-head IsRead e es read) in
    let rest = columns-printed es (All-tail IsRead e es read) in
    λ i. here i ∷ rest i

pub same-printed : (old e : Entry) → AreRead e.elements → same_entries old (printed_entry e) ≡ same_entries old e
same-printed old e read =
    let columns = columns-printed e.elements read in
    let exact = entries-Decides old (printed_entry e) in
    same_from_decides (same_entries old (printed_entry e)) (same_entries old e) (
      λ t. let s = exact.0 t in record { class = s.class; name = s.name; columns = s.columns ∙ columns },
      λ s. exact.1 (record { class = s.class; name = s.name; columns = s.columns ∙ sym columns }),
    )
    (entries-Decides old e)

pub printed-short : (e : Entry) → AreRead e.elements → IsShortEntry e → IsShortEntry (printed_entry e)
printed-short e read short = record {
  name = short.name;
  comment = short.comment;
  elements = All-map IsShortElement printed_element e.elements
      (λ k d within. element-short _ (read k d within) (short.elements k d within));
}
