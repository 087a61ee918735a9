-- An entry that is printed has the same layout, and is printed again as it is.
use Rattle.std.proofs.Common.{◌≡◌, ℕ, ◌+◌, Bool, true, false, cond, Option, Some, None, List, [], ◌∷◌, ◌++◌, map}
use Rattle.std.proofs.Common.{refl, sym, ap, ◌∙◌}
use Rattle.std.specs.Prelude.{option_and_then}
use Rattle.std.specs.Option.{option_map, option_map_or}
use Rattle.std.specs.Str.{bytes_eq}
use Rattle.std.proofs.lemmas.List.{map-append}
use Rattle.type_text.specs.declared.types.ElementType.{ElementType}
use Rattle.type_text.specs.TypeText.{printed_type, type_of}
use Rattle.type_text.proofs.PrintedLemmas.{printed-read}
use Rattle.dictionary.specs.declared.entries.Element.{Element}
use Rattle.dictionary.specs.declared.entries.Entry.{Entry}
use Rattle.dictionary.specs.Named.{first_named}
use Rattle.dictionary.specs.Same.{IsRead}
use Rattle.layout_plan.specs.Layout.{named_count, count_in, is_last, field_of, fields_after, layout_of}
use Rattle.frame_content.specs.Labels.{printed_element, printed_entry}

-- printing changes neither names nor types
first-printed : (i : ℕ) (es : List Element) (name : List ℕ)
    → option_and_then named_count (first_named i (map printed_element es) name)
    ≡ option_and_then named_count (first_named i es name)
first-printed i [] name = refl
first-printed i (e ∷ es) name = by (bytes_eq name e.name) (first-printed (i + 1) es name)
  where
    by : (b : Bool)
        → option_and_then named_count (first_named (i + 1) (map printed_element es) name)
        ≡ option_and_then named_count (first_named (i + 1) es name)
        → option_and_then named_count
        (cond b (Some (i, printed_element e)) (first_named (i + 1) (map printed_element es) name))
        ≡ option_and_then named_count (cond b (Some (i, e)) (first_named (i + 1) es name))
    by true later = refl
    by false later = later

last-printed : (es : List Element) → is_last (map printed_element es) ≡ is_last es
last-printed [] = refl
last-printed (e ∷ es) = refl

fields-printed : (earlier es : List Element)
    → fields_after (map printed_element earlier) (map printed_element es) ≡ fields_after earlier es
fields-printed earlier [] = refl
fields-printed earlier (e ∷ es) =
    let counts : count_in (map printed_element earlier) ≡ count_in earlier = λ i name. first-printed 0 earlier name i in
    let rest : fields_after (map printed_element earlier ++ printed_element e ∷ []) (map printed_element es)
    ≡ fields_after (earlier ++ e ∷ []) es =
    ap (λ xs. fields_after xs (map printed_element es)) (sym (map-append printed_element earlier (e ∷ [])))
    ∙ fields-printed (earlier ++ e ∷ []) es in
    λ i. option_and_then (λ f. option_map (λ fs. f ∷ fs) (rest i)) (field_of (counts i) (last-printed es i) e)

pub layout-printed : (es : List Element) → layout_of (map printed_element es) ≡ layout_of es
unfolding layout_of
layout-printed es = fields-printed [] es

-- a text that is printed is printed as it is
pub printed-twice : (e : Element) → printed_element (printed_element e) ≡ printed_element e
printed-twice e = by e.ty
  where
    by : (o : Option ElementType)
        → record e { ty = o; text = option_map_or printed_type o (option_map_or printed_type o e.text) }
        ≡ record e { ty = o; text = option_map_or printed_type o e.text }
    by None = refl
    by (Some ty) = refl

elements-twice : (es : List Element) → map printed_element (map printed_element es) ≡ map printed_element es
elements-twice [] = refl
elements-twice (e ∷ es) = λ i. printed-twice e i ∷ elements-twice es i

pub entry-twice : (e : Entry) → printed_entry (printed_entry e) ≡ printed_entry e
entry-twice e = ap (λ es. record e { elements = es }) (elements-twice e.elements)

-- and reads as the same type
pub printed-reads : (e : Element) → IsRead e → IsRead (printed_element e)
printed-reads e is = by e.ty is
  where
    by : (o : Option ElementType) → o ≡ type_of e.text → o ≡ type_of (option_map_or printed_type o e.text)
    by None read = read
    by (Some ty) read = sym (printed-read ty (e.text, sym read))
