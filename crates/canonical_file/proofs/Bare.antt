-- Entries apart from their comments and the texts of their types: what a layout and the channels of a frame rest on.
use Rattle.std.proofs.Common.{◌≡◌, ℕ, ◌+◌, Bool, true, false, cond, Option, Some, None, List, [], ◌∷◌, ◌++◌, map}
use Rattle.std.proofs.Common.{refl, sym, ap, ◌∙◌}
use Rattle.std.specs.Prelude.{option_and_then, unwrap_or}
use Rattle.std.specs.Option.{option_map}
use Rattle.std.specs.Str.{bytes_eq}
use Rattle.std.proofs.lemmas.List.{map-append}
use Rattle.std.proofs.lemmas.List.Elements.{All-head, All-tail}
use Rattle.type_text.specs.declared.types.Base.{Base}
use Rattle.type_text.specs.declared.types.ElementType.{ElementType}
use Rattle.type_text.specs.TypeText.{type_of}
use Rattle.dictionary.specs.declared.entries.Element.{Element}
use Rattle.dictionary.specs.declared.entries.Entry.{Entry}
use Rattle.dictionary.specs.Named.{first_named}
use Rattle.dictionary.specs.Same.{IsRead, AreRead, Meaning, Reads, Bytes, meaning_by, column_of, IsSameEntry}
use Rattle.dictionary.specs.Same.{same_entries}
use Rattle.dictionary.proofs.SameLemmas.{entries-Decides}
use Rattle.layout_plan.specs.declared.fields.Field.{Field}
use Rattle.layout_plan.specs.Layout.{named_count, count_in, is_last, field_of, fields_after, layout_of}
use Rattle.file_grammar.specs.Closing.{is_single}
use Rattle.contents_table.specs.Channels.{is_link_to, head_field, number_where, field_where}
use Rattle.contents_table.proofs.Positions.{position-map}
use Rattle.canonical_file.specs.Records.{entry_fields}

abbrev pub bare_element : Element → Element
bare_element e = record e { text = []; comment = [] }

abbrev pub bare_entry : Entry → Entry
bare_entry e = record e { comment = []; elements = map bare_element e.elements }

-- ---- what rests on them

first-bare : (i : ℕ) (es : List Element) (name : List ℕ) → first_named i (map bare_element es) name
    ≡ option_map (λ (p : ℕ × Element). (p.0, bare_element p.1)) (first_named i es name)
first-bare i [] name = refl
first-bare i (e ∷ es) name = by (bytes_eq name e.name) (first-bare (i + 1) es name)
  where
    by : (b : Bool) → first_named (i + 1) (map bare_element es) name
        ≡ option_map (λ (p : ℕ × Element). (p.0, bare_element p.1)) (first_named (i + 1) es name)
        → cond b (Some (i, bare_element e)) (first_named (i + 1) (map bare_element es) name)
        ≡ option_map (λ (p : ℕ × Element). (p.0, bare_element p.1))
        (cond b (Some (i, e)) (first_named (i + 1) es name))
    by true later = refl
    by false later = later

-- what is told of the first element of a name alone
found-bare : {X : Type 0} (g : ℕ × Element → Option X) → ((p : ℕ × Element) → g (p.0, bare_element p.1) ≡ g p)
    → (es : List Element) (name : List ℕ)
    → option_and_then g (first_named 0 (map bare_element es) name) ≡ option_and_then g (first_named 0 es name)
found-bare {X} g same es name = ap (option_and_then g) (first-bare 0 es name) ∙ by (first_named 0 es name)
  where
    by : (o : Option (ℕ × Element)) → option_and_then g (option_map (λ (p : ℕ × Element). (p.0, bare_element p.1)) o)
        ≡ option_and_then g o
    by None = refl
    by (Some p) = same p

pub field-bare : (passes : Base → Bool) (name : List ℕ) (es : List Element)
    → field_where passes name (map bare_element es) ≡ field_where passes name es
field-bare passes name es = found-bare (number_where passes) (λ p. refl) es name

pub head-bare : (name : List ℕ) (es : List Element) → head_field name (map bare_element es) ≡ head_field name es
head-bare name es = position-map (is_single (is_link_to name)) bare_element es

count-bare : (es : List Element) → count_in (map bare_element es) ≡ count_in es
count-bare es = λ i name. found-bare named_count (λ p. refl) es name i

last-bare : (es : List Element) → is_last (map bare_element es) ≡ is_last es
last-bare [] = refl
last-bare (e ∷ es) = refl

fields-bare : (earlier es : List Element)
    → fields_after (map bare_element earlier) (map bare_element es) ≡ fields_after earlier es
fields-bare earlier [] = refl
fields-bare earlier (e ∷ es) =
    (λ i. option_and_then (λ (f : Field). option_map (λ fs. f ∷ fs)
    (fields_after (sym (map-append bare_element earlier (e ∷ [])) i) (map bare_element es)))
    (field_of (count-bare earlier i) (last-bare es i) e))
    ∙ ap (λ later. option_and_then (λ (f : Field). option_map (λ fs. f ∷ fs) later)
    (field_of (count_in earlier) (is_last es) e)) (fields-bare (earlier ++ e ∷ []) es)

-- the fields of an entry
pub entry-fields-bare : (e : Entry) → entry_fields (bare_entry e) ≡ entry_fields e
unfolding layout_of
entry-fields-bare e = ap (λ (fields : Option (List Field)). unwrap_or fields []) (fields-bare [] e.elements)

-- ---- entries that are the same

-- an element by its name and what its text means
type_by : Meaning → Option ElementType
type_by (Reads ty) = Some ty
type_by (Bytes text) = None

by_column : List ℕ × Meaning → Element
unfolding type_by
by_column c = record { name = c.0; ty = type_by c.1; text = []; comment = [] }

bare-column : (e : Element) → IsRead e → bare_element e ≡ by_column (column_of e)
unfolding by_column type_by
bare-column e read =
    ap (λ (ty : Option ElementType). record { name = e.name; ty = ty; text = []; comment = [] })
    (read ∙ by (type_of e.text))
  where
    by : (ty : Option ElementType) → ty ≡ type_by (meaning_by ty e.text)
    by None = refl
    by (Some ty) = refl

bare-columns : (es : List Element) → AreRead es → map bare_element es ≡ map by_column (map column_of es)
bare-columns [] read = refl
bare-columns (e ∷ es) read =
    λ i. bare-column e (All-head IsRead e es read) i ∷ bare-columns es (All-tail IsRead e es read) i

pub same-bare : (a b : Entry) → same_entries a b ≡ true → AreRead a.elements → AreRead b.elements
    → bare_entry a ≡ bare_entry b
same-bare a b same left right =
    let is : IsSameEntry a b = (entries-Decides a b).0 same in
    let elements = bare-columns a.elements left ∙ ap (map by_column) is.columns ∙ sym (bare-columns b.elements right) in
    λ i. record { class = is.class i; name = is.name i; comment = []; elements = elements i }
