-- Entries that are alike but for comments and the texts of types have equal layouts, and what one can write of a record
-- the other can.
use Rattle.std.proofs.Common.{◌≡◌, ℕ, ◌+◌, ◌≤◌, Bool, true, false, cond, Some, List, [], ◌∷◌, ◌++◌, map}
use Rattle.std.proofs.Common.{length, refl, sym, ap, ◌∙◌, subst}
use Rattle.std.specs.Prelude.{option_and_then}
use Rattle.std.specs.Option.{option_map}
use Rattle.std.specs.Str.{bytes_eq}
use Rattle.std.proofs.lemmas.List.{map-append}
use Rattle.dictionary.specs.declared.entries.Element.{Element}
use Rattle.dictionary.specs.declared.entries.Entry.{Entry}
use Rattle.dictionary.specs.Named.{first_named}
use Rattle.layout_plan.specs.declared.fields.Field.{Field}
use Rattle.layout_plan.specs.Layout.{named_count, count_in, is_last, field_of, fields_after, layout_of}
use Rattle.layout_plan.specs.Written.{with_sums_cleared}
use Rattle.file_grammar.specs.Structure.{record_limit}
use Rattle.frame_content.specs.Labels.{Label, printed_entry, unlinked}
use Rattle.canonical_file.specs.Bytes.{body_bytes, structure_bytes}
use Rattle.canonical_file.specs.Records.{Record, entry_fields, record_bytes}
use Rattle.canonical_file.proofs.Bare.{bare_element, entry-fields-bare}
use Rattle.canonical_file.proofs.UsedEntries.{IsAlike}
use Rattle.canonical_laws.specs.Writable.{IsWritableEntry, IsWritable, IsLabel, size_of_record}

-- ---- layouts

-- a layout rests on names and types alone
first-bare : (i : ℕ) (es : List Element) (name : List ℕ)
    → option_and_then named_count (first_named i (map bare_element es) name)
    ≡ option_and_then named_count (first_named i es name)
first-bare i [] name = refl
first-bare i (e ∷ es) name = by (bytes_eq name e.name) (first-bare (i + 1) es name)
  where
    by : (b : Bool)
        → option_and_then named_count (first_named (i + 1) (map bare_element es) name)
        ≡ option_and_then named_count (first_named (i + 1) es name)
        → option_and_then named_count
        (cond b (Some (i, bare_element e)) (first_named (i + 1) (map bare_element es) name))
        ≡ option_and_then named_count (cond b (Some (i, e)) (first_named (i + 1) es name))
    by true later = refl
    by false later = later

last-bare : (es : List Element) → is_last (map bare_element es) ≡ is_last es
last-bare [] = refl
last-bare (e ∷ es) = refl

fields-bare : (earlier es : List Element)
    → fields_after (map bare_element earlier) (map bare_element es) ≡ fields_after earlier es
fields-bare earlier [] = refl
fields-bare earlier (e ∷ es) =
    let counts : count_in (map bare_element earlier) ≡ count_in earlier = λ i name. first-bare 0 earlier name i in
    let rest : fields_after (map bare_element earlier ++ bare_element e ∷ []) (map bare_element es)
    ≡ fields_after (earlier ++ e ∷ []) es =
    ap (λ xs. fields_after xs (map bare_element es)) (sym (map-append bare_element earlier (e ∷ [])))
    ∙ fields-bare (earlier ++ e ∷ []) es in
    λ i. option_and_then (λ (f : Field). option_map (λ fs. f ∷ fs) (rest i))
    (field_of (counts i) (last-bare es i) e)

layout-bare : (es : List Element) → layout_of (map bare_element es) ≡ layout_of es
unfolding layout_of
layout-bare es = fields-bare [] es

-- the layouts of both are the same
pub layout-alike : (a b : Entry) → IsAlike a b → layout_of a.elements ≡ layout_of b.elements
layout-alike a b alike =
    sym (layout-bare a.elements) ∙ ap (λ (e : Entry). layout_of e.elements) alike ∙ layout-bare b.elements

-- the fields of both are the same
pub fields-alike : (a b : Entry) → IsAlike a b → entry_fields a ≡ entry_fields b
fields-alike a b alike = sym (entry-fields-bare a) ∙ ap entry_fields alike ∙ entry-fields-bare b

-- ---- records

-- the record, with this entry
abbrev pub with_own : Entry → Record → Record
with_own e r = record r { entry = e }

bytes-alike : (e : Entry) (r : Record) → IsAlike e r.entry → record_bytes (with_own e r) ≡ record_bytes r
bytes-alike e r alike =
    let fields = fields-alike e r.entry alike in
    λ i. structure_bytes (alike i).class r.instance (body_bytes (fields i) r.values)

-- the record with an entry that is like its own has as many bytes
pub size-alike : (e : Entry) (r : Record) → IsAlike e r.entry → size_of_record (with_own e r) ≡ size_of_record r
size-alike e r alike = ap length (bytes-alike e r alike)

-- it can be written, where the record can and the entry can
pub writable-alike : (e : Entry) (r : Record) → IsAlike e r.entry → IsWritableEntry e → IsWritable r
    → IsWritable (with_own e r)
writable-alike e r alike own w = record {
  entry = own;
  layout = w.layout;
  is = layout-alike e r.entry alike ∙ w.is;
  fits = w.fits;
  range = w.range;
  instance = w.instance;
  short = subst (λ n. n ≤ record_limit) (sym (size-alike e r alike)) w.short;
}

-- ---- labels

abbrev pub label_with : Entry → Label → Label
label_with e l = record l { entry = e }

-- a label with the entry is one, where that is printed
pub label-alike : (e : Entry) (l : Label) → IsAlike e l.entry → printed_entry e ≡ e → IsLabel l
    → IsLabel (label_with e l)
label-alike e l alike printed is = record {
  entry = printed;
  values = ap (λ fields. with_sums_cleared fields (map unlinked l.values)) (fields-alike e l.entry alike) ∙ is.values;
}
