-- Printing changes nothing of what an entry of the closing has to have.
use Rattle.std.proofs.Common.{◌≡◌, ℕ, ◌+◌, Bool, true, false, not, ◌&&◌, ◌||◌, cond, Option, Some, None, is_some, List}
use Rattle.std.proofs.Common.{[]}
use Rattle.std.proofs.Common.{◌∷◌, map, codes, refl, ap, ◌∙◌}
use Rattle.std.specs.List.{list_any, list_all}
use Rattle.std.specs.Option.{option_map, option_map_or}
use Rattle.std.specs.Str.{bytes_eq}
use Rattle.std.proofs.lemmas.List.Folds.{list_all-map}
use Rattle.dictionary.specs.declared.entries.Element.{Element}
use Rattle.dictionary.specs.declared.entries.Entry.{Entry}
use Rattle.dictionary.specs.Named.{first_named}
use Rattle.file_grammar.specs.Closing.{is_single, is_any, is_count, is_size, has_named, closes}
use Rattle.frame_content.specs.Labels.{printed_element, printed_entry}
use Rattle.contents_table.specs.declared.kind.Kind.TheVariants.{Adc, Proc, Sim, Ser}
use Rattle.contents_table.specs.Channels.{is_text}
use Rattle.contents_table.specs.Fit.{count_field, names_field, positions_field, frames_field, heads_field, is_list}
use Rattle.contents_table.specs.Fit.{has_list}
use Rattle.contents_table.specs.Fit.{has_field, lists, lacks, has_table, is_fit}
use Rattle.canonical_file.proofs.Printing.{layout-printed}

abbrev printed_found : ℕ × Element → ℕ × Element
printed_found found = (found.0, printed_element found.1)

named-printed : (i : ℕ) (es : List Element) (name : List ℕ)
    → first_named i (map printed_element es) name ≡ option_map printed_found (first_named i es name)
named-printed i [] name = refl
named-printed i (e ∷ es) name = by (bytes_eq name e.name) (named-printed (i + 1) es name)
  where
    by : (b : Bool)
        → first_named (i + 1) (map printed_element es) name ≡ option_map printed_found (first_named (i + 1) es name)
        → cond b (Some (i, printed_element e)) (first_named (i + 1) (map printed_element es) name)
        ≡ option_map printed_found (cond b (Some (i, e)) (first_named (i + 1) es name))
    by true later = refl
    by false later = later

-- a test that does not see the text of a type
test-printed : (test : Element → Bool) → ((e : Element) → test (printed_element e) ≡ test e) → (es : List Element)
    (name : List ℕ)
    → option_map_or (λ (found : ℕ × Element). test found.1) (first_named 0 (map printed_element es) name) false
    ≡ option_map_or (λ (found : ℕ × Element). test found.1) (first_named 0 es name) false
test-printed test same es name =
    ap (λ o. option_map_or (λ (found : ℕ × Element). test found.1) o false) (named-printed 0 es name)
    ∙ by (first_named 0 es name)
  where
    by : (o : Option (ℕ × Element))
        → option_map_or (λ (found : ℕ × Element). test found.1) (option_map printed_found o) false
        ≡ option_map_or (λ (found : ℕ × Element). test found.1) o false
    by None = refl
    by (Some found) = same found.1

has_named-printed : (es : List Element) → has_named (map printed_element es) ≡ has_named es
has_named-printed es = λ i name passes. test-printed (is_single passes) (λ e. refl) es name i

has_list-printed : (es : List Element) → has_list (map printed_element es) ≡ has_list es
has_list-printed es = λ i name passes names. test-printed (is_list passes names) (λ e. refl) es name i

has_field-printed : (es : List Element) → has_field (map printed_element es) ≡ has_field es
has_field-printed es = λ i name. by name i
  where
    some : (o : Option (ℕ × Element)) → is_some (option_map printed_found o) ≡ is_some o
    some None = refl
    some (Some found) = refl

    by : (name : List ℕ) → has_field (map printed_element es) name ≡ has_field es name
    by name = ap is_some (named-printed 0 es name) ∙ some (first_named 0 es name)

-- ---- FrEndOfFile

pub closes-printed : (es : List Element) → closes (map printed_element es) ≡ closes es
closes-printed es =
    let named = has_named-printed es in
    let all : list_all (is_single is_any) (map printed_element es) ≡ list_all (is_single is_any) es =
    list_all-map (is_single is_any) printed_element es in
    λ i. all i && (named i (codes "nFrames") is_count
    && (named i (codes "nBytes") is_size && named i (codes "seekTOC") is_size))

-- ---- FrTOC

lists-printed : (es : List Element) → lists (map printed_element es) ≡ lists es
lists-printed es =
    let named = has_named-printed es in
    let listed = has_list-printed es in
    λ i kind. named i (count_field kind) is_count
    && (listed i (names_field kind) is_text (count_field kind ∷ [])
    && (listed i (positions_field kind) is_size (count_field kind ∷ frames_field ∷ [])
    || listed i (positions_field kind) is_size (frames_field ∷ count_field kind ∷ [])))

lacks-printed : (es : List Element) → lacks (map printed_element es) ≡ lacks es
lacks-printed es =
    let field = has_field-printed es in
    λ i kind. not (list_any (field i) (count_field kind ∷ names_field kind ∷ positions_field kind ∷ []))

table-printed : (es : List Element) → has_table (map printed_element es) ≡ has_table es
table-printed es =
    let named = has_named-printed es in
    let listed = has_list-printed es in
    let all = lists-printed es in
    let none = lacks-printed es in
    λ i. named i frames_field is_count && (listed i heads_field is_size (frames_field ∷ [])
    && (list_all (all i) (Adc ∷ Proc ∷ Sim ∷ []) && (all i Ser || none i Ser)))

pub fit-printed : (e : Entry) → is_fit (printed_entry e) ≡ is_fit e
fit-printed e =
    let layout = layout-printed e.elements in
    let table = table-printed e.elements in
    λ i. is_some (layout i) && table i
