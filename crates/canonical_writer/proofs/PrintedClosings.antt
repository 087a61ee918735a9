-- A closing with printed types may be used as the one that it was printed from.
use Rattle.std.proofs.Common.{◌≡◌, ◌&&◌, ◌||◌, not, ℕ, ◌≤◌, Bool, false, Option, Some, None, IfSome, List, []}
use Rattle.std.proofs.Common.{◌∷◌, ◌++◌, map, is_some, codes, refl, sym, ap, ◌∙◌, subst}
use Rattle.std.specs.Prelude.{option_and_then}
use Rattle.std.specs.Option.{option_map, option_map_or}
use Rattle.std.specs.List.{list_all, list_any}
use Rattle.std.proofs.lemmas.List.{length-map, map-append}
use Rattle.std.proofs.lemmas.List.Folds.{list_all-map}
use Rattle.type_text.specs.declared.types.Base.{Base}
use Rattle.dictionary.specs.declared.entries.Element.{Element}
use Rattle.dictionary.specs.declared.entries.Entry.{Entry}
use Rattle.dictionary.specs.Named.{first_named}
use Rattle.layout_plan.specs.Layout.{named_count, count_in, is_last, field_of, fields_after, layout_of}
use Rattle.file_grammar.specs.Closing.{is_single, is_any, is_count, is_size, has_named, closes}
use Rattle.frame_content.specs.Labels.{printed_element, printed_entry}
use Rattle.contents_table.specs.declared.kind.Kind.{Kind}
use Rattle.contents_table.specs.declared.kind.Kind.TheVariants.{Adc, Proc, Sim, Ser}
use Rattle.contents_table.specs.Channels.{is_text}
use Rattle.contents_table.specs.Fit.{count_field, names_field, positions_field, frames_field, heads_field, is_list}
use Rattle.contents_table.specs.Fit.{has_list, has_field, is_fit}
use Rattle.contents_table.proofs.ListHeads.{first-printed}
use Rattle.canonical_file.specs.declared.closing.Closing.{Closing}
use Rattle.canonical_writer.specs.Parts.{IsUsable, IsUsableTable, IsUsableClosing, printed_closing}
use Rattle.canonical_writer.proofs.PrintedEntries.{printed-are_read}

-- ---- what is asked of elements by their names

-- a test that the printed text does not change, on the first element of a name
named-printed : {X : Type 0} (es : List Element) (name : List ℕ) (test : ℕ × Element → X) (other : X)
    → ((p : ℕ × Element) → test (p.0, printed_element p.1) ≡ test p)
    → option_map_or test (first_named 0 (map printed_element es) name) other
    ≡ option_map_or test (first_named 0 es name) other
named-printed {X} es name test other same =
    ap (λ o. option_map_or test o other) (first-printed 0 es name) ∙ by (first_named 0 es name)
  where
    by : (o : Option (ℕ × Element))
        → option_map_or test (option_map (λ (p : ℕ × Element). (p.0, printed_element p.1)) o) other
        ≡ option_map_or test o other
    by None = refl
    by (Some p) = same p

has-printed : (es : List Element) → has_named (map printed_element es) ≡ has_named es
has-printed es = λ i name passes. named-printed es name (λ found. is_single passes found.1) false (λ p. refl) i

list-printed : (es : List Element) → has_list (map printed_element es) ≡ has_list es
list-printed es = λ i name passes names.
    named-printed es name (λ found. is_list passes names found.1) false (λ p. refl) i

field-there : (es : List Element) → has_field (map printed_element es) ≡ has_field es
field-there es = λ i name. (ap (is_some {T = ℕ × Element}) (first-printed 0 es name) ∙ by (first_named 0 es name)) i
  where
    by : (o : Option (ℕ × Element))
        → is_some {T = ℕ × Element} (option_map (λ (p : ℕ × Element). (p.0, printed_element p.1)) o) ≡ is_some o
    by None = refl
    by (Some p) = refl

-- ---- the end

closes-printed : (es : List Element) → closes (map printed_element es) ≡ closes es
closes-printed es =
    let singles : list_all (is_single is_any) (map printed_element es) ≡ list_all (is_single is_any) es =
    list_all-map (is_single is_any) printed_element es in
    λ i. closes_by (singles i) (has-printed es i)
  where
    closes_by : Bool → (List ℕ → (Base → Bool) → Bool) → Bool
    closes_by singles has =
        singles && (has (codes "nFrames") is_count && (has (codes "nBytes") is_size && has (codes "seekTOC") is_size))

-- ---- tables

-- the test of a table's layout, by what is asked of names
abbrev Has : Type 0
Has = List ℕ → (Base → Bool) → Bool

abbrev HasList : Type 0
HasList = List ℕ → (Base → Bool) → List (List ℕ) → Bool

abbrev lists_by : Has → HasList → Kind → Bool
lists_by has list kind =
    has (count_field kind) is_count
    && (list (names_field kind) is_text (count_field kind ∷ [])
    && (list (positions_field kind) is_size (count_field kind ∷ frames_field ∷ [])
    || list (positions_field kind) is_size (frames_field ∷ count_field kind ∷ [])))

abbrev table_by : Has → HasList → (List ℕ → Bool) → Bool
table_by has list field =
    has frames_field is_count
    && (list heads_field is_size (frames_field ∷ [])
    && (list_all (lists_by has list) (Adc ∷ Proc ∷ Sim ∷ [])
    && (lists_by has list Ser
    || not (list_any field (count_field Ser ∷ names_field Ser ∷ positions_field Ser ∷ [])))))

count-printed : (i : ℕ) (es : List Element) (name : List ℕ)
    → option_and_then named_count (first_named i (map printed_element es) name)
    ≡ option_and_then named_count (first_named i es name)
count-printed i es name = ap (option_and_then named_count) (first-printed i es name) ∙ by (first_named i es name)
  where
    by : (o : Option (ℕ × Element))
        → option_and_then named_count (option_map (λ (p : ℕ × Element). (p.0, printed_element p.1)) o)
        ≡ option_and_then named_count o
    by None = refl
    by (Some p) = refl

last-printed : (es : List Element) → is_last (map printed_element es) ≡ is_last es
last-printed [] = refl
last-printed (e ∷ es) = refl

fields-printed : (earlier es : List Element)
    → fields_after (map printed_element earlier) (map printed_element es) ≡ fields_after earlier es
fields-printed earlier [] = refl
fields-printed earlier (e ∷ es) =
    let counts : count_in (map printed_element earlier) ≡ count_in earlier = λ i name. count-printed 0 earlier name i in
    let rest : fields_after (map printed_element earlier ++ printed_element e ∷ []) (map printed_element es)
    ≡ fields_after (earlier ++ e ∷ []) es =
    ap (λ xs. fields_after xs (map printed_element es)) (sym (map-append printed_element earlier (e ∷ [])))
    ∙ fields-printed (earlier ++ e ∷ []) es in
    λ i. option_and_then (λ f. option_map (λ fs. f ∷ fs) (rest i)) (field_of (counts i) (last-printed es i) e)

-- the layout is the same
pub layout-printed : (es : List Element) → layout_of (map printed_element es) ≡ layout_of es
unfolding layout_of
layout-printed es = fields-printed [] es

fit-printed : (e : Entry) → is_fit (printed_entry e) ≡ is_fit e
fit-printed e =
    let es = e.elements in
    λ i. is_some (layout-printed es i) && table_by (has-printed es i) (list-printed es i) (field-there es i)

-- ---- closings

usable-printed : (e : Entry) → IsUsable e → IsUsable (printed_entry e)
usable-printed e is = record {
  low = is.low;
  high = is.high;
  read = printed-are_read e.elements is.read;
  few = subst (λ n. n ≤ 4096) (sym (length-map e.elements printed_element)) is.few;
}

pub closing-printed : (c : Closing) → IsUsableClosing c → IsUsableClosing (printed_closing c)
closing-printed c is = record {
  end = usable-printed c.end is.end;
  closes = closes-printed c.end.elements ∙ is.closes;
  table = by c.table is.table;
}
  where
    by : (o : Option Entry) → IfSome o (IsUsableTable c.end)
        → IfSome (option_map printed_entry o) (IsUsableTable (printed_entry c.end))
    by None table = tt
    by (Some e) table = record {
      usable = usable-printed e table.usable;
      fit = fit-printed e ∙ table.fit;
      apart = table.apart;
    }
