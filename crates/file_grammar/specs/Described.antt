-- The entries of a dictionary as a file has them: an FrSH, and the run of FrSEs after it (LIGO-T970130 v8, dictionary
-- structures).
use Rattle.std.specs.Prelude.{◌≡◌, ℕ, zero, suc, ◌+◌, ◌==◌, ◌&&◌, nat_le, ⊤, Bool, if◌then◌else◌, List, [], ◌∷◌, map}
use Rattle.std.specs.Prelude.{sum_by, Option, Some, None, option_and_then}
use Rattle.std.specs.Option.{option_map_or}
use Rattle.scalar_types.specs.declared.Order.{Order}
use Rattle.type_text.specs.TypeText.{type_of}
use Rattle.record_values.specs.declared.values.Value.{Value}
use Rattle.record_values.specs.declared.values.Value.TheVariants as value
use Rattle.dictionary.specs.declared.entries.Element.{Element}
use Rattle.dictionary.specs.declared.entries.Entry.{Entry}
use Rattle.layout_plan.specs.Body.{IsBody}
use Rattle.layout_plan.specs.BuiltIn.{structure_fields, element_fields}
use Rattle.file_grammar.specs.Structure.{Structure, size_of, end_of, record_limit, file_limit, common_at, left_at}
use Rattle.file_grammar.specs.Structure.{structure_at, StandsWhole}
use Rattle.file_grammar.specs.Record.{reading_by}

-- the element that an FrSE's values are: its name, its type's text and its comment
abbrev pub element_of : List Value → Option Element
element_of (value.Text name ∷ value.Text text ∷ value.Text comment ∷ []) =
    Some (record { name = name; ty = type_of text; text = text; comment = comment })
element_of values = None

-- the entry of an FrSH's values, its name, its class and its comment, and of the elements after it
abbrev pub entry_with : List Element → List Value → Option Entry
entry_with elements (value.Text name ∷ value.Num class ∷ value.Text comment ∷ []) =
    Some (record { class = class; name = name; comment = comment; elements = elements })
entry_with elements values = None

-- whether a structure stands at a place, whole and within the limits
abbrev pub is_whole : Order → List ℕ → ℕ → Bool
is_whole order file at =
    nat_le 14 (left_at file at)
    && (nat_le 14 (common_at order file at).length
    && (nat_le (common_at order file at).length record_limit
    && (nat_le (common_at order file at).length (left_at file at)
    && nat_le (at + (common_at order file at).length) file_limit)))

-- the element of an FrSE that stands at a place, whole and within the limits, and reads
abbrev pub element_at : Order → List ℕ → ℕ → Option Element
element_at order file at =
    if is_whole order file at && (structure_at order file at).class == 2
    then option_and_then (λ r. element_of r.values)
    (reading_by order (structure_at order file at).body element_fields) else None

-- the run of FrSEs from a place on with their elements, at most n of them: as many as stand one after another
unfoldable pub run_at : ℕ → Order → List ℕ → ℕ → List (Structure × Element)
run_at zero order file at = []
run_at (suc n) order file at =
    option_map_or (λ element. (structure_at order file at, element)
    ∷ run_at n order file (end_of (structure_at order file at))) (element_at order file at) []

-- the longest run from a place on: each of its structures takes bytes, so there are no more of them than bytes are left
abbrev pub longest_run : Order → List ℕ → ℕ → List (Structure × Element)
longest_run order file at = run_at (left_at file at) order file at

-- the entry that begins with a structure, where its body reads as that of an FrSH
abbrev pub entry_from : Order → List ℕ → Structure → Option Entry
entry_from order file head =
    option_and_then (λ r. entry_with (map (λ element. element.1) (longest_run order file (end_of head))) r.values)
    (reading_by order head.body structure_fields)

-- The structure is an FrSE that stands in the file, and this is its element.
pub record IsElement (order : Order) (file : List ℕ) (s : Structure) (e : Element) : Type 0 where
  pub stands : StandsWhole order file s
  pub class : s.class ≡ 2
  pub tail : List ℕ
  pub body : IsBody order element_fields (value.Text e.name ∷ value.Text e.text ∷ value.Text e.comment ∷ []) tail s.body
  pub type : e.ty ≡ type_of e.text

-- these FrSEs stand one after another from a place on, and these are their elements
abbrev pub AreElements : Order → List ℕ → ℕ → List Structure → List Element → Type 0
AreElements order file at [] [] = ⊤
AreElements order file at (s ∷ ss) (e ∷ es) = (s.at ≡ at) × IsElement order file s e
    × AreElements order file (end_of s) ss es
AreElements order file at [] (e ∷ es) = ⊥
AreElements order file at (s ∷ ss) [] = ⊥

-- An FrSH that stands in the file with the longest run of FrSEs right after it, and the entry that they are.
pub record IsEntry (order : Order) (file : List ℕ) (head : Structure) (run : List Structure)
    (entry : Entry) : Type 0 where
  pub stands : StandsWhole order file head
  pub class : head.class ≡ 1
  pub tail : List ℕ
  pub body : IsBody order structure_fields
      (value.Text entry.name ∷ value.Num entry.class ∷ value.Text entry.comment ∷ []) tail head.body
  pub elements : AreElements order file (end_of head) run entry.elements
  pub longest : (s : Structure) (e : Element) → s.at ≡ end_of head + sum_by size_of run → IsElement order file s e → ⊥
