-- The text of a structure of a class that the dictionary holds.
use Rattle.std.proofs.Common.{◌≡◌, ℕ, List, [], ◌++◌, Option, Some, ap, ◌∙◌}
use Rattle.std.specs.Option.{option_map_or, option_and_then}
use Rattle.scalar_types.specs.declared.Order.{Order}
use Rattle.dictionary.specs.declared.entries.Element.{Element}
use Rattle.dictionary.specs.declared.entries.Entry.{Entry}
use Rattle.dictionary.specs.Dictionary.{entry_of}
use Rattle.layout_plan.specs.Layout.{layout_of}
use Rattle.dumper.specs.Lines.{structure_line, body_text, structure_text}

-- by the entry's name and elements
pub structure_text-held : (order : Order) (held : List Entry) (at class instance length : ℕ) (body : List ℕ) (e : Entry)
    (name : List ℕ) (elements : List Element) → Some e ≡ entry_of held class → name ≡ e.name → elements ≡ e.elements
    → structure_line name at class instance length ++ body_text order elements (layout_of elements) body
    ≡ structure_text order held at class instance length body
structure_text-held order held at class instance length body e name elements is named made =
    ap (λ n. structure_line n at class instance length ++ body_text order elements (layout_of elements) body) named
    ∙ ap (λ es. structure_line e.name at class instance length ++ body_text order es (layout_of es) body) made
    ∙ ap by is
  where
    by : Option Entry → List ℕ
    by o =
        structure_line (option_map_or (λ (e : Entry). e.name) o []) at class instance length
        ++ body_text order (option_map_or (λ (e : Entry). e.elements) o [])
        (option_and_then (λ (e : Entry). layout_of e.elements) o) body
