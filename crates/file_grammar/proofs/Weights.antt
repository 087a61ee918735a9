-- A record's weight is no less than its length: a text takes no more bytes than where its zero byte closes it.
use Rattle.std.proofs.Common.{◌≡◌, ℕ, ◌+◌, ◌≤◌, List, length, Some, ap, arith}
use Rattle.std.specs.Option.{option_map_or}
use Rattle.std.proofs.lemmas.Option.{option_and_then_some}
use Rattle.scalar_types.specs.declared.Order.{Order}
use Rattle.dictionary.specs.declared.entries.Entry.{Entry}
use Rattle.dictionary.specs.Dictionary.{entry_of}
use Rattle.layout_plan.specs.declared.fields.Field.{Field}
use Rattle.layout_plan.specs.Layout.{layout_of, AreSound}
use Rattle.layout_plan.specs.Body.{values_length}
use Rattle.layout_plan.proofs.LayoutLemmas.{layout_of-sound}
use Rattle.layout_plan.proofs.LengthLemmas.{body-length}
use Rattle.file_grammar.specs.Structure.{Structure, size_of}
use Rattle.file_grammar.specs.Record.{Reading, layout_in, reading_by, reading_of, weight_of}
use Rattle.file_grammar.proofs.Bodies.{reading-found, reading-fields}

-- the layout of a class that is held is sound
pub layout-sound : (held : List Entry) (class : ℕ) (fs : List Field) → layout_in held class ≡ Some fs → AreSound 0 fs
layout-sound held class fs is =
    option_and_then_some (λ e. layout_of e.elements) (entry_of held class) fs is
    (λ e found layout. layout_of-sound e.elements fs layout)

-- A record's weight is no less than its length.
pub size-weight : (order : Order) (held : List Entry) (s : Structure) (r : Reading) → reading_of order held s ≡ Some r
    → size_of s ≤ weight_of order held s
size-weight order held s r read =
    option_and_then_some (reading_by order s.body) (layout_in held s.class) r read (λ fs layout by.
    let spelled = reading-found order s.body fs r (layout-sound held s.class fs layout) by in
    let long = body-length order fs r.values r.tail s.body spelled in
    let weight : weight_of order held s ≡ 14 + (values_length r.fields r.values + length r.tail) =
    ap (λ o. option_map_or (λ (r : Reading). 14 + (values_length r.fields r.values + length r.tail)) o
    (size_of s)) read in
    let same : values_length r.fields r.values ≡ values_length fs r.values =
    ap (λ fs. values_length fs r.values) (reading-fields order s.body fs r by) in
    omega (arith, long, weight, same))
