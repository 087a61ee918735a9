-- A structure that stands in a file, with its body there.
use Rattle.std.proofs.Common.{◌≡◌, ℕ, ◌+◌, List, length, Option, Some, None, refl, sym, ap, ◌∙◌}
use Rattle.std.specs.Prelude.{IsSome, is_some, option_and_then}
use Rattle.std.proofs.lemmas.Bool.{false≢true}
use Rattle.scalar_types.specs.declared.Order.{Order}
use Rattle.dictionary.specs.declared.entries.Entry.{Entry}
use Rattle.layout_plan.specs.declared.fields.Field.{Field}
use Rattle.layout_plan.specs.Body.{HasBody}
use Rattle.file_grammar.specs.Record.{Reading, reading_by, reading_of, layout_in}
use Rattle.file_grammar.specs.Fault.{Here, place, length_there, entries_before, structure}
use Rattle.item_reader.specs.declared.structure.Placed.{Placed}
use Rattle.item_reader.specs.Placed.{StandsIn, structure_by}
use Rattle.item_reader.proofs.Located.{body-here, told-here}
use Rattle.file_grammar.proofs.Bodies.{reading-again}
use Rattle.file_grammar.proofs.Weights.{layout-sound}

-- this structure, with this body, stands here
abbrev pub StandsHere : Here → Placed → List ℕ → Type 0
StandsHere h p body = StandsIn h.order (place h) p body h.file

pub body-stands : (h : Here) (p : Placed) (body : List ℕ) → StandsHere h p body → (structure h).body ≡ body
body-stands h p body stands = body-here h p stands.placed ∙ sym stands.body_is

pub structure-stands : (h : Here) (p : Placed) (body : List ℕ) → StandsHere h p body
    → structure h ≡ structure_by p body
structure-stands h p body stands = stands.placed.is ∙ ap (structure_by p) (sym stands.body_is)

-- its length is that of its body, and 14
pub size-stands : (h : Here) (p : Placed) (body : List ℕ) → StandsHere h p body → p.length ≡ 14 + length body
    → length_there h ≡ 14 + length (structure h).body
size-stands h p body stands size =
    told-here h p stands.placed
    ∙ size
    ∙ ap (λ (b : List ℕ). 14 + length b) (sym (body-stands h p body stands))

-- a reading that is there
pub some-reading : (o : Option Reading) → IsSome o → (reading : Reading) × (o ≡ Some reading)
some-reading None e = absurd (false≢true e)
some-reading (Some reading) e = (reading, refl)

-- a body that spells the layout of its class reads
pub spelled-reads : (order : Order) (entries_before : List Entry) (p : Placed) (body : List ℕ) (fs : List Field)
    → layout_in entries_before p.class ≡ Some fs → HasBody order fs body
    → IsSome (reading_of order entries_before (structure_by p body))
spelled-reads order entries_before p body fs is spelled =
    ap (λ o. is_some (option_and_then (reading_by order body) o)) is
    ∙ ap is_some (reading-again order body fs spelled.0 spelled.1 (layout-sound entries_before p.class fs is) spelled.2)
