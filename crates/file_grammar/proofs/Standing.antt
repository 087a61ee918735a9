-- What may stand at a place is what no reason holds of.
use Rattle.std.proofs.Common.{◌≡◌, ℕ, ◌<◌, false, List, length, Some, None, refl, sym, ap, ◌∙◌, subst, arith}
use Rattle.scalar_types.specs.declared.Order.{Order}
use Rattle.file_grammar.specs.Structure.{structure_at}
use Rattle.file_grammar.specs.Described.{IsEntry}
use Rattle.file_grammar.specs.Item.{Item, EntryItem, OtherItem, Before}
use Rattle.file_grammar.specs.MayStand.{StructureMayStand, MayStand}
use Rattle.file_grammar.specs.Fault.{Here, place, kind, structure, reasons, first_of}
use Rattle.file_grammar.specs.Steps.{item_here}
use Rattle.file_grammar.proofs.Lengths.{length-fits}
use Rattle.file_grammar.proofs.Judging.{first_of-kind}
use Rattle.file_grammar.proofs.Unfaulted.{length-none}
use Rattle.file_grammar.proofs.Allowed.{kind-stands}
use Rattle.file_grammar.proofs.Cleared.{entry-clear, structure-clear}

-- what stands at a place of which no reason holds is an item that may stand there
pub may-stand : (h : Here) → h.before.closed ≡ false → place h < length h.file → first_of reasons h ≡ None
    → (item : Item) × (item_here h ≡ Some item) × MayStand h.order h.file h.before item
may-stand h unclosed within none =
    let length = length-none h within none in
    let s = kind-stands h (kind h) unclosed (length-fits h.order h.file (place h) length) refl
    (sym (first_of-kind h within length) ∙ none) in
    (s.item, s.here, s.may)

-- of an item that may stand no reason holds, and it is the one that stands there
pub is-judged : (order : Order) (file : List ℕ) (b : Before) (item : Item) → MayStand order file b item
    → (b.closed ≡ false) × (b.place < length file)
    × (first_of reasons (record { order = order; file = file; before = b }) ≡ None)
    × (item_here (record { order = order; file = file; before = b }) ≡ Some item)
is-judged order file b (EntryItem head run entry) (unclosed, may) =
    let h : Here = record { order = order; file = file; before = b } in
    let same : head ≡ structure h = may.described.stands.is ∙ ap (structure_at order file) may.here in
    let clear = entry-clear h run entry (subst (λ s. IsEntry order file s run entry) same may.described) may.taken in (
      unclosed,
      omega (arith, may.here, may.described.stands.head),
      clear.none,
      clear.here
          ∙ ap (λ s. Some (EntryItem s run entry)) (sym same),
    )
is-judged order file b (OtherItem s) (unclosed, may) =
    let h : Here = record { order = order; file = file; before = b } in
    let same : s ≡ structure h = may.stands.is ∙ ap (structure_at order file) may.here in
    let clear = structure-clear h (subst (λ s. StructureMayStand order file b s) same may) in (
      unclosed,
      omega (arith, may.here, may.stands.head),
      clear.none,
      clear.here
          ∙ ap (λ s. Some (OtherItem s)) (sym same),
    )
