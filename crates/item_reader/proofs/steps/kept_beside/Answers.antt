-- What is kept beside the dictionary.
use Rattle.std.proofs.Common.{◌≡◌, ◌<◌, ◌≤◌, false, is_some, sym, ◌∙◌, arith}
use Rattle.std.proofs.lemmas.Bool.{false≢true, lt-ltb}
use Rattle.layout_plan.proofs.LayoutLemmas.{copied-None}
use Rattle.item_reader.proofs.Holding.{not-beside}
use Rattle.item_reader.proofs.steps.kept_beside.Goals as goal
use Rattle.item_reader.proofs.steps.kept_beside.Goals.{then-entry-lt3, else-entry-lt3}

pub returns-else-is_some : goal.returns-else-is_some
returns-else-is_some c = elim c.if-entry-lt3.branch [
  | then-entry-lt3 w ↦
      let low : c.args.entry.now.class < 3 = omega (arith, w.if-entry-lt3.true) in
      absurd (false≢true (sym c.if-is_some.false ∙ w.value-is ∙ lt-ltb c.args.entry.now.class 3 low))
  | else-entry-lt3 w ↦
      let low : 3 ≤ c.args.entry.now.class = omega (arith, w.if-entry-lt3.false) in
      let none : is_some w.held.result ≡ false = sym w.is_some.ensures ∙ sym w.value-is ∙ c.if-is_some.false in
      not-beside c.args.dictionary.now c.args.entry.now low
      (λ high. sym (w.held.ensures.found high) ∙ copied-None w.held.result none)
]
