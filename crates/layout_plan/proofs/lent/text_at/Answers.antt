use Rattle.std.proofs.Common.{Some, sym, ap, ◌∙◌, arith}
use Rattle.record_values.specs.declared.values.Value.TheVariants as value
use Rattle.layout_plan.proofs.LentLemmas.{text-here, text-slice}
use Rattle.layout_plan.proofs.lent.text_at.Goals as goal

pub returns : goal.returns
returns c =
    let placed = c.place_of-placed.result in
    λ values tail body.
    text-here c.args.order c.args.plan.now c.args.body.now c.args.field placed c.requires.text c.place_of-placed.ensures
    values tail body
    ∙ ap (λ text. Some (value.Text text))
    (sym (text-slice c.args.body.now placed.start placed.length _ (omega arith) c.place_of-placed.ensures.within)
    ∙ sym c.text_of.ensures)
