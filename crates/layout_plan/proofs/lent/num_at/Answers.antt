use Rattle.std.proofs.Common.{length, refl, ap, ◌∙◌}
use Rattle.std.proofs.lemmas.List.{take_rest}
use Rattle.std.proofs.lemmas.Option.{slice_get_read}
use Rattle.layout_plan.specs.Walking.{number_at}
use Rattle.layout_plan.proofs.LentLemmas.{number-here}
use Rattle.layout_plan.proofs.lent.num_at.Goals as goal

pub returns : goal.returns
returns c =
    let f = c.index-fields-field.result in
    let is = slice_get_read c.args.plan.now (length c.args.plan.now) c.args.field f refl c.requires.field
    (rw c.fields.ensures.fields at c.index-fields-field.is) in
    let number = c.number_at.ensures
    ∙ ap (number_at c.args.order f.form f.counts) (take_rest c.args.body.now c.place_of-start.result.start) in
    number-here c.args.order c.args.plan.now c.args.body.now c.args.field c.number_at.result f c.place_of-start.result
    c.requires.number c.place_of-start.ensures is number
