use Rattle.std.proofs.Common.{get_or, length, refl, sym, ap, ◌∙◌, arith}
use Rattle.std.proofs.lemmas.Option.{slice_get_read}
use Rattle.layout_plan.specs.Marks.{first_mark}
use Rattle.layout_plan.proofs.MarkLemmas.{marks_from-at, length-marks_from}
use Rattle.layout_plan.proofs.StepLemmas.{width_at-field}
use Rattle.layout_plan.proofs.steps.counter_of.Goals as goal

pub bounds-marks-i : goal.bounds-marks-i
bounds-marks-i c =
    omega (arith, ap length c.requires.marks, length-marks_from first_mark c.args.fields.now, c.requires.field)

pub returns : goal.returns
returns c =
    let f = c.index-fields-i.result in
    let mark = ap (λ marks. get_or marks c.args.i first_mark) c.requires.marks
    ∙ marks_from-at first_mark c.args.fields.now c.args.i first_mark (omega (arith, c.requires.field)) in
    let width = c.single_width.ensures
    ∙ sym (width_at-field c.args.fields.now c.args.i f
    (slice_get_read c.args.fields.now (length c.args.fields.now) c.args.i f refl c.requires.field
    c.index-fields-i.is)) in
    λ t. record { mark = mark t; width = width t; signed = c.args.signed }
