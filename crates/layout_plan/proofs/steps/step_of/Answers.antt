use Rattle.std.proofs.Common.{◌*◌, ◌-◌, ◌^◌, min, get_or, length, refl, sym, ap, ◌∙◌, arith}
use Rattle.std.proofs.lemmas.Option.{slice_get_read, same_Some}
use Rattle.layout_plan.specs.declared.fields.Field.{Field}
use Rattle.layout_plan.specs.Marks.{first_mark, product_by, numeral_of}
use Rattle.layout_plan.specs.Steps.{items_of, unit_of, counters_of}
use Rattle.layout_plan.proofs.SpelledLemmas.{capped-product}
use Rattle.layout_plan.proofs.MarkLemmas.{marks_from-at, length-marks_from}
use Rattle.layout_plan.proofs.StepLemmas.{sound-within}
use Rattle.layout_plan.proofs.steps.step_of.Goals as goal

pub bounds-marks-i : goal.bounds-marks-i
bounds-marks-i c =
    omega (arith, ap length c.requires.marks, length-marks_from first_mark c.args.fields.now, c.requires.field)

pub counters_of-requires-clause-earlier : goal.counters_of-requires-clause-earlier
counters_of-requires-clause-earlier c =
    let f = c.index-fields-i.result in
    let here = slice_get_read c.args.fields.now (length c.args.fields.now) c.args.i f refl c.requires.field
    c.index-fields-i.is in
    sound-within c.args.fields.now c.args.i f c.as_slice-counts.result.now c.requires.sound c.requires.field here
    c.as_slice-counts.ensures

pub returns : goal.returns
returns c = λ f is.
    let here = slice_get_read c.args.fields.now (length c.args.fields.now) c.args.i c.index-fields-i.result refl
    c.requires.field c.index-fields-i.is in
    let same = same_Some c.index-fields-i.result f (sym here ∙ is) in
    let mark = ap (λ marks. get_or marks c.args.i first_mark) c.requires.marks
    ∙ marks_from-at first_mark c.args.fields.now c.args.i first_mark (omega (arith, c.requires.field)) in
    let counts = c.as_slice-counts.ensures ∙ ap (λ (f : Field). f.counts) same in
    let items = c.items_of.ensures ∙ ap (λ (f : Field). items_of f.form f.counts) same in
    let numerals = ap (product_by numeral_of) counts in
    let unit = c.unit_of.ensures ∙ ap (λ (f : Field). unit_of f.form) same in
    let factor = c.capped_product.ensures ∙ ap (λ n. min (n * c.unit_of.result) (2 ^ 64 - 1)) c.factor_of.ensures
    ∙ capped-product (product_by numeral_of c.as_slice-counts.result.now) c.unit_of.result (2 ^ 64 - 1)
    ∙ ap (λ n. min (n * c.unit_of.result) (2 ^ 64 - 1)) numerals
    ∙ ap (λ u. min (product_by numeral_of f.counts * u) (2 ^ 64 - 1)) unit in
    let counters = c.in_ok-counters.ensures ∙ ap (counters_of c.args.fields.now) counts in
    λ t. record { field = c.args.i; mark = mark t; items = items t; factor = factor t; counters = counters t }
