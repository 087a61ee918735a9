use Rattle.std.proofs.Common.{◌≡◌, arith, rules}
use Rattle.layout_plan.specs.Body.{values_length}
use Rattle.std.proofs.lemmas.Slice.Zip.{either_empty_from_Zip}
use Rattle.record_writer.proofs.Rests.{values_length-step, values_length-end}
use Rattle.record_writer.proofs.lengths.fields_length.Goals as goal

pub loop-field-init : goal.loop-field-init
loop-field-init c = record { so_far = search rules; fits = omega arith }

pub returns-in_err-value_length : goal.returns-in_err-value_length
returns-in_err-value_length c =
    let step = values_length-step _ _ _ _ _ _ c.in-Some.ensures.steps in
    rw c.from_residual.ensures
    (λ fits. c.in_err-value_length.ensures (omega (arith, step, c.loop-field.invariant.so_far)))

pub returns-in_err-length : goal.returns-in_err-length
returns-in_err-length c =
    let step = values_length-step _ _ _ _ _ _ c.in-Some.ensures.steps in
    rw c.from_residual-in_err-length.ensures
    (λ fits. c.in_err-length.ensures
    (omega (arith, step, c.in_ok-value_length.ensures, c.loop-field.invariant.so_far)))

pub loop-field-preserved : goal.loop-field-preserved
loop-field-preserved c =
    let step = values_length-step _ _ _ _ _ _ c.in-Some.ensures.steps in
    record {
      so_far = omega (arith, step, c.in_ok-value_length.ensures, c.in_ok-length.ensures, c.loop-field.invariant.so_far);
      fits = omega (arith, c.in_ok-length.ensures);
    }

pub returns : goal.returns
returns c =
    let none = values_length-end _ _
    (either_empty_from_Zip c.loop-field.field-iterator c.next.new.self c.next.result c.in-None.is
    c.next.ensures.steps) in
    let all : c.loop-field.length ≡ values_length c.args.fields.now c.args.values.now =
    omega (arith, none, c.loop-field.invariant.so_far) in
    (omega (arith, all, c.loop-field.invariant.fits), all)
