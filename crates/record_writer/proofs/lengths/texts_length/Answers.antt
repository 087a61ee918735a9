use Rattle.std.proofs.Common.{◌≡◌, arith, rules, sum_by, zero-add, ap}
use Rattle.std.proofs.lemmas.List.{drop_all}
use Rattle.layout_plan.specs.Body.{text_length}
use Rattle.record_writer.proofs.Numbers.{rest_more}
use Rattle.record_writer.proofs.lengths.texts_length.Goals as goal

pub loop-text-init : goal.loop-text-init
loop-text-init c = record { so_far = zero-add (sum_by text_length c.args.texts.now); fits = omega arith }

pub returns-in_err-text_length : goal.returns-in_err-text_length
returns-in_err-text_length c =
    let more = rest_more text_length c.args.texts.now c.loop-text.text-index c.text-item.result c.text-item.result
    (search rules) c.text-item.is in
    rw c.from_residual.ensures
    (λ fits. c.in_err-text_length.ensures (omega (arith, more, c.loop-text.invariant.so_far)))

pub returns-in_err-length : goal.returns-in_err-length
returns-in_err-length c =
    let more = rest_more text_length c.args.texts.now c.loop-text.text-index c.text-item.result c.text-item.result
    (search rules) c.text-item.is in
    rw c.from_residual-in_err-length.ensures
    (λ fits. c.in_err-length.ensures (omega (arith, more, c.in_ok-text_length.ensures, c.loop-text.invariant.so_far)))

pub loop-text-preserved : goal.loop-text-preserved
loop-text-preserved c =
    let more = rest_more text_length c.args.texts.now c.loop-text.text-index c.text-item.result c.text-item.result
    (search rules) c.text-item.is in
    record {
      so_far = omega (arith, more, c.in_ok-text_length.ensures, c.in_ok-length.ensures, c.loop-text.invariant.so_far);
      fits = omega (arith, c.in_ok-length.ensures);
    }

pub returns : goal.returns
returns c =
    let none = ap (sum_by text_length) (drop_all c.loop-text.text-index c.args.texts.now (search rules)) in
    let all : c.loop-text.length ≡ sum_by text_length c.args.texts.now =
    omega (arith, none, c.loop-text.invariant.so_far) in
    (omega (arith, all, c.loop-text.invariant.fits), all)
