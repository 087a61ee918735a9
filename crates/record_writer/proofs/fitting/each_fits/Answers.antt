use Rattle.std.proofs.Common.{◌≡◌, rules, refl, map}
use Rattle.std.specs.Slice.Iter.{iter_rest}
use Rattle.std.specs.Iterator.Adapters.{zip_first, zip_second}
use Rattle.layout_plan.specs.Body.{number_of}
use Rattle.record_writer.specs.Fit.{FitsField}
use Rattle.std.proofs.lemmas.Slice.Zip.{either_empty_from_Zip}
use Rattle.record_writer.proofs.Rests.{AllZip-step, AllZip-end, length-step}
use Rattle.record_writer.proofs.fitting.each_fits.Goals as goal

pub loop-field-init : goal.loop-field-init
loop-field-init c =
    let first : iter_rest (zip_first c.into_iter-field-iterator.result) ≡ c.args.fields.now = search rules in
    let second : iter_rest (zip_second c.into_iter-field-iterator.result) ≡ c.args.values.now = search rules in
    record {
      rest = rw (first, second) (λ fit. fit, λ fit. fit);
      long = rw (first, second) c.requires.long;
    }

pub returns-then-not-field_fits : goal.returns-then-not-field_fits
returns-then-not-field_fits c =
    let tells = rw c.put_numbers.ensures at c.if-not-field_fits.ensures in (
      λ no. cc,
      λ fit. tells.1
          ((AllZip-step _ _ _ _ _ _ _ c.in-Some.ensures.steps).0 (c.loop-field.invariant.rest.1 fit)).0,
    )

pub loop-field-preserved : goal.loop-field-preserved
loop-field-preserved c =
    let tells = rw c.put_numbers.ensures at c.if-not-field_fits.ensures in
    let step = AllZip-step (λ f v. FitsField (map number_of c.args.values.now) f.form f.counts v) _ _ _ _ _ _
    c.in-Some.ensures.steps in
    record {
      rest = (
        λ more. c.loop-field.invariant.rest.0 (step.1 (tells.0 refl, more)),
        λ fit. (step.0 (c.loop-field.invariant.rest.1 fit)).1,
      );
      long = length-step _ _ _ _ _ _ c.in-Some.ensures.steps c.loop-field.invariant.long;
    }

pub returns : goal.returns
returns c = (
  λ yes. c.loop-field.invariant.rest.0
      (AllZip-end _ _ _ (either_empty_from_Zip c.loop-field.field-iterator c.next.new.self c.next.result c.in-None.is
      c.next.ensures.steps) c.loop-field.invariant.long),
  λ fit. search rules,
)
