use Rattle.std.proofs.Common.{◌≡◌, rules, map}
use Rattle.std.specs.Slice.Iter.{iter_rest}
use Rattle.std.specs.Iterator.Adapters.{zip_first, zip_second}
use Rattle.record_values.specs.Spelling.{IsClosedText}
use Rattle.layout_plan.specs.Body.{number_of}
use Rattle.layout_plan.proofs.AppendLemmas.{Appends-refused}
use Rattle.std.proofs.lemmas.Slice.Zip.{either_empty_from_Zip}
use Rattle.record_writer.proofs.Rests.{AllZip-step, fields_none, fields_more, fields_all}
use Rattle.record_writer.proofs.spelling.push_fields.Goals as goal

pub loop-field-init : goal.loop-field-init
loop-field-init c =
    let first : iter_rest (zip_first c.into_iter-field-iterator.result) ≡ c.args.fields.now = search rules in
    let second : iter_rest (zip_second c.into_iter-field-iterator.result) ≡ c.args.values.now = search rules in
    record {
      fit = rw (first, second) c.requires;
      written = rw (first, second)
          (fields_none (IsClosedText c.args.order) c.args.order (map number_of c.args.values.now) c.args.fields.now
          c.args.values.now c.args.into.now.items);
    }

pub push_field-requires : goal.push_field-requires
push_field-requires c = (_, ((AllZip-step _ _ _ _ _ _ _ c.in-Some.ensures.steps).0 c.loop-field.invariant.fit).0)

pub loop-field-preserved : goal.loop-field-preserved
loop-field-preserved c =
    let fit = (AllZip-step _ _ _ _ _ _ _ c.in-Some.ensures.steps).0 c.loop-field.invariant.fit in
    record {
      fit = fit.1;
      written = fields_more (IsClosedText c.args.order) c.args.order (map number_of c.args.values.now) c.args.fields.now
          c.args.values.now _ _ _ _ _ _ _ _ _ c.in-Some.ensures.steps c.loop-field.invariant.written
          (c.in_ok-push_field.ensures (map number_of c.args.values.now) fit.0);
    }

pub returns-in_err-push_field : goal.returns-in_err-push_field
returns-in_err-push_field c =
    let fit = (AllZip-step _ _ _ _ _ _ _ c.in-Some.ensures.steps).0 c.loop-field.invariant.fit in
    Appends-refused _ _ _ _ _ _ _ c.from_residual.ensures.0 c.loop-field.invariant.written
    (c.push_field.ensures (map number_of c.args.values.now) fit.0)

pub returns : goal.returns
returns c = fields_all _ (IsClosedText c.args.order) c.args.order (map number_of c.args.values.now) c.args.fields.now
    c.args.values.now _ _ _ _
    (either_empty_from_Zip c.loop-field.field-iterator c.next.new.self c.next.result c.in-None.is c.next.ensures.steps)
    c.loop-field.invariant.fit c.loop-field.invariant.written
