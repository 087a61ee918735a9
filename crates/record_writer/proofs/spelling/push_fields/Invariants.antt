use Rattle.std.proofs.Common.{map}
use Rattle.std.specs.List.{AllZip}
use Rattle.std.specs.Slice.Iter.{iter_rest}
use Rattle.std.specs.Iterator.Adapters.{zip_first, zip_second}
use Rattle.record_values.specs.Spelling.{IsClosedText}
use Rattle.layout_plan.specs.Appends.{Appends}
use Rattle.layout_plan.specs.Body.{number_of}
use Rattle.record_writer.specs.Fit.{FitsField}
use Rattle.record_writer.proofs.Rests.{AreFieldsBefore}
use Rattle.record_writer.proofs.spelling.push_fields.Given as goal

abbrev pub invariant-loop-field : goal.invariant-loop-field
invariant-loop-field l =
    let fields = iter_rest (zip_first l.field-iterator) in
    let values = iter_rest (zip_second l.field-iterator) in
    let numbers = map number_of l.values in
    record {
      fit : AllZip (λ f v. FitsField numbers f.form f.counts v) fields values;
      written : Appends (AreFieldsBefore (IsClosedText l.order) l.order numbers l.fields l.values fields values)
          l.initial.into.items l.into.items;
    }
