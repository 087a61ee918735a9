use Rattle.std.proofs.Common.{◌≡◌, ◌↔◌, length, map}
use Rattle.std.specs.List.{AllZip}
use Rattle.std.specs.Slice.Iter.{iter_rest}
use Rattle.std.specs.Iterator.Adapters.{zip_first, zip_second}
use Rattle.layout_plan.specs.Body.{number_of}
use Rattle.record_writer.specs.Fit.{FitsField, Fits}
use Rattle.record_writer.proofs.fitting.each_fits.Given as goal

abbrev pub invariant-loop-field : goal.invariant-loop-field
invariant-loop-field l =
    let fields = iter_rest (zip_first l.field-iterator) in
    let values = iter_rest (zip_second l.field-iterator) in
    record {
      rest : AllZip (λ f v. FitsField
          (map number_of l.values) f.form f.counts v) fields values ↔ Fits l.fields l.values;
      long : length fields ≡ length values;
    }
