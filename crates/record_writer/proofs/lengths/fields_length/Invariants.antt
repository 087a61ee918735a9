use Rattle.std.proofs.Common.{◌≡◌, ◌+◌, ◌<◌, ◌^◌}
use Rattle.std.specs.Slice.Iter.{iter_rest}
use Rattle.std.specs.Iterator.Adapters.{zip_first, zip_second}
use Rattle.layout_plan.specs.Body.{values_length}
use Rattle.record_writer.proofs.lengths.fields_length.Given as goal

abbrev pub invariant-loop-field : goal.invariant-loop-field
invariant-loop-field l = record {
  so_far : l.length + values_length (iter_rest (zip_first l.field-iterator)) (iter_rest (zip_second l.field-iterator))
      ≡ values_length l.fields l.values;
  fits : l.length < 2 ^ 64;
}
