use Rattle.std.proofs.Common.{◌≡◌, ◌+◌, ◌<◌, ◌^◌, drop, sum_by}
use Rattle.layout_plan.specs.Body.{text_length}
use Rattle.record_writer.proofs.lengths.texts_length.Given as goal

abbrev pub invariant-loop-text : goal.invariant-loop-text
invariant-loop-text l = record {
  so_far : l.length + sum_by text_length (drop l.text-index l.texts) ≡ sum_by text_length l.texts;
  fits : l.length < 2 ^ 64;
}
