use Rattle.std.proofs.Common.{◌≡◌, ◌*◌, ◌≤◌, take}
use Rattle.canonical_writer.proofs.EndBytes.{items_size}
use Rattle.canonical_writer.proofs.end_values.end_size.Given as goal

abbrev pub invariant-loop-field : goal.invariant-loop-field
invariant-loop-field l = record {
  sum : l.size ≡ items_size (take l.field-index l.fields);
  small : l.size ≤ 16 * l.field-index;
}
