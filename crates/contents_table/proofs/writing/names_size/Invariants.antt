use Rattle.std.proofs.Common.{◌≡◌, ◌≤◌, map, take, sum_by}
use Rattle.layout_plan.specs.Body.{text_length}
use Rattle.contents_table.specs.Built.{name_in}
use Rattle.contents_table.proofs.writing.names_size.Given as goal

abbrev pub invariant-loop-k : goal.invariant-loop-k
invariant-loop-k l = record {
  so_far : l.size ≡ sum_by text_length (take l.k (map name_in l.names));
  small : l.size ≤ 4294967295;
}
