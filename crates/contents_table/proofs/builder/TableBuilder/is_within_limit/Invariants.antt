use Rattle.std.proofs.Common.{◌≡◌, ◌+◌, ◌≤◌, drop}
use Rattle.layout_plan.specs.Body.{values_length}
use Rattle.contents_table.specs.Told.{table_values, table_size}
use Rattle.contents_table.proofs.builder.TableBuilder.is_within_limit.Given as goal

abbrev pub invariant-loop-k : goal.invariant-loop-k
invariant-loop-k l = record {
  so_far : l.size + values_length (drop l.k l.fields) (drop l.k (table_values l.layout l.fields l.self))
      ≡ table_size l.layout l.fields l.self;
  small : l.size ≤ 4294967295;
}
