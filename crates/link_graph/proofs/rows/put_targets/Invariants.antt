-- The targets of the records so far, none of which has a loose link.
use Rattle.std.proofs.Common.{◌≡◌, map, take, drop}
use Rattle.link_graph.specs.Collected.{target_of}
use Rattle.link_graph.specs.Table.{rows_from, start_of, loose_row}
use Rattle.link_graph.proofs.rows.put_targets.Given as goal

abbrev pub invariant-loop-k : goal.invariant-loop-k
invariant-loop-k l = record {
  from : l.from ≡ start_of 0 l.ends l.k;
  put : l.targets.items ≡ map (target_of l.segment.nodes) (take l.from l.links);
  loose : loose_row l.segment.nodes l.k (drop l.k (rows_from 0 l.ends l.links)) ≡ loose_row l.segment.nodes 0
      (rows_from 0 l.ends l.links);
}
