use Rattle.std.proofs.Common.{◌-◌, ◌≤◌, List, length, drop}
use Rattle.record_values.specs.declared.values.Value.{Value}
use Rattle.dumper.specs.Page.{pending}
use Rattle.dumper.specs.Items.{AreSingles}
use Rattle.dumper.proofs.ListedItems.{PrintedSoFar}
use Rattle.dumper.proofs.values.print_list.Given as goal

-- the items so far
abbrev pub invariant-loop-at : goal.invariant-loop-at
invariant-loop-at g l = record {
  within : l.at ≤ length l.bytes;
  printed : (items : List Value) → AreSingles l.order l.form items l.bytes
      → PrintedSoFar (g.O.Sink.output l.fn.out) (g.O.Sink.output l.out) (pending l.fn.page)
      (pending l.page) l.base l.order l.form
      items l.at (drop l.at l.bytes);
}

abbrev pub decreases-loop-at : goal.decreases-loop-at
decreases-loop-at g l = length l.bytes - l.at
