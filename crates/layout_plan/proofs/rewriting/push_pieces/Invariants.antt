use Rattle.std.proofs.Common.{◌≡◌, ◌≤◌}
use Rattle.layout_plan.specs.Appends.{Appends}
use Rattle.layout_plan.specs.Marks.{mark_of, place_of}
use Rattle.layout_plan.proofs.PieceLemmas.{ArePieces}
use Rattle.layout_plan.proofs.rewriting.push_pieces.Given as goal

abbrev pub invariant-loop-k : goal.invariant-loop-k
invariant-loop-k l = record {
  forward : l.from ≤ l.at;
  here : l.at ≡ place_of l.ends (mark_of l.plan l.k);
  grown : Appends (λ bytes. Unit {0}) l.fn.into.items l.into.items;
  pieces : ArePieces l.plan l.body l.links l.k l.next l.from l.at l.fn.into.items l.into.items;
}
