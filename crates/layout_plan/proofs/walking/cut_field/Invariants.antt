use Rattle.std.proofs.Common.{◌≡◌, ◌+◌, ◌<◌, length}
use Rattle.layout_plan.specs.Marks.{mark_of, place_of}
use Rattle.layout_plan.proofs.walking.cut_field.Given as goal

abbrev pub invariant-loop-i : goal.invariant-loop-i
invariant-loop-i l = record {
  below : l.i < l.k;
  same : (mark_of l.plan l.i).varied ≡ (mark_of l.plan l.k).varied;
  cut : length l.body < place_of l.ends (mark_of l.plan (l.i + 1));
}

abbrev pub decreases-loop-i : goal.decreases-loop-i
decreases-loop-i l = l.i
