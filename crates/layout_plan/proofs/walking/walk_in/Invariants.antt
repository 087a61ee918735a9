use Rattle.std.proofs.Common.{◌≡◌, ℕ, ◌+◌}
use Rattle.std.specs.Prelude.{slice_index_or}
use Rattle.layout_plan.specs.Marks.{end_of}
use Rattle.layout_plan.specs.Steps.{counted_by, no_step, steps_of}
use Rattle.layout_plan.specs.Walking.{IsWalked}
use Rattle.layout_plan.proofs.walking.walk_in.Given as goal

-- what the counters of the last step count is kept
abbrev pub invariant-loop-j : goal.invariant-loop-j
invariant-loop-j l = record {
  walked : IsWalked l.order l.plan l.body l.j l.ends l.zero_texts;
  at : l.at ≡ end_of l.ends l.j;
  counted : (i : ℕ) → i + 1 ≡ l.j
      → l.counted ≡ counted_by l.order l.body l.ends (slice_index_or (steps_of l.plan) i no_step).counters;
}
