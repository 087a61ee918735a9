-- The records so far are the same.
use Rattle.std.specs.Prelude.{◌≡◌, ℕ, ◌<◌, slice_get}
use Rattle.std.specs.Option.{option_map}
use Rattle.canonical_writer.specs.StandingAlike.{stored}
use Rattle.canonical_writer.proofs.same_records.hold_alike.Given as goal

abbrev pub invariant-loop-k : goal.invariant-loop-k
invariant-loop-k l =
    (i : ℕ) → i < l.k
    → option_map stored (slice_get l.first.nodes i) ≡ option_map stored (slice_get l.second.nodes i)
