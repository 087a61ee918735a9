-- Items put after others.
use Rattle.std.specs.Prelude.{◌≡◌, List, ◌++◌}

-- The new items are the old ones, and after them some that are in R.
pub record Appends {X : Type 0} (R : List X → Type 0) (old new : List X) : Type 0 where
  pub items : List X
  pub whole : new ≡ old ++ items
  pub related : R items
