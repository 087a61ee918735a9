-- Of the inside. What is made of items, one of each in turn.
use Rattle.std.specs.Prelude.{List}
use Rattle.std.specs.List.{AllZip}

-- These are made of items that are in R.
pub record IsMadeOf {X Y : Type 0} (gives : X → Y → Type 0) (R : List X → Type 0) (made : List Y) : Type 0 where
  pub items : List X
  pub related : R items
  pub each : AllZip gives items made
