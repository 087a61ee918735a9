-- A structure (LIGO-T970130 v8, the elements that all structures have in common).
use Rattle.std.specs.Prelude.{◌≡◌, ℕ, ◌≤◌, List, ◌∷◌, ◌++◌, length, slice_index, slice_range}
use Rattle.scalar_types.specs.declared.Order.{Order}
use Rattle.scalar_types.specs.declared.Width.TheVariants.{Four, Eight}
use Rattle.scalar_types.specs.Number.{number, bytes_of}
use Rattle.frame_head.specs.declared.structure.Common.{Common}

-- what the first 14 bytes of a structure say: its length as an INT_8U, the kind of its check sum and its class as
-- an INT_1U each, and its instance as an INT_4U
abbrev pub common_of : Order → List ℕ → Common
common_of order bytes = record {
  length = number order (slice_range bytes 0 8);
  check = slice_index bytes 8;
  class = slice_index bytes 9;
  instance = number order (slice_range bytes 10 14);
}

-- the first 14 bytes of a structure that say this
abbrev pub common_bytes : Order → Common → List ℕ
common_bytes order common =
    bytes_of order Eight common.length ++ (common.check ∷ common.class ∷ bytes_of order Four common.instance)

-- a structure: 14 bytes and a body, together as long as its length says
pub record IsStructure (order : Order) (bytes : List ℕ) : Type 0 where
  pub head : 14 ≤ length bytes
  pub whole : (common_of order bytes).length ≡ length bytes
