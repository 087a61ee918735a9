-- A part that holds a number, as the code's table has it.
use Rattle.std.specs.Prelude.{ℕ, ◌+◌, ◌^◌, ◌<◌, ◌≤◌, List, ◌++◌, take, drop}
use Rattle.scalar_types.specs.declared.Order.TheVariants.{Little}
use Rattle.scalar_types.specs.Number.{size_of, bytes_of}
use Rattle.frame_head.specs.declared.header.NumberPart.{NumberPart}
use Rattle.frame_head.specs.Header.{Part, Number}

abbrev pub part_of : NumberPart → Part
part_of part = Number part.0 (size_of part.1) part.2

-- the bytes with the number at its place, in little-endian order
abbrev pub with_part : List ℕ → NumberPart → List ℕ
with_part bytes part =
    take part.0 bytes ++ (bytes_of Little part.1 part.2 ++ drop (part.0 + size_of part.1) bytes)

-- the part stands within the header, and the number fits its width
pub record IsPartOfHeader (part : NumberPart) : Type 0 where
  pub within : part.0 + size_of part.1 ≤ 40
  pub fits : part.2 < 256 ^ size_of part.1
