-- The file header (LIGO-T970130 v8, file header), as its table lists it.
use Rattle.std.specs.Prelude.{◌==◌, ℕ, ◌+◌, All, find, Bool, not, if◌then◌else◌, IsTrue, List, [], ◌∷◌, ◌++◌, drop}
use Rattle.std.specs.Prelude.{slice_range, nat_eq, codes, Option, Some, None, Result, Ok, Err}
use Rattle.std.specs.List.{starts_with}
use Rattle.scalar_types.specs.declared.Order.{Order}
use Rattle.scalar_types.specs.declared.Order.TheVariants.{Big, Little}
use Rattle.scalar_types.specs.declared.Width.TheVariants.{Two, Four, Eight}
use Rattle.scalar_types.specs.Number.{number, bytes_of}
use Rattle.frame_head.specs.declared.header.HeadFault.{HeadFault}

-- a part of the header that is judged: these bytes at a place; or this number, at a place and in so many bytes
pub data Part : Type 0 where
  Bytes : (place : ℕ) (bytes : List ℕ) → Part
  Number : (place size value : ℕ) → Part

-- the parts in the order in which they are judged. Byte 6, the minor version, and the bytes from 26 on, pi as
-- REAL_4 and as REAL_8 and two bytes more, are not judged.
abbrev pub parts : List Part
parts =
    Bytes 0 (codes "IGWD" ++ 0 ∷ [])
    ∷ Number 5 1 8  -- the version of the format
    ∷ Number 7 1 2  -- the bytes of an INT_2
    ∷ Number 8 1 4  -- of an INT_4
    ∷ Number 9 1 8  -- of an INT_8
    ∷ Number 10 1 4  -- of a REAL_4
    ∷ Number 11 1 8  -- of a REAL_8
    ∷ Number 12 2 0x1234  -- a known INT_2, which tells the byte order
    ∷ Number 14 4 0x12345678  -- a known INT_4
    ∷ Number 18 8 0x0123456789ABCDEF  -- a known INT_8
    ∷ []

-- the place where a part begins
abbrev pub place_of : Part → ℕ
place_of (Bytes place bytes) = place
place_of (Number place size value) = place

-- whether a part stands in a header, its numbers in this byte order
abbrev pub is_right : Order → List ℕ → Part → Bool
is_right order header (Bytes place bytes) = starts_with nat_eq (drop place header) bytes
is_right order header (Number place size value) = number order (slice_range header place (place + size)) == value

-- a header in a byte order: each part is right
abbrev pub IsHeader : Order → List ℕ → Type 0
IsHeader order header = All (λ part. IsTrue (is_right order header part)) parts

-- the byte order of a header: that in which the two bytes at 12 are 0x1234. Where they are it in neither order,
-- the part at 12 is wrong, whichever order is taken.
abbrev pub order_of : List ℕ → Order
order_of header = if is_right Big header (Number 12 2 0x1234) then Big else Little

-- the first part that is wrong in a byte order
abbrev pub first_wrong : Order → List ℕ → Option Part
first_wrong order header = find (λ part. not (is_right order header part)) parts

-- the answer where this is the first wrong part, or none is wrong
abbrev pub answer_of : Order → Option Part → Result Order HeadFault
answer_of order None = Ok order
answer_of order (Some part) = Err (record { at = place_of part })

-- what a header is read as: its byte order, or a fault at the place of its first wrong part
abbrev pub header_of : List ℕ → Result Order HeadFault
header_of header = answer_of (order_of header) (first_wrong (order_of header) header)

-- the header that is written: minor version 0, each number in little-endian order, pi as a REAL_4 and as a REAL_8,
-- and two bytes of 0
abbrev pub header_bytes : List ℕ
header_bytes =
    codes "IGWD"
    ++ (0 ∷ 8 ∷ 0 ∷ 2 ∷ 4 ∷ 8 ∷ 4 ∷ 8 ∷ [])
    ++ bytes_of Little Two 0x1234
    ++ bytes_of Little Four 0x12345678
    ++ bytes_of Little Eight 0x0123456789ABCDEF
    ++ bytes_of Little Four 0x40490FDB
    ++ bytes_of Little Eight 0x400921FB54442D18
    ++ (0 ∷ 0 ∷ [])
