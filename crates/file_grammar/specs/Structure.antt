-- A structure where it stands in a file, and how large structures and files may be (LIGO-T970130 v8, the elements that
-- all structures have in common).
use Rattle.std.specs.Prelude.{◌≡◌, ℕ, ◌+◌, ◌-◌, ◌≤◌, List, length, drop, slice_range}
use Rattle.scalar_types.specs.declared.Order.{Order}
use Rattle.frame_head.specs.declared.structure.Common.{Common}
use Rattle.frame_head.specs.Structure.{common_of}

-- the most bytes of a structure, of a record's weight and of the weights of a frame's records together
abbrev pub record_limit : ℕ
record_limit = 4294967295

-- the most bytes of a file
abbrev pub file_limit : ℕ
file_limit = 4611686018427387904

-- a structure: its place in bytes from the beginning of the file, its class and instance, and its body
pub record Structure : Type 0 where
  pub at : ℕ
  pub class : ℕ
  pub instance : ℕ
  pub body : List ℕ

-- its bytes: the 14 that tell its length, its class and its instance, and those of its body
abbrev pub size_of : Structure → ℕ
size_of s = 14 + length s.body

-- the place after it
abbrev pub end_of : Structure → ℕ
end_of s = s.at + size_of s

-- what the 14 bytes at a place say
abbrev pub common_at : Order → List ℕ → ℕ → Common
common_at order file at = common_of order (drop at file)

-- the bytes from a place to the end of the file
abbrev pub left_at : List ℕ → ℕ → ℕ
left_at file at = length file - at

-- the structure at a place, as the 14 bytes there tell it; where the file ends before it does, its body is what there
-- is
abbrev pub structure_at : Order → List ℕ → ℕ → Structure
structure_at order file at = record {
  at = at;
  class = (common_at order file at).class;
  instance = (common_at order file at).instance;
  body = slice_range (drop at file) 14 (common_at order file at).length;
}

-- the structure stands in the file, whole and within the limits
pub record StandsWhole (order : Order) (file : List ℕ) (s : Structure) : Type 0 where
  pub is : s ≡ structure_at order file s.at
  pub head : s.at + 14 ≤ length file
  pub whole : (common_at order file s.at).length ≡ size_of s
  pub small : size_of s ≤ record_limit
  pub within : end_of s ≤ file_limit
